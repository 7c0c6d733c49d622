use Rattle.meaning.specs.Base.{test◌then◌else◌}
use Rattle.rules.specs.Leaves.{second_code}
use Rattle.rules.proofs.second_code.Goals as goal

pub returns-then-filters : goal.returns-then-filters
unfolding second_code test◌then◌else◌
returns-then-filters c =
    rw c.if-filters.true

pub returns-else-filters : goal.returns-else-filters
unfolding second_code test◌then◌else◌
returns-else-filters c =
    rw c.if-filters.false
