use borrow.Author.Tests.{ne_eqb}
use Rattle.codes.specs.declared.Code.TheVariants.{NotSubscriptable}
use Rattle.codes.specs.Codes.{code_number}
use Rattle.codes.proofs.Laws.{same_code}
use Rattle.meaning.specs.Base.{test◌then◌else◌}
use Rattle.rules.specs.Leaves.{index_place}
use Rattle.nodes.proofs.index_place.Goals as goal

pub returns-in-Ok : goal.returns-in-Ok
unfolding index_place test◌then◌else◌
returns-in-Ok c =
    rw c.in-Ok.is

pub returns-in-NotSubscriptable : goal.returns-in-NotSubscriptable
unfolding index_place test◌then◌else◌
returns-in-NotSubscriptable c =
    rw (c.in-Err.is, c.in-NotSubscriptable.is)

pub returns-in_default : goal.returns-in_default
unfolding index_place test◌then◌else◌
returns-in_default c =
    rw (c.in-Err.is, ne_eqb (code_number c.in-Err.why.code) 50 (λ e. c.in_default.not-NotSubscriptable (same_code _ NotSubscriptable e)))
