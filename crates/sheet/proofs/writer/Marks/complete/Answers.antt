use Rattle.meaning.specs.Base.{test◌then◌else◌}
use Rattle.sheet.specs.Marks.{completed}
use borrow.Author.Tests.{eq-eqb, ne_eqb}
use Rattle.sheet.proofs.writer.Marks.complete.Goals as goal

pub returns-then-self-i-eq-UNMET : goal.returns-then-self-i-eq-UNMET
unfolding completed test◌then◌else◌
returns-then-self-i-eq-UNMET c =
    rw (eq-eqb _ _ c.if-self-i-eq-UNMET.true)

pub returns-else-self-i-eq-UNMET : goal.returns-else-self-i-eq-UNMET
unfolding completed test◌then◌else◌
returns-else-self-i-eq-UNMET c =
    rw (ne_eqb _ _ c.if-self-i-eq-UNMET.false)
