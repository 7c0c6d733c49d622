use mathlib.Core.Logic.{⊎_elim, inl, inr}
use native.Mathlib.Omega.{arith}
use Rattle.stmt.proofs.Cells.{points_at, points_nowhere}
use Rattle.stmt.proofs.first_place.Goals as goal

pub returns-in_err-notes : goal.returns-in_err-notes
returns-in_err-notes c =
    rw (c.from_residual.ensures, c.in_err-notes.was) (points_nowhere 0 _ (⊎_elim (λ z. absurd (omega arith)) (λ z. absurd (omega arith))))

pub returns-in-25 : goal.returns-in-25
returns-in-25 c =
    rw c.in_ok-notes.was (points_at c.in_ok-notes.field-0 _ c.in-25.is)

pub returns-in_default : goal.returns-in_default
returns-in_default c =
    rw c.in_ok-notes.was (points_nowhere c.in_ok-notes.field-0 _ (λ z. grind arith))
