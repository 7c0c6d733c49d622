use mathlib.Core.Path.{◌≡◌, ap, ◌∙◌}
use mathlib.Core.Logic.{⊎_elim}
use native.Mathlib.Omega.{arith}
use Rattle.std.specs.Prelude.{Err}
use Rattle.stmt.specs.Contract.{Answer}
use Rattle.stmt.specs.declared.Stop.TheVariants.{TooDeep}
use Rattle.stmt.proofs.Cells.{points_nowhere}
use Rattle.stmt.proofs.place_of_end.Goals as goal

pub returns-in-Err-TooDeep : goal.returns-in-Err-TooDeep
returns-in-Err-TooDeep c =
    let e : ◌≡◌ {A = Answer} c.args.end (Err TooDeep) = c.in-Err-TooDeep.is ∙ ap Err (rw c.in-Err-TooDeep.is at c.in-Err-TooDeep.field-0-is) in
    rw e (points_nowhere 9 _ (⊎_elim (λ z. absurd (omega arith)) (λ z. absurd (omega arith))))

pub returns-in-Ok : goal.returns-in-Ok
returns-in-Ok c =
    rw c.in-Ok.is (points_nowhere 0 _ (⊎_elim (λ z. absurd (omega arith)) (λ z. absurd (omega arith))))
