use native.Mathlib.Omega.{arith}
use mathlib.Core.Logic.{⊎_elim}
use Rattle.meaning.specs.Decode.{binary_of}
use Rattle.meaning.proofs.Operators.{answer_range}
use Rattle.operators.proofs.answer_of.Goals as goal

pub returns-in_default : goal.returns-in_default
returns-in_default c = (
  cc,
  ⊎_elim (λ u. omega (arith, c.entry_of.ensures)) (λ u. absurd (omega (arith, c.entry_of.ensures)))
      (answer_range (binary_of c.args.op) c.args.left c.args.right).says,
)
