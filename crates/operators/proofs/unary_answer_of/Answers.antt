use native.Mathlib.Omega.{arith}
use mathlib.Core.Logic.{⊎_elim}
use Rattle.meaning.specs.Decode.{unary_of}
use Rattle.meaning.proofs.Operators.{unary_range}
use Rattle.operators.proofs.unary_answer_of.Goals as goal

pub returns-in_default : goal.returns-in_default
returns-in_default c = (
  cc,
  ⊎_elim (λ u. u) (λ u. absurd (omega (arith, c.unary_entry_of.ensures))) (unary_range (unary_of c.args.op) c.args.kind).says,
)
