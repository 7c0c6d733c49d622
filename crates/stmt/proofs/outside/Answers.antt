use native.Mathlib.Omega.{arith}
use Rattle.codes.specs.Codes.{code_number}
use Rattle.codes.proofs.Laws.{least_code}
use Rattle.stmt.proofs.Cells.{outside_ill, outside_well}
use Rattle.stmt.proofs.outside.Goals as goal

pub returns-then-looped : goal.returns-then-looped
returns-then-looped c = outside_well _ (code_number c.args.code) c.if-looped.true

pub returns-else-looped : goal.returns-else-looped
returns-else-looped c = outside_ill _ (λ z. omega (arith, least_code c.args.code)) c.if-looped.false c.refuse.ensures
