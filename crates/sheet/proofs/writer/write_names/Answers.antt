use Rattle.sheet.proofs.Areas.{names_next, names_end}
use native.Mathlib.Omega.{arith}
use Rattle.sheet.proofs.writer.write_names.Goals as goal

pub loop-k-preserved : goal.loop-k-preserved
loop-k-preserved c =
    names_next c.loop-k.invariant (omega arith) c.number_of-ty.ensures.number_of c.put_three.ensures

pub returns : goal.returns
returns c =
    names_end c.loop-k.invariant (λ h. absurd (omega arith))
