use Rattle.sheet.proofs.Reading.{gather_first, gather_next, gather_end}
use native.Mathlib.Omega.{arith}
use Rattle.sheet.proofs.reader.gather.Goals as goal

pub loop-j-init : goal.loop-j-init
loop-j-init c =
    gather_first c.requires (omega arith)

pub loop-j-preserved : goal.loop-j-preserved
loop-j-preserved c =
    gather_next c.loop-j.invariant c.loop-j-test.true c.word_at.ensures.value c.number_in.ensures.value

pub returns : goal.returns
returns c =
    gather_end c.loop-j.invariant (λ h. absurd (omega (arith, c.loop-j-test.false)))
