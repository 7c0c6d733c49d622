use Rattle.sheet.proofs.Areas.{texts_next, texts_end}
use native.Mathlib.Omega.{arith}
use Rattle.sheet.proofs.writer.write_texts.Goals as goal

pub loop-name-preserved : goal.loop-name-preserved
loop-name-preserved c =
    texts_next c.loop-name.invariant (omega arith) c.text.ensures c.put-at.ensures.buf_after c.put-at.ensures.value

pub returns : goal.returns
returns c =
    texts_end c.loop-name.invariant (λ h. absurd (omega arith))
