use Rattle.sheet.proofs.Ending.{stand_not, stand_next, stand_end}
use native.Mathlib.Omega.{arith}
use Rattle.sheet.proofs.reader.texts_stand.Goals as goal

pub returns-then-not-text_stands : goal.returns-then-not-text_stands
returns-then-not-text_stands c =
    stand_not c.loop-name.invariant (omega arith) c.text-spelling.ensures c.text_stands.ensures c.if-not-text_stands.true

pub loop-name-preserved : goal.loop-name-preserved
loop-name-preserved c =
    stand_next c.loop-name.invariant (omega arith) c.text-spelling.ensures c.text_stands.ensures c.if-not-text_stands.false

pub returns : goal.returns
returns c =
    stand_end c.loop-name.invariant (λ h. absurd (omega arith))
