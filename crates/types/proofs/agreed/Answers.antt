use Rattle.types.proofs.Answers.{agree_new, agree_old, agree_not}
use Rattle.types.proofs.agreed.Goals as goal

pub returns-then-a-b : goal.returns-then-a-b
returns-then-a-b c =
    agree_new _ _ c.if-a-b.either

pub returns-then-b-eq-UNKNOWN : goal.returns-then-b-eq-UNKNOWN
returns-then-b-eq-UNKNOWN c =
    agree_old _ _ c.if-a-b.false c.if-b-eq-UNKNOWN.true

pub returns-else-b-eq-UNKNOWN : goal.returns-else-b-eq-UNKNOWN
returns-else-b-eq-UNKNOWN c =
    agree_not _ _ c.if-a-b.false c.if-b-eq-UNKNOWN.false
