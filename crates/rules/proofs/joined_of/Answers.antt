use Rattle.rules.proofs.Steps.{join_next, join_not}
use Rattle.rules.proofs.joined_of.Goals as goal

pub returns-then-a-b : goal.returns-then-a-b
returns-then-a-b c =
    join_next _ _ c.if-a-b.either

pub returns-else-a-b : goal.returns-else-a-b
returns-else-a-b c =
    join_not _ _ c.if-a-b.false
