use Rattle.rules.proofs.Indexing.{key_yes, key_not}
use Rattle.rules.proofs.key.Goals as goal

pub returns-then-wanted-eq-UNKNOWN : goal.returns-then-wanted-eq-UNKNOWN
returns-then-wanted-eq-UNKNOWN c =
    key_yes _ _ _ c.if-wanted-eq-UNKNOWN.either

pub returns-else-wanted-eq-UNKNOWN : goal.returns-else-wanted-eq-UNKNOWN
returns-else-wanted-eq-UNKNOWN c =
    rw c.refused.ensures (key_not _ _ _ c.if-wanted-eq-UNKNOWN.false)
