use Rattle.rules.proofs.Arguments.{expect_yes, expect_not}
use Rattle.rules.proofs.expect.Goals as goal

pub returns-then-i-eq-UNKNOWN : goal.returns-then-i-eq-UNKNOWN
returns-then-i-eq-UNKNOWN c =
    expect_yes _ _ _ _ c.if-i-eq-UNKNOWN.either

pub returns-else-i-eq-UNKNOWN : goal.returns-else-i-eq-UNKNOWN
returns-else-i-eq-UNKNOWN c =
    rw c.refused.ensures (expect_not _ _ _ _ c.if-i-eq-UNKNOWN.false)
