use Rattle.rules.proofs.Arguments.{bound_is}
use Rattle.rules.proofs.bound.Goals as goal

pub returns : goal.returns
returns c =
    bound_is c.expect.ensures
