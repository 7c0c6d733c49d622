use Rattle.rules.proofs.Arguments.{callable_is}
use Rattle.rules.proofs.callable.Goals as goal

pub returns : goal.returns
returns c =
    callable_is _ c.requires c.expect.ensures
