use Rattle.rules.proofs.Arguments.{prompt_is}
use Rattle.rules.proofs.prompt.Goals as goal

pub returns : goal.returns
returns c =
    prompt_is c.expect.ensures
