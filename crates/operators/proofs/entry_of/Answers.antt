use Rattle.operators.proofs.Lists.{answers}
use Rattle.operators.proofs.Rules.{rule}
use Rattle.operators.proofs.entry_of.Goals as goal

pub returns : goal.returns
unfolding answers
returns c = rule c.requires c.place_of.ensures
