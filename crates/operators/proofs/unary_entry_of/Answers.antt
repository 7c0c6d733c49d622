use Rattle.operators.proofs.Lists.{unary_answers}
use Rattle.operators.proofs.Rules.{unary_rule_lem}
use Rattle.operators.proofs.unary_entry_of.Goals as goal

pub returns : goal.returns
unfolding unary_answers
returns c = unary_rule_lem c.requires
