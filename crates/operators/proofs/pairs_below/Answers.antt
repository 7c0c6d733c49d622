use borrow.Author.Rules.{rules}
use Rattle.operators.proofs.Places.{many_below}
use Rattle.operators.proofs.pairs_below.Goals as goal

pub overflow_mul-result : goal.overflow_mul-result
overflow_mul-result c =
    search (rules, (many_below c.requires).0)

pub returns : goal.returns
returns c =
    (many_below c.requires).1
