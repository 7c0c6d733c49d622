use Rattle.line.proofs.Pieces.{numbers_none, numbers_more, numbers_all}
use Rattle.line.proofs.put_numbers.Goals as goal

pub loop-n-init : goal.loop-n-init
loop-n-init c = numbers_none _ _ _ c.requires

pub loop-n-preserved : goal.loop-n-preserved
loop-n-preserved c = numbers_more c.loop-n.invariant c.loop-n-test.true c.put_spaced-end.ensures.wrote c.put_spaced-end.ensures.upper_bound

pub returns-clause-wrote : goal.returns-clause-wrote
returns-clause-wrote c = numbers_all c.loop-n.invariant c.loop-n-test.false
