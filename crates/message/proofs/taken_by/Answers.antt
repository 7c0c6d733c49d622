use Rattle.message.proofs.Naming.{taken_function, taken_none}
use Rattle.message.proofs.taken_by.Goals as goal

pub returns-then-r-eq-FUNCTION : goal.returns-then-r-eq-FUNCTION
returns-then-r-eq-FUNCTION c =
    taken_function _ _ c.record_of-r.ensures c.if-r-eq-FUNCTION.true

pub returns : goal.returns
returns c =
    taken_none _ _ c.record_of-r.ensures c.if-r-eq-FUNCTION.false
