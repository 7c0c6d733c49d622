use Rattle.sheet.proofs.Sizes.{elements_some, elements_no}
use Rattle.sheet.proofs.writer.elements_in.Goals as goal

pub returns-in-Tuple : goal.returns-in-Tuple
returns-in-Tuple c =
    elements_some c.kind_of.ensures c.in-Tuple.is c.parts_of.ensures

pub returns-in_default : goal.returns-in_default
returns-in_default c =
    elements_no c.kind_of.ensures c.in_default.not-Tuple
