use mathlib.Core.Path.{ap}
use Rattle.types.specs.Kinds.{kind_number}
use Rattle.types.proofs.OfKind.{plain_left, one_walked}
use Rattle.types.proofs.Readers.{many_none, many_two, many_elements, many_one}
use Rattle.types.proofs.parts_of.Goals as goal

pub returns-in-Dict : goal.returns-in-Dict
returns-in-Dict c =
    many_two c.kind_of.ensures (ap kind_number c.in-Dict.is)

pub returns-in-Tuple : goal.returns-in-Tuple
returns-in-Tuple c =
    many_elements c.kind_of.ensures (ap kind_number c.in-Tuple.is) c.field.ensures

pub returns-in-List : goal.returns-in-List
returns-in-List c =
    let w = one_walked c.in-List.is in many_one c.kind_of.ensures w.0 w.1 w.2

pub returns-in_default : goal.returns-in_default
returns-in_default c =
    let d = c.in_default in many_none c.kind_of.ensures (plain_left _ d.not-List d.not-Dict d.not-Tuple d.not-MapIter d.not-FilterIter)
