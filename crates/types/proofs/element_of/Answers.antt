use mathlib.Core.Path.{ap}
use Rattle.types.specs.Kinds.{kind_number}
use Rattle.types.proofs.OfKind.{walked, not_walked}
use Rattle.types.proofs.Walks.{walk_tuple, walk_part, walk_unknown, walk_string, walk_range, walk_not}
use Rattle.types.proofs.element_of.Goals as goal

pub returns-in-Unknown : goal.returns-in-Unknown
returns-in-Unknown c =
    walk_unknown _ _ _ (rw c.cell.ensures at c.numbered.ensures) (ap kind_number c.in-Unknown.is)

pub returns-in-String : goal.returns-in-String
returns-in-String c =
    walk_string _ _ _ (rw c.cell.ensures at c.numbered.ensures) (ap kind_number c.in-String.is)

pub returns-in-Range : goal.returns-in-Range
returns-in-Range c =
    walk_range _ _ _ (rw c.cell.ensures at c.numbered.ensures) (ap kind_number c.in-Range.is)

pub returns-in-Tuple : goal.returns-in-Tuple
returns-in-Tuple c =
    walk_tuple _ _ _ (rw c.cell.ensures at c.numbered.ensures) (ap kind_number c.in-Tuple.is) c.common_of.ensures

pub returns-in-List : goal.returns-in-List
returns-in-List c =
    let w = walked c.in-List.is in walk_part _ _ _ (rw c.cell.ensures at c.numbered.ensures) w.0 w.1 c.part_of.ensures

pub returns-in-Int : goal.returns-in-Int
returns-in-Int c =
    let w = not_walked c.in-Int.is in walk_not _ _ _ (rw c.cell.ensures at c.numbered.ensures) w.0 w.1 w.2 w.3
