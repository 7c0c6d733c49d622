use Rattle.targets.proofs.Unpacking.{sharing_room, sharing_element, share_part, share_element, share_unknown}
use Rattle.targets.proofs.part_for.Goals as goal

pub kind_of-requires : goal.kind_of-requires
kind_of-requires c =
    sharing_room c.requires

pub part_of-requires : goal.part_of-requires
part_of-requires c =
    sharing_room c.requires

pub part_at-requires : goal.part_at-requires
part_at-requires c =
    sharing_element c.kind_of.ensures c.requires c.in-Tuple.is

pub returns-in-List : goal.returns-in-List
returns-in-List c =
    share_part c.kind_of.ensures c.in-List.is c.part_of.ensures

pub returns-in-Tuple : goal.returns-in-Tuple
returns-in-Tuple c =
    share_element c.kind_of.ensures c.in-Tuple.is c.part_at.ensures

pub returns-in_default : goal.returns-in_default
returns-in_default c =
    share_unknown c.kind_of.ensures c.in_default.not-List c.in_default.not-Tuple
