use Rattle.sheet.proofs.Areas.{met_room, count_small, part_small, kind_small, put_as, record_tuple, record_other}
use Prim.Native.Nat.{◌<◌}
use native.Mathlib.Omega.{arith}
use Rattle.sheet.proofs.writer.write_type.Goals as goal
use Rattle.sheet.proofs.writer.write_type.Goals.{in-Tuple, in_default}

pub kind_of-kind-requires : goal.kind_of-kind-requires
kind_of-kind-requires c =
    met_room c.requires.met

pub parts_of-requires : goal.parts_of-requires
parts_of-requires c =
    met_room c.requires.met

pub part_of-requires : goal.part_of-requires
part_of-requires c =
    met_room c.requires.met

pub second_of-requires : goal.second_of-requires
second_of-requires c =
    met_room c.requires.met

pub put_three-requires-clause-a_bound : goal.put_three-requires-clause-a_bound
put_three-requires-clause-a_bound c =
    let small : c.number.result < 4294967296 = rw c.number.ensures (kind_small c.requires.met c.kind_of-kind.ensures) in
    elim c.match-kind.branch [
      | in-Tuple w ↦ rw w.p-is (small, omega (arith, c.requires.from_le_most_written.0), count_small c.requires.met w.parts_of.ensures)
      | in_default w ↦ rw w.p-is (small, omega (arith, w.number_of.ensures.upper_bound), omega (arith, w.number_of-in_default.ensures.upper_bound))
    ]

pub returns : goal.returns
returns c =
    put_as (elim c.match-kind.branch [
      | in-Tuple w ↦
          rw (c.number.ensures, w.p-is) (record_tuple c.requires.met _ c.kind_of-kind.ensures w.in-Tuple.is w.parts_of.ensures)
      | in_default w ↦
          rw (c.number.ensures, w.p-is)
          (record_other c.requires.met c.kind_of-kind.ensures w.in_default.not-Tuple _ w.part_of.ensures w.number_of.ensures.number_of w.second_of.ensures w.number_of-in_default.ensures.number_of)
    ]) c.put_three.ensures

pub number_of-requires : goal.number_of-requires
number_of-requires c =
    part_small c.requires.met c.kind_of-kind.ensures c.in_default.not-Tuple c.part_of.ensures

pub number_of-requires-in_default : goal.number_of-requires-in_default
number_of-requires-in_default c =
    part_small c.requires.met c.kind_of-kind.ensures c.in_default.not-Tuple c.second_of.ensures
