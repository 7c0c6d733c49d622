use mathlib.Core.Path.{refl}
use Rattle.sheet.proofs.Areas.{types_first, types_met, types_room, types_sum, types_next, types_end, met_room}
use native.Mathlib.Omega.{arith}
use Rattle.sheet.proofs.writer.write_types.Goals as goal

pub loop-k-init : goal.loop-k-init
loop-k-init c =
    types_first c.requires.marked c.requires.marks_in_bounds refl

pub write_type-requires-clause-met : goal.write_type-requires-clause-met
write_type-requires-clause-met c =
    types_met c.loop-k.invariant (omega arith) c.type_at-i.ensures

pub write_type-requires-clause-from_le_most_written : goal.write_type-requires-clause-from_le_most_written
write_type-requires-clause-from_le_most_written c =
    types_room c.loop-k.invariant (omega arith)

pub elements_in-from-requires : goal.elements_in-from-requires
elements_in-from-requires c =
    met_room (types_met c.loop-k.invariant (omega arith) c.type_at-i.ensures)

pub overflow_add-from : goal.overflow_add-from
overflow_add-from c =
    omega (arith, types_sum c.loop-k.invariant (omega arith) c.type_at-i.ensures c.elements_in-from.ensures)

pub loop-k-preserved : goal.loop-k-preserved
loop-k-preserved c =
    types_next c.loop-k.invariant (omega arith) c.type_at-i.ensures c.write_type.ensures c.elements_in-from.ensures

pub returns : goal.returns
returns c =
    types_end c.loop-k.invariant (λ h. absurd (omega (arith, c.loop-k-test.false)))
