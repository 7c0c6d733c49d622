use mathlib.Core.Path.{refl}
use Rattle.sheet.proofs.Areas.{elements_first, elements_met, elements_room, elements_next, elements_end}
use native.Mathlib.Omega.{arith}
use Rattle.sheet.proofs.writer.write_elements.Goals as goal

pub loop-k-init : goal.loop-k-init
loop-k-init c =
    elements_first c.requires.marked c.requires.marks_in_bounds refl

pub write_parts-at-requires-clause-met : goal.write_parts-at-requires-clause-met
write_parts-at-requires-clause-met c =
    elements_met c.loop-k.invariant (omega arith) c.type_at.ensures

pub write_parts-at-requires-clause-i_in_bounds : goal.write_parts-at-requires-clause-i_in_bounds
write_parts-at-requires-clause-i_in_bounds c =
    elements_room c.loop-k.invariant (omega arith) c.type_at.ensures

pub loop-k-preserved : goal.loop-k-preserved
loop-k-preserved c =
    elements_next c.loop-k.invariant (omega arith) c.type_at.ensures c.write_parts-at.ensures.put c.write_parts-at.ensures.value

pub returns : goal.returns
returns c =
    elements_end c.loop-k.invariant (λ h. absurd (omega (arith, c.loop-k-test.false)))
