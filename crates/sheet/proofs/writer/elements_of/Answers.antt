use mathlib.Core.Path.{refl}
use Rattle.sheet.proofs.Sizes.{sum_first, sum_number, sum_room, sum_next, sum_end}
use native.Mathlib.Omega.{arith}
use Rattle.sheet.proofs.writer.elements_of.Goals as goal

pub loop-k-init : goal.loop-k-init
loop-k-init c =
    sum_first c.requires refl

pub elements_in-sum-requires : goal.elements_in-sum-requires
elements_in-sum-requires c =
    sum_number c.loop-k.invariant (omega arith) c.type_at.ensures

pub overflow_add-sum : goal.overflow_add-sum
overflow_add-sum c =
    omega (arith, sum_room c.loop-k.invariant (omega arith) c.type_at.ensures c.elements_in-sum.ensures)

pub loop-k-preserved : goal.loop-k-preserved
loop-k-preserved c =
    sum_next c.loop-k.invariant (omega arith) c.type_at.ensures c.elements_in-sum.ensures

pub returns-clause-value : goal.returns-clause-value
returns-clause-value c =
    (sum_end c.loop-k.invariant (λ h. absurd (omega (arith, c.loop-k-test.false)))).0

pub returns-clause-upper_bound : goal.returns-clause-upper_bound
returns-clause-upper_bound c =
    (sum_end c.loop-k.invariant (λ h. absurd (omega (arith, c.loop-k-test.false)))).1
