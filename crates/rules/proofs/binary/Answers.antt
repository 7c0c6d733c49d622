use mathlib.Core.Path.{refl}
use Rattle.rules.proofs.Operations.{binary_gives, binary_refuses, binary_equal, binary_differs}
use Rattle.rules.proofs.binary.Goals as goal

pub returns-in-Type : goal.returns-in-Type
returns-in-Type c =
    let e = rw (c.number.ensures, c.number-2.ensures) at c.in-Type.ensures in
    rw e.0 (binary_gives _ c.kind_of.ensures c.kind_of-2.ensures refl e.1)

pub returns-in-Whole : goal.returns-in-Whole
returns-in-Whole c =
    let e = rw (c.number.ensures, c.number-2.ensures) at c.in-Whole.ensures in
    binary_equal _ c.kind_of.ensures c.kind_of-2.ensures refl e c.if-left-right.true

pub returns-in-Whole-2 : goal.returns-in-Whole-2
returns-in-Whole-2 c =
    let e = rw (c.number.ensures, c.number-2.ensures) at c.in-Whole.ensures in
    rw c.refused.ensures (binary_differs _ c.kind_of.ensures c.kind_of-2.ensures refl e c.if-left-right.false)

pub returns-in-Refused : goal.returns-in-Refused
returns-in-Refused c =
    let e = rw (c.number.ensures, c.number-2.ensures) at c.in-Refused.ensures in
    rw c.refused-in-Refused.ensures (binary_refuses _ c.kind_of.ensures c.kind_of-2.ensures refl e)
