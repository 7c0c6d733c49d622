use mathlib.Core.Path.{refl}
use Rattle.rules.proofs.Operations.{unary_gives, unary_refuses}
use Rattle.rules.proofs.unary.Goals as goal

pub returns-in-Ok : goal.returns-in-Ok
returns-in-Ok c =
    let e = rw c.number.ensures at c.in-Ok.ensures in rw e.0 (unary_gives _ c.kind_of.ensures refl e.1)

pub returns-in-Err : goal.returns-in-Err
returns-in-Err c =
    rw c.refused.ensures (unary_refuses _ c.kind_of.ensures refl (rw c.number.ensures at c.in-Err.ensures))
