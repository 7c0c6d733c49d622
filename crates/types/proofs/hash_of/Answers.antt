use Rattle.types.proofs.Chains.{hash_none, hash_more}
use native.Mathlib.Omega.{arith}
use Rattle.types.proofs.hash_of.Goals as goal

pub loop-e-init : goal.loop-e-init
loop-e-init c =
    record { small = omega arith; so_far = hash_none c.args.elements.now }

pub loop-e-preserved : goal.loop-e-preserved
loop-e-preserved c =
    record { small = c.mixed-h.ensures.1; so_far = hash_more _ c.loop-e.invariant.so_far c.loop-e-test.true (rw c.from.ensures at c.mixed-h.ensures.0) }
