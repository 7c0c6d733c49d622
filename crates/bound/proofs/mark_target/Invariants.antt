use Rattle.bound.proofs.Marking.{Aiming}
use Prim.Native.Nat.{◌-◌}
use Rattle.bound.proofs.mark_target.Given as goal

abbrev pub invariant-loop-j : goal.invariant-loop-j
invariant-loop-j l = Aiming l.image l.from l.end l.initial.marks l.marks l.j

abbrev pub decreases-loop-j : goal.decreases-loop-j
decreases-loop-j l = l.end - l.j
