use Rattle.steady.proofs.Passing.{Passing}
use Rattle.meaning.specs.Image.{node_count}
use Prim.Native.Nat.{◌-◌}
use Rattle.steady.proofs.first_def.Given as goal

abbrev pub invariant-loop-i : goal.invariant-loop-i
invariant-loop-i l = Passing l.image l.i l.until

abbrev pub decreases-loop-i : goal.decreases-loop-i
decreases-loop-i l = node_count l.image - l.i
