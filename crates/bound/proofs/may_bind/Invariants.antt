use Rattle.bound.proofs.Marking.{Marking}
use Rattle.meaning.specs.Image.{node_count}
use Rattle.meaning.specs.Limits.{most_names}
use mathlib.Core.Bool.{false}
use lib.ListN.{replicate}
use Prim.Native.Nat.{◌-◌}
use Rattle.bound.proofs.may_bind.Given as goal

abbrev pub invariant-loop-i : goal.invariant-loop-i
invariant-loop-i l = Marking l.image (replicate most_names false) l.marks l.i

abbrev pub decreases-loop-i : goal.decreases-loop-i
decreases-loop-i l = node_count l.image - l.i
