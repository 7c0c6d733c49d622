use Prim.Native.Nat.{◌+◌}
use mathlib.Core.Path.{◌≡◌}
use Rattle.frames.specs.Env.{look}
use Rattle.frames.proofs.lookup.Given as goal

abbrev pub invariant-loop-i : goal.invariant-loop-i
invariant-loop-i l = look l.frames (l.i + 1) l.name ≡ look l.frames (l.top + 1) l.name
