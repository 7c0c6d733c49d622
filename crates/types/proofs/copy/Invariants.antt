use mathlib.Core.Path.{◌≡◌}
use lib.ListN.{length}
use lib.Seq.{paste}
use Rattle.types.proofs.copy.Given as goal

-- the first j elements are pasted
abbrev pub invariant-loop-j : goal.invariant-loop-j
invariant-loop-j l = (length l.table ≡ length l.initial.table) × (l.table ≡ paste l.initial.table l.at l.elements l.j)
