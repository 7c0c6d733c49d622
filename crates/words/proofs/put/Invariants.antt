use mathlib.Core.Path.{◌≡◌}
use lib.ListN.{length}
use lib.Seq.{paste}
use Rattle.words.proofs.put.Given as goal

-- the first j bytes of s are pasted
abbrev pub invariant-loop-j : goal.invariant-loop-j
invariant-loop-j l = (length l.buf ≡ length l.initial.buf) × (l.buf ≡ paste l.initial.buf l.at l.s l.j)
