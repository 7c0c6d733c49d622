use Rattle.meaning.specs.Image.{Name, names_of, safe, first_not, unsafe_name}
use Prim.Native.Nat.{ℕ}
use lib.ListN.{drop}
use mathlib.Core.Path.{◌≡◌}
use Rattle.image.proofs.unsafe_name.Given as goal

-- the names from k on answer what all answer
abbrev pub invariant-loop-k : goal.invariant-loop-k
invariant-loop-k l = (first_not (λ (i : ℕ) (w : Name). safe w) l.k (drop l.k (names_of l.image)) ≡ unsafe_name l.image)
