use Rattle.meaning.specs.Image.{Node, nodes_of, is_tree_set, first_not, first_tree_set}
use mathlib.Core.Bool.{not}
use Prim.Native.Nat.{ℕ}
use lib.ListN.{drop}
use mathlib.Core.Path.{◌≡◌}
use Rattle.image.proofs.first_tree_set.Given as goal

-- the nodes from i on answer what all answer
abbrev pub invariant-loop-i : goal.invariant-loop-i
invariant-loop-i l = (first_not (λ (j : ℕ) (d : Node). not (is_tree_set d)) l.i (drop l.i (nodes_of l.image)) ≡ first_tree_set l.image)
