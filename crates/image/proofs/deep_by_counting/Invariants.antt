use Rattle.image.proofs.Depth.{held, Counted}
use Rattle.meaning.specs.Image.{Node, nodes_of, depth, first_not, too_deep_node}
use lib.ListN.{take, drop}
use lib.Dec.{leb}
use Prim.Native.Nat.{ℕ}
use mathlib.Core.Path.{◌≡◌}
use Rattle.image.proofs.deep_by_counting.Given as goal

-- `ends` counts the ends of the nodes before i, `around` those that end behind i; the nodes from i on answer what all answer
abbrev pub invariant-loop-i : goal.invariant-loop-i
invariant-loop-i l = Counted l.ends (take l.i (nodes_of l.image)) × (l.around ≡ held l.i (take l.i (nodes_of l.image))) × (first_not (λ (j : ℕ) (d : Node). leb (depth j 0 (nodes_of l.image)) 64) l.i (drop l.i (nodes_of l.image)) ≡ too_deep_node l.image)
