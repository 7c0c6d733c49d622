use Rattle.image.specs.Parts.{node_means}
use Rattle.meaning.specs.Image.{nodes_of, lands}
use Prim.Native.Nat.{suc, ◌-◌, ◌≤◌}
use mathlib.Core.Path.{◌≡◌}
use Rattle.image.proofs.lands_on_end.Given as goal

-- the children that are left answer what all answer
abbrev pub invariant-loop-j : goal.invariant-loop-j
invariant-loop-j l =
    lands (nodes_of l.image) (node_means l.d) l.at (l.d.children - l.j) ≡ lands (nodes_of l.image) (node_means l.d) (suc l.i) l.d.children
