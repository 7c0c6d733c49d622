use Rattle.image.specs.Kinds.{root_stands}
use Rattle.meaning.specs.Image.{nodes_of, nests, first_not, badly_nested}
use lib.ListN.{drop}
use mathlib.Core.Bool.{true}
use mathlib.Core.Path.{◌≡◌}
use Rattle.image.proofs.badly_nested.Given as goal

-- node 0 stands, and the nodes from i on answer what all answer
abbrev pub invariant-loop-i : goal.invariant-loop-i
invariant-loop-i l = (root_stands (nodes_of l.image) ≡ true) × (first_not (nests (nodes_of l.image)) l.i (drop l.i (nodes_of l.image)) ≡ badly_nested l.image)
