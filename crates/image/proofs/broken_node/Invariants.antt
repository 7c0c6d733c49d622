use Rattle.meaning.specs.Image.{name_count, node_count, nodes_of, node_stands, first_not, broken_node}
use lib.ListN.{drop}
use mathlib.Core.Path.{◌≡◌}
use Rattle.image.proofs.broken_node.Given as goal

-- the nodes from i on answer what all answer
abbrev pub invariant-loop-i : goal.invariant-loop-i
invariant-loop-i l = (first_not (node_stands (name_count l.image) (node_count l.image)) l.i (drop l.i (nodes_of l.image)) ≡ broken_node l.image)
