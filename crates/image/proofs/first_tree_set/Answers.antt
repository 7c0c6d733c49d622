use Rattle.image.proofs.Searches.{first_end, first_next, not_tree_set}
use Rattle.meaning.proofs.Nesting.{nodes_many}
use Rattle.meaning.specs.Image.{Node, node_of, nodes_of, is_tree_set}
use mathlib.Core.Bool.{Bool, not}
use Prim.Native.Nat.{ℕ}
use mathlib.Core.Path.{sym, ap, ◌∙◌}
use native.Mathlib.Omega.{arith}
use Rattle.image.proofs.first_tree_set.Goals as goal

abbrev other_than : ℕ → Node → Bool
other_than i d = not (is_tree_set d)

pub loop-i-preserved : goal.loop-i-preserved
unfolding node_of
loop-i-preserved c =
    sym (first_next other_than (nodes_of c.args.image.now) c.loop-i.i _ (rw nodes_many (omega (arith, c.areas-l.ensures.count))) (ap not (not_tree_set _ _ c.node_at.ensures c.if-node_at-eq-TREE_SET.false))) ∙ c.loop-i.invariant

pub returns : goal.returns
returns c =
    sym (first_end other_than (nodes_of c.args.image.now) c.loop-i.i (rw nodes_many (omega (arith, c.areas-l.ensures.count)))) ∙ c.loop-i.invariant
