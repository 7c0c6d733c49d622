use Rattle.image.proofs.Searches.{first_end, first_fails}
use Rattle.meaning.proofs.Nesting.{nodes_many}
use Rattle.meaning.specs.Image.{name_count, node_count, node_of, nodes_of, node_stands}
use Prim.Native.Nat.{◌≤◌, ◌<◌}
use lib.ListN.{length}
use mathlib.Core.Path.{sym, ◌∙◌}
use native.Mathlib.Omega.{arith}
use Rattle.image.proofs.broken_node.Goals as goal

pub returns-then-not-node_stands : goal.returns-then-not-node_stands
unfolding node_of
returns-then-not-node_stands c =
    let bs = c.args.image.now in
    let inside : c.loop-i.i < length (nodes_of bs) = rw nodes_many (omega (arith, c.requires.laid.count)) in
    let stands = sym c.node_stands.ensures ∙ c.if-not-node_stands.true in
    sym (first_fails (node_stands (name_count bs) (node_count bs)) (nodes_of bs) c.loop-i.i _ inside stands) ∙ c.loop-i.invariant

pub returns : goal.returns
returns c =
    let bs = c.args.image.now in
    let done : length (nodes_of bs) ≤ c.loop-i.i = rw nodes_many (omega (arith, c.requires.laid.count)) in
    sym (first_end (node_stands (name_count bs) (node_count bs)) (nodes_of bs) c.loop-i.i done) ∙ c.loop-i.invariant
