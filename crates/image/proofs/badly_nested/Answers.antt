use Rattle.image.proofs.Nesting.{no_node, nests_not, nests_all}
use Rattle.image.proofs.Searches.{first_end, first_fails, first_next}
use Rattle.meaning.proofs.Nesting.{nodes_many}
use Rattle.meaning.proofs.Faults.{sizes}
use Rattle.meaning.specs.Image.{node_of, nodes_of, nests, badly_nested}
use Prim.Native.Nat.{◌≤◌, ◌<◌}
use lib.ListN.{length}
use mathlib.Core.Bool.{true, false}
use mathlib.Core.Path.{◌≡◌, sym, ◌∙◌}
use native.Mathlib.Omega.{arith}
use Rattle.image.proofs.badly_nested.Goals as goal

pub returns-then-not-root_stands : goal.returns-then-not-root_stands
unfolding badly_nested node_of
returns-then-not-root_stands c =
    let ds = nodes_of c.args.image.now in
    let inside : 0 < length ds = rw nodes_many (omega (arith, sizes c.requires.headed)) in
    sym (first_fails (nests ds) ds 0 no_node inside (nests_not ds (sym c.root_stands.ensures ∙ c.if-not-root_stands.true)))

pub returns-then-not-lands_on_end : goal.returns-then-not-lands_on_end
unfolding node_of
returns-then-not-lands_on_end c =
    let ds = nodes_of c.args.image.now in
    let inside : c.loop-i.i < length ds = rw nodes_many (omega (arith, c.requires.laid.count)) in
    let wrong : nests ds c.loop-i.i (node_of ds c.loop-i.i) ≡ false = nests_all ds c.loop-i.invariant.0 c.loop-i.i ∙ sym c.lands_on_end.ensures ∙ c.if-not-lands_on_end.true in
    sym (first_fails (nests ds) ds c.loop-i.i no_node inside wrong) ∙ c.loop-i.invariant.1

pub loop-i-preserved : goal.loop-i-preserved
unfolding node_of
loop-i-preserved c =
    let ds = nodes_of c.args.image.now in
    let inside : c.loop-i.i < length ds = rw nodes_many (omega (arith, c.requires.laid.count)) in
    let right : nests ds c.loop-i.i (node_of ds c.loop-i.i) ≡ true = nests_all ds c.loop-i.invariant.0 c.loop-i.i ∙ sym c.lands_on_end.ensures ∙ c.if-not-lands_on_end.false in
    (c.loop-i.invariant.0, sym (first_next (nests ds) ds c.loop-i.i no_node inside right) ∙ c.loop-i.invariant.1)

pub returns : goal.returns
returns c =
    let ds = nodes_of c.args.image.now in
    let done : length ds ≤ c.loop-i.i = rw nodes_many (omega (arith, c.requires.laid.count)) in
    sym (first_end (nests ds) ds c.loop-i.i done) ∙ c.loop-i.invariant.1
