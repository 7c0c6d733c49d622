use Rattle.image.proofs.Depth.{held, held_next, counted_none, counted_next, counted_few, shallow, deep}
use Rattle.image.proofs.Nesting.{no_node, node_stands_lem, stop_below}
use Rattle.image.proofs.Searches.{first_end, first_fails, first_next}
use Rattle.meaning.proofs.Nesting.{nodes_many}
use Rattle.meaning.proofs.Faults.{sizes}
use Rattle.meaning.specs.Image.{Node, nodes_of, depth, too_deep_node}
use lib.ListN.{length}
use lib.Dec.{leb}
use Prim.Native.Nat.{ℕ, ◌+◌, ◌≤◌, ◌<◌}
use mathlib.Core.Path.{refl, sym, ap, ◌∙◌}
use native.Mathlib.Omega.{arith}
use Rattle.image.proofs.deep_by_counting.Goals as goal

pub loop-i-init : goal.loop-i-init
unfolding too_deep_node held
loop-i-init c =
    (counted_none, refl, refl)

pub returns-then-around-ge-DEEPEST : goal.returns-then-around-ge-DEEPEST
returns-then-around-ge-DEEPEST c =
    let ds = nodes_of c.args.image.now in
    let l = c.loop-i in
    let inside : l.i < length ds = rw nodes_many (omega (arith, c.requires.laid.count)) in
    let stands = node_stands_lem c.args.image.now c.requires.image_value l.i (omega arith) in
    sym (first_fails (λ (i : ℕ) (d : Node). leb (depth i 0 ds) 64) ds l.i no_node inside (deep ds l.i inside stands.above l.invariant.1 (omega arith))) ∙ l.invariant.2

pub bounds-ends-d : goal.bounds-ends-d
bounds-ends-d c =
    omega (arith, ap (λ (n : Node). n.stop) c.node_at-d.ensures, stop_below c.requires.headed c.requires.image_value c.loop-i.i (omega arith))

pub overflow_add-ends : goal.overflow_add-ends
overflow_add-ends c =
    let ds = nodes_of c.args.image.now in
    let l = c.loop-i in
    let inside : l.i < length ds = rw nodes_many (omega (arith, c.requires.laid.count)) in
    let stop = ap (λ (n : Node). n.stop) c.node_at-d.ensures in
    let fits : c.node_at-d.result.stop < 2049 = rw stop (stop_below c.requires.headed c.requires.image_value l.i (omega arith)) in
    omega (arith, counted_few ds l.i inside l.ends l.invariant.0 c.node_at-d.result.stop stop fits, sizes c.requires.headed)

pub bounds-ends-d-in-loop-i : goal.bounds-ends-d-in-loop-i
bounds-ends-d-in-loop-i c =
    omega (arith, ap (λ (n : Node). n.stop) c.node_at-d.ensures, stop_below c.requires.headed c.requires.image_value c.loop-i.i (omega arith))

pub overflow_sub-around : goal.overflow_sub-around
overflow_sub-around c =
    let ds = nodes_of c.args.image.now in
    let l = c.loop-i in
    let inside : l.i < length ds = rw nodes_many (omega (arith, c.requires.laid.count)) in
    let stands = node_stands_lem c.args.image.now c.requires.image_value l.i (omega arith) in
    let stop = ap (λ (n : Node). n.stop) c.node_at-d.ensures in
    let fits : c.node_at-d.result.stop < 2049 = rw stop (stop_below c.requires.headed c.requires.image_value l.i (omega arith)) in
    let next = counted_next ds l.i inside l.ends l.invariant.0 c.node_at-d.result.stop stop fits in
    let closed = next.each (l.i + 1) (omega (arith, sizes c.requires.headed)) in
    let further = held_next ds l.i inside stands.above in
    omega (arith, c.from.ensures)

pub loop-i-preserved : goal.loop-i-preserved
loop-i-preserved c =
    let ds = nodes_of c.args.image.now in
    let l = c.loop-i in
    let inside : l.i < length ds = rw nodes_many (omega (arith, c.requires.laid.count)) in
    let stands = node_stands_lem c.args.image.now c.requires.image_value l.i (omega arith) in
    let stop = ap (λ (n : Node). n.stop) c.node_at-d.ensures in
    let fits : c.node_at-d.result.stop < 2049 = rw stop (stop_below c.requires.headed c.requires.image_value l.i (omega arith)) in
    let next = counted_next ds l.i inside l.ends l.invariant.0 c.node_at-d.result.stop stop fits in
    let closed = next.each (l.i + 1) (omega (arith, sizes c.requires.headed)) in
    let further = held_next ds l.i inside stands.above in (
      next,
      omega (arith, c.from.ensures),
      sym (first_next (λ (i : ℕ) (d : Node). leb (depth i 0 ds) 64) ds l.i no_node inside (shallow ds l.i inside stands.above l.invariant.1 (omega arith))) ∙ l.invariant.2,
    )

pub returns : goal.returns
returns c =
    let ds = nodes_of c.args.image.now in
    let done : length ds ≤ c.loop-i.i = rw nodes_many (omega (arith, c.requires.laid.count)) in
    sym (first_end (λ (i : ℕ) (d : Node). leb (depth i 0 ds) 64) ds c.loop-i.i done) ∙ c.loop-i.invariant.2
