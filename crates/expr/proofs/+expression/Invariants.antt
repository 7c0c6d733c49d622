use Rattle.expr.proofs.Bounding.{Bounding}
use Rattle.expr.proofs.Listing.{Listing}
use Rattle.expr.proofs.Pairing.{Pairing}
use Rattle.expr.proofs.Valuing.{Valuing}
use Rattle.meaning.specs.Image.{nodes_from, nodes_of, node_of}
use Rattle.state.specs.Notes.{tab_in, Kept}
use mathlib.Core.Path.{◌≡◌}
use Prim.Native.Nat.{◌+◌, ◌-◌, ◌*◌}
use Rattle.expr.proofs.+expression.Given as goal

abbrev pub decreases-arguments : goal.decreases-arguments
decreases-arguments l = 6 * l.depth + 4

abbrev pub decreases-binary : goal.decreases-binary
decreases-binary l = 6 * l.depth + 3

abbrev pub decreases-call : goal.decreases-call
decreases-call l = 6 * l.depth + 5

abbrev pub decreases-expression : goal.decreases-expression
decreases-expression l = 6 * l.depth + 1

abbrev pub decreases-dict : goal.decreases-dict
decreases-dict l = 6 * l.depth + 3

abbrev pub decreases-each_then : goal.decreases-each_then
decreases-each_then l = 6 * l.depth + 3

abbrev pub decreases-first_then : goal.decreases-first_then
decreases-first_then l = 6 * l.depth + 3

abbrev pub decreases-input : goal.decreases-input
decreases-input l = 6 * l.depth + 3

abbrev pub decreases-len : goal.decreases-len
decreases-len l = 6 * l.depth + 3

abbrev pub decreases-list : goal.decreases-list
decreases-list l = 6 * l.depth + 3

abbrev pub decreases-operands : goal.decreases-operands
decreases-operands l = 6 * l.depth + 3

abbrev pub decreases-range : goal.decreases-range
decreases-range l = 6 * l.depth + 3

abbrev pub decreases-stream : goal.decreases-stream
decreases-stream l = 6 * l.depth + 3

abbrev pub decreases-compound : goal.decreases-compound
decreases-compound l = 6 * l.depth

abbrev pub decreases-values : goal.decreases-values
decreases-values l = 6 * l.depth + 2

abbrev pub invariant-values-loop-i : goal.invariant-values-loop-i
invariant-values-loop-i l =
    Valuing l.scope.image.now l.initial.next.nodes l.scope.frames.now l.scope.top (tab_in l.initial.table l.initial.w.notes) l.initial.w.stack l.sp l.initial.next.at l.n l.depth
    (tab_in l.table l.w.notes) l.w.stack l.next.at (l.n - l.i) (l.sp + l.i)
    × Kept l.initial.w.notes l.w.notes ⊥
    × (l.next.nodes ≡ nodes_from l.scope.image.now)

abbrev pub invariant-list-loop : goal.invariant-list-loop
invariant-list-loop l =
    Listing l.scope.image.now l.initial.next.nodes l.scope.frames.now l.scope.top (tab_in l.initial.table l.initial.w.notes) l.initial.w.stack l.sp l.initial.next.at l.end l.depth
    (tab_in l.table l.w.notes) l.w.stack l.next.at (l.end - l.counter) l.element
    × Kept l.initial.w.notes l.w.notes ⊥
    × (l.next.nodes ≡ nodes_from l.scope.image.now)

abbrev pub invariant-dict-loop : goal.invariant-dict-loop
invariant-dict-loop l =
    let n = (node_of (nodes_of l.scope.image.now) l.fn.here.at).children in
    Pairing l.scope.image.now l.initial.next.nodes l.scope.frames.now l.scope.top (tab_in l.initial.table l.initial.w.notes) l.initial.w.stack l.sp l.initial.next.at n l.depth
    (tab_in l.table l.w.notes) l.w.stack l.next.at (n - 2 * l.counter) l.so_far
    × Kept l.initial.w.notes l.w.notes ⊥
    × (l.next.nodes ≡ nodes_from l.scope.image.now)

abbrev pub invariant-range-loop : goal.invariant-range-loop
invariant-range-loop l =
    Bounding l.scope.image.now l.initial.next.nodes l.scope.frames.now l.scope.top (tab_in l.initial.table l.initial.w.notes) l.initial.w.stack l.sp l.call.at l.initial.next.at l.end l.depth
    (tab_in l.table l.w.notes) l.w.stack l.next.at (l.end - l.counter)
    × Kept l.initial.w.notes l.w.notes ⊥
    × (l.next.nodes ≡ nodes_from l.scope.image.now)
