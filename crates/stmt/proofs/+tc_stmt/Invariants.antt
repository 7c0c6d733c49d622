use Prim.Native.Nat.{◌+◌, ◌-◌, ◌*◌}
use Rattle.stmt.proofs.Bodies.{Loop}
use Rattle.stmt.proofs.Branching.{Choosing}
use Rattle.state.specs.Lent.{lent, table_of}
use Rattle.stmt.specs.Contract.{setting_if}
use Rattle.meaning.specs.Image.{nodes_from}
use mathlib.Core.Path.{◌≡◌}
use Rattle.stmt.proofs.+tc_stmt.Given as goal

abbrev pub decreases-block : goal.decreases-block
decreases-block l = 3 * l.depth

abbrev pub decreases-choices : goal.decreases-choices
decreases-choices l = 3 * l.depth + 2

abbrev pub decreases-define : goal.decreases-define
decreases-define l = 3 * l.depth + 1

abbrev pub decreases-each : goal.decreases-each
decreases-each l = 3 * l.depth + 1

abbrev pub decreases-one_arm : goal.decreases-one_arm
decreases-one_arm l = 3 * l.depth + 1

abbrev pub decreases-repeat : goal.decreases-repeat
decreases-repeat l = 3 * l.depth + 1

abbrev pub decreases-tc_stmt : goal.decreases-tc_stmt
decreases-tc_stmt l = 3 * l.depth + 2

abbrev pub invariant-block-loop : goal.invariant-block-loop
invariant-block-loop l =
    Loop l.image (setting_if l.how.plain) l.initial.next.nodes (table_of (lent l.initial.rows l.initial.table l.initial.w)) l.initial.rows l.initial.w.notes.top l.initial.w.notes.returns (l.initial.next.at - 1) l.depth l.how.looped l.how.drops
    (table_of (lent l.rows l.table l.w)) l.rows l.w.notes.top l.w.notes.returns l.w.stack l.next.at (l.end - l.counter)
    × (l.next.nodes ≡ nodes_from l.image)

abbrev pub invariant-choices-loop-k : goal.invariant-choices-loop-k
invariant-choices-loop-k l =
    Choosing l.image (setting_if l.how.plain) l.initial.next.nodes (table_of (lent l.initial.rows l.initial.table l.initial.w)) l.rows l.top l.initial.w.notes.returns (l.initial.next.at - 1) l.depth l.how.looped
    (table_of (lent l.rows l.table l.w)) l.w.notes.returns l.w.stack l.merged l.clashes l.next.at (l.n - 2 * l.k)
    × (l.w.notes.top ≡ l.top) × (l.next.nodes ≡ nodes_from l.image)
