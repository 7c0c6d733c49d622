use Rattle.state.specs.Lent.{lent, table_of}
use Rattle.state.specs.Notes.{Kept}
use Rattle.targets.proofs.Targets.{Loop}
use mathlib.Core.Path.{◌≡◌}
use Prim.Native.Nat.{suc, ◌+◌, ◌-◌}
use Rattle.targets.proofs.+tc_assign_target.Given as goal

abbrev pub decreases-assign_each : goal.decreases-assign_each
decreases-assign_each l = suc (l.depth + l.depth)

abbrev pub decreases-tc_assign_target : goal.decreases-tc_assign_target
decreases-tc_assign_target l = l.depth + l.depth

abbrev pub invariant-assign_each-loop-j : goal.invariant-assign_each-loop-j
invariant-assign_each-loop-j l =
    Loop l.image l.initial.next.nodes l.initial.frames l.top (table_of (lent l.initial.frames l.initial.table l.initial.w)) l.initial.w.stack (l.initial.next.at - 1) l.n l.ty l.depth
    (table_of (lent l.frames l.table l.w)) l.frames l.w.stack l.next.at l.j
    × Kept l.initial.w.notes l.w.notes ⊥ × (l.next.nodes ≡ l.initial.next.nodes)
