use Rattle.stmt.proofs.Modules.{Running}
use Rattle.types.specs.Table.{tab}
use Rattle.state.specs.Lent.{lent, table_of}
use Rattle.stmt.specs.Contract.{setting_if}
use Rattle.meaning.specs.Image.{nodes_from}
use Prim.Native.Nat.{◌-◌}
use mathlib.Core.Path.{◌≡◌}
use Rattle.stmt.proofs.typecheck_program.Given as goal

abbrev pub invariant-loop : goal.invariant-loop
invariant-loop l =
    Running l.image (setting_if l.plain) l.initial.next.nodes (tab l.initial.table 8 0) (table_of (lent l.frames l.table l.w)) l.frames l.w.notes.top l.w.stack l.next.at (l.end - l.counter)
    × (l.next.nodes ≡ nodes_from l.image)
