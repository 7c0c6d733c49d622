use Rattle.sheet.proofs.Names.{MeetLoop}
use mathlib.Core.Path.{◌≡◌}
use lib.ListN.{length}
use Rattle.sheet.proofs.writer.meet_each.Given as goal

abbrev pub invariant-loop-name : goal.invariant-loop-name
invariant-loop-name l = MeetLoop l.table l.initial.marks l.names l.name-index l.marks × (length l.path ≡ length l.initial.path)
