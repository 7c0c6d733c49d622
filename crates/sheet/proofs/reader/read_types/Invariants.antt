use Rattle.sheet.proofs.Typing.{TypesLoop}
use Rattle.types.specs.Table.{tab}
use mathlib.Core.Path.{◌≡◌}
use lib.ListN.{length}
use Rattle.sheet.proofs.reader.read_types.Given as goal

abbrev pub invariant-loop-k : goal.invariant-loop-k
invariant-loop-k l = TypesLoop l.sheet.bytes.now l.numbers l.sheet.areas.types l.k l.used (tab l.table l.counts.types l.counts.elements) × (length l.table ≡ length l.initial.table)
