use Rattle.sheet.proofs.Areas.{PartsLoop}
use Rattle.sheet.proofs.writer.write_parts.Given as goal

abbrev pub invariant-loop-j : goal.invariant-loop-j
invariant-loop-j l = PartsLoop l.table l.marks l.i l.initial.out l.at l.n l.j l.out
