use Rattle.sheet.proofs.Areas.{NamesLoop}
use Rattle.sheet.proofs.writer.write_names.Given as goal

abbrev pub invariant-loop-k : goal.invariant-loop-k
invariant-loop-k l = NamesLoop l.marks l.names l.initial.out l.at l.k l.from l.out
