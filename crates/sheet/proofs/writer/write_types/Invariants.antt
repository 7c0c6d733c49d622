use Rattle.sheet.proofs.Areas.{TypesLoop}
use Rattle.sheet.specs.Marks.{tab_of}
use Rattle.sheet.proofs.writer.write_types.Given as goal

abbrev pub invariant-loop-k : goal.invariant-loop-k
invariant-loop-k l = TypesLoop (tab_of l.table l.marks) l.marks l.initial.out l.marks.met l.k l.from l.out
