use Rattle.sheet.proofs.Areas.{ElementsLoop}
use Rattle.sheet.specs.Marks.{tab_of}
use Rattle.sheet.proofs.writer.write_elements.Given as goal

abbrev pub invariant-loop-k : goal.invariant-loop-k
invariant-loop-k l = ElementsLoop (tab_of l.table l.marks) l.marks l.initial.out l.from l.marks.met l.k l.at l.out
