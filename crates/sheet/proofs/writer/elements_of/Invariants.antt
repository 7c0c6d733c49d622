use Rattle.sheet.proofs.Sizes.{SumLoop}
use Rattle.sheet.specs.Marks.{tab_of}
use Rattle.sheet.proofs.writer.elements_of.Given as goal

abbrev pub invariant-loop-k : goal.invariant-loop-k
invariant-loop-k l = SumLoop (tab_of l.table l.marks) l.marks l.marks.met l.k l.sum
