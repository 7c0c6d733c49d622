use Rattle.sheet.proofs.Visiting.{Walking}
use Rattle.sheet.specs.Marks.{tab_of}
use Rattle.sheet.specs.Opening.{work}
use Rattle.sheet.proofs.writer.visit.Given as goal

abbrev pub invariant-loop-depth : goal.invariant-loop-depth
invariant-loop-depth l = Walking l.table l.initial.marks l.initial.path l.i l.marks l.path l.depth

abbrev pub decreases-loop-depth : goal.decreases-loop-depth
decreases-loop-depth l = work (tab_of l.table l.initial.marks) l.marks l.path l.depth
