use Rattle.sheet.proofs.Reading.{GatherLoop}
use Rattle.sheet.proofs.reader.gather.Given as goal

abbrev pub invariant-loop-j : goal.invariant-loop-j
invariant-loop-j l = GatherLoop l.sheet l.at l.numbers l.q l.j l.stack
