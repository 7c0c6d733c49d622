use Rattle.sheet.proofs.Ending.{StandLoop}
use Rattle.sheet.proofs.reader.texts_stand.Given as goal

abbrev pub invariant-loop-name : goal.invariant-loop-name
invariant-loop-name l = StandLoop l.sheet l.names l.name-index l.last
