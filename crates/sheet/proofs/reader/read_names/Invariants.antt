use Rattle.sheet.specs.Reading.{NamesRead}
use Rattle.sheet.proofs.reader.read_names.Given as goal

abbrev pub invariant-loop-k : goal.invariant-loop-k
invariant-loop-k l = NamesRead l.sheet.bytes.now l.numbers l.names l.k
