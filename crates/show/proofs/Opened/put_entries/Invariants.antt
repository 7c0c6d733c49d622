use Rattle.meaning.specs.Read.{entries_in}
use Rattle.show.proofs.Lines.{EntriesLeft}
use Rattle.show.proofs.Opened.put_entries.Given as goal

abbrev pub invariant-loop-k : goal.invariant-loop-k
invariant-loop-k l = EntriesLeft (entries_in l.self.sheet.now) l.initial.out l.out l.k l.at
