use Rattle.message.proofs.Filling.{Coming}
use Rattle.message.proofs.Message.fill_in.Given as goal

abbrev pub invariant-loop-c : goal.invariant-loop-c
invariant-loop-c l = Coming l.self.image.now l.self.table.now l.self.pieces.now l.self.format.now l.c-index l.k l.out l.at l.initial.out
