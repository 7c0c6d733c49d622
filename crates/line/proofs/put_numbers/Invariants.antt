use Rattle.line.proofs.Pieces.{NumbersPut}
use Rattle.line.proofs.put_numbers.Given as goal

abbrev pub invariant-loop-n : goal.invariant-loop-n
invariant-loop-n l = NumbersPut l.initial.out l.at l.numbers l.n-index l.out l.end
