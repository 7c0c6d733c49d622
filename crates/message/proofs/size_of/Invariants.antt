use Rattle.message.proofs.Writing.{Due, rest}
use Rattle.message.proofs.size_of.Given as goal

abbrev pub invariant-loop-j : goal.invariant-loop-j
invariant-loop-j l = Due l.cap l.size (rest l.table l.i l.j) l.initial.size (rest l.table l.i 0)
