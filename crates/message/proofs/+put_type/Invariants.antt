use Rattle.message.proofs.Writing.{Left, rest}
use Rattle.message.proofs.+put_type.Given as goal

abbrev pub decreases-put_type : goal.decreases-put_type
decreases-put_type l = l.i

abbrev pub invariant-loop-j : goal.invariant-loop-j
invariant-loop-j l = Left l.out l.end (rest l.table l.i l.j) l.initial.out l.initial.end (rest l.table l.i 0)
