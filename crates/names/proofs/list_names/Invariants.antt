use Rattle.names.proofs.Naming.{Naming}
use Rattle.names.proofs.list_names.Given as goal

abbrev pub invariant-loop-k : goal.invariant-loop-k
invariant-loop-k l = Naming l.image l.frames l.top l.names l.k l.count
