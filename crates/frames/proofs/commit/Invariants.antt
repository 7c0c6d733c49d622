use Rattle.frames.proofs.Merging.{Committing}
use Rattle.frames.proofs.commit.Given as goal

abbrev pub invariant-loop-x : goal.invariant-loop-x
invariant-loop-x l = Committing l.initial.frames l.top l.merged l.clashes l.frames l.x
