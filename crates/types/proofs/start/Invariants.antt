use Rattle.types.specs.Steps.{Started}
use Rattle.types.proofs.start.Given as goal

abbrev pub invariant-loop-i : goal.invariant-loop-i
invariant-loop-i l = Started l.table l.i
