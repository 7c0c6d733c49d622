use mathlib.Core.Bool.{true}
use Rattle.types.specs.Steps.{Passed}
use Rattle.types.proofs.find.Given as goal

abbrev pub invariant-loop-i : goal.invariant-loop-i
invariant-loop-i g l = Passed (λ i. goal.F-post g l.test i true) l.table l.types l.slot l.i

abbrev pub decreases-loop-i : goal.decreases-loop-i
decreases-loop-i g l = l.i
