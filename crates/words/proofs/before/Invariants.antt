use mathlib.Core.Path.{◌≡◌}
use lib.ListN.{drop}
use Rattle.meaning.specs.Base.{before}
use Rattle.words.proofs.before.Given as goal

-- what is left of both texts answers what both answer
abbrev pub invariant-loop-i : goal.invariant-loop-i
invariant-loop-i l = before (drop l.i l.a) (drop l.i l.b) ≡ before l.a l.b
