use mathlib.Core.Path.{◌≡◌}
use lib.ListN.{drop}
use Rattle.meaning.specs.Base.{all}
use Rattle.meaning.specs.Image.{printable}
use Rattle.words.proofs.all_printable.Given as goal

-- what is left of the text answers what all of it answers
abbrev pub invariant-loop-i : goal.invariant-loop-i
invariant-loop-i l = all printable (drop l.i l.s) ≡ all printable l.s
