use mathlib.Core.Path.{◌≡◌}
use lib.ListN.{length}
use Rattle.meaning.specs.Answer.{overlaid}
use Rattle.meaning.specs.Convert.{converted_to}
use Rattle.convert.proofs.write_converted.Given as goal

abbrev pub invariant-loop-i : goal.invariant-loop-i
invariant-loop-i l = (length l.out ≡ length l.initial.out) × (l.out ≡ overlaid (converted_to l.image l.i) l.initial.out)
