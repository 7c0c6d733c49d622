use Rattle.message.specs.Texts.{Sized}
use Rattle.message.proofs.measure.Given as goal

abbrev pub invariant-loop-i : goal.invariant-loop-i
invariant-loop-i l = Sized l.table l.cap l.lens l.i
