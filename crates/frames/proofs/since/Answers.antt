use Rattle.frames.proofs.Laws.{known_none, known_kept, known_new}
use Rattle.frames.proofs.since.Goals as goal

pub returns-in-Some : goal.returns-in-Some
returns-in-Some c =
    rw c.in-Some.is known_kept

pub returns-in-None : goal.returns-in-None
returns-in-None c =
    rw c.in-None.is (known_none c.if-ty-eq-UNKNOWN.true c.blank.ensures.0 c.blank.ensures.1)

pub returns-in-None-2 : goal.returns-in-None-2
returns-in-None-2 c =
    rw c.in-None.is (known_new c.if-ty-eq-UNKNOWN.false)
