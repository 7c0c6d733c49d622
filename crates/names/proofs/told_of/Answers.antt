use Rattle.names.proofs.Naming.{told_bound, told_held}
use Rattle.names.proofs.told_of.Goals as goal

pub returns-then-bound-name : goal.returns-then-bound-name
returns-then-bound-name c =
    rw (c.or.ensures, c.if-bound-name.true) (told_bound c.held_in-held.ensures)

pub returns : goal.returns
returns c =
    rw c.if-bound-name.false (told_held c.held_in-held.ensures)
