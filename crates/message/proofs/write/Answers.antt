use mathlib.Core.Path.{refl, sym}
use Rattle.meaning.proofs.Answers.{overlaid_none}
use Rattle.message.proofs.NoCode.{told_none}
use Rattle.message.proofs.write.Goals as goal

pub returns-in-Err-clause-value : goal.returns-in-Err-clause-value
returns-in-Err-clause-value c =
    rw (told_none _ _ _ _ _ _ (rw c.in-Err.is at c.try_from.ensures)) refl

pub returns-in-Err-clause-out_after : goal.returns-in-Err-clause-out_after
returns-in-Err-clause-out_after c =
    rw (told_none _ _ _ _ _ _ (rw c.in-Err.is at c.try_from.ensures)) (sym (overlaid_none _))
