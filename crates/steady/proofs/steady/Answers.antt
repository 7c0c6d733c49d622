use Rattle.std.proofs.lemmas.Result.{err_from_is_err_and}
use Rattle.meaning.proofs.Faults.{sound}
use Rattle.steady.proofs.Whole.{steadiness_sound, steadiness_faulty}
use mathlib.Core.Path.{sym, ◌∙◌}
use Rattle.steady.proofs.steady.Goals as goal

pub returns-in_err-judge : goal.returns-in_err-judge
returns-in_err-judge c =
    let p = err_from_is_err_and c.from_residual.result c.from_residual.ensures.1 in
    rw (p.1, p.2) (sym (steadiness_faulty _ _ (sym c.in_err-judge.ensures)))

pub first_def-requires : goal.first_def-requires
first_def-requires c =
    (sound _).0 (sym c.in_ok-judge.ensures)

pub returns : goal.returns
returns c =
    c.first_def.ensures ∙ sym (steadiness_sound ((sound _).0 (sym c.in_ok-judge.ensures)))
