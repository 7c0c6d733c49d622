use Rattle.std.proofs.lemmas.Result.{err_from_is_err_and}
use mathlib.Core.Path.{sym}
use Rattle.meaning.proofs.Faults.{sound}
use Rattle.checker.proofs.Outcomes.{check_none, check_fault, check_retired, check_walked}
use Rattle.checker.proofs.check.Goals as goal

pub returns-in_err-setting : goal.returns-in_err-setting
returns-in_err-setting c =
    let p = err_from_is_err_and c.from_residual.result c.from_residual.ensures.1 in
    rw (p.1, p.2) (check_none _ _ _ _ _ c.in_err-setting.ensures)

pub returns-in_err-judge : goal.returns-in_err-judge
returns-in_err-judge c =
    let r = c.from_residual-in_err-judge in
    let p = err_from_is_err_and r.result r.ensures.1 in
    rw (p.1, p.2) (check_fault _ _ _ _ _ c.in_ok-setting.ensures _ c.in_err-judge.ensures)

pub first_tree_set-requires : goal.first_tree_set-requires
first_tree_set-requires c =
    ((sound _).0 (sym c.in_ok-judge.ensures)).headed

pub returns-in-Some : goal.returns-in-Some
returns-in-Some c =
    check_retired _ _ _ _ _ c.in_ok-setting.ensures _ ((sound _).0 (sym c.in_ok-judge.ensures)) c.in-Some.ensures

pub walk_image-requires : goal.walk_image-requires
walk_image-requires c =
    (sound _).0 (sym c.in_ok-judge.ensures)

pub returns : goal.returns
returns c =
    check_walked _ _ _ _ _ c.in_ok-setting.ensures ((sound _).0 (sym c.in_ok-judge.ensures)) c.in_default.ensures c.walk_image.ensures
