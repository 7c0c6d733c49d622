use Rattle.std.proofs.lemmas.Result.{err_from_is_err_and}
use Rattle.meaning.proofs.Faults.{sound}
use Rattle.convert.proofs.Outcomes.{faulty, short, done}
use mathlib.Core.Path.{sym}
use native.Mathlib.Omega.{arith}
use Rattle.convert.proofs.convert.Goals as goal

pub returns-in_err-judge : goal.returns-in_err-judge
returns-in_err-judge c =
    let p = err_from_is_err_and c.from_residual.result c.from_residual.ensures.1 in
    rw (p.1, p.2) (faulty c.args.image.now c.args.out.now _ c.in_err-judge.ensures)

pub returns-then-out-image : goal.returns-then-out-image
returns-then-out-image c =
    short c.args.image.now c.args.out.now ((sound _).0 (sym c.in_ok-judge.ensures)) (omega arith)

pub write_converted-requires-clause-sound : goal.write_converted-requires-clause-sound
write_converted-requires-clause-sound c =
    (sound _).0 (sym c.in_ok-judge.ensures)

pub returns : goal.returns
returns c =
    done c.args.image.now c.args.out.now _ ((sound _).0 (sym c.in_ok-judge.ensures)) (omega arith) c.write_converted.ensures
