use Rattle.meaning.specs.Base.{bytes}
use Rattle.words.proofs.Laws.{wrote}
use Rattle.line.proofs.Pieces.{accepted_wrote}
use native.Mathlib.Omega.{arith}
use Rattle.line.proofs.accepted_line.Goals as goal

pub returns-clause-wrote : goal.returns-clause-wrote
unfolding bytes
returns-clause-wrote c =
    let a = wrote (bytes "accepted") (omega arith) c.put-numbers.ensures.buf_after c.put-numbers.ensures.value in
    let z = wrote (bytes "\n") (omega (arith, a.long, c.put_numbers-end.ensures.wrote.long)) c.put.ensures.buf_after c.put.ensures.value in
    accepted_wrote c.args.sheet.now _ _ c.get_word-names.ensures c.get_word-types.ensures a c.put_numbers-end.ensures.wrote z
