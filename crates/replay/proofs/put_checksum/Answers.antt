use Rattle.meaning.specs.Base.{bytes}
use Rattle.words.proofs.Laws.{wrote}
use Rattle.replay.proofs.Fronts.{checksum_wrote}
use Rattle.std.proofs.Common.{arith}
use Rattle.replay.proofs.put_checksum.Goals as goal

pub returns : goal.returns
unfolding bytes
returns c =
    let a = wrote (bytes " #") (omega (arith, c.requires)) c.put-digits.ensures.buf_after c.put-digits.ensures.value in
    let z = wrote (bytes "\n") (omega (arith, c.requires, a.long, a.ends, c.put_hex-end.ensures.wrote.long, c.put_hex-end.ensures.value)) c.put.ensures.buf_after c.put.ensures.value in
    checksum_wrote c.args.sheet.now _ c.fnv.ensures a c.put_hex-end.ensures.wrote z
