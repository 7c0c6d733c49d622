use Rattle.meaning.specs.Base.{bytes}
use Rattle.words.proofs.Laws.{wrote}
use Rattle.replay.proofs.Fronts.{read_wrote}
use Rattle.std.proofs.Common.{arith}
use Rattle.replay.proofs.read_line.Goals as goal

pub returns : goal.returns
unfolding bytes
returns c =
    let a = wrote (bytes "read") (omega (arith, c.requires.in_bounds_2)) c.put-numbers.ensures.buf_after c.put-numbers.ensures.value in
    read_wrote c.args.sheet.now _ _ c.get_word-names.ensures c.get_word-types.ensures a c.put_spaced-second.ensures.wrote c.put_spaced-end.ensures.wrote c.put_checksum.ensures
