use Rattle.std.proofs.Common.{◌≡◌, ◌∙◌, List, ℕ, [], ◌∷◌}
use Rattle.meaning.specs.Base.{words}
use Rattle.words.proofs.Steps.{put_part_at, four_bytes_of}
use Rattle.words.proofs.put_word.Goals as goal

pub returns-clause-buf_after : goal.returns-clause-buf_after
unfolding words
returns-clause-buf_after c =
    let w : List ℕ = words (c.args.w ∷ []) in
    let same : c.to_le_bytes.result ≡ w = c.to_le_bytes.ensures ∙ four_bytes_of c.args.w in
    rw (c.copy_from_slice.ensures.after, same) (put_part_at c.args.buf.now c.args.at w)
