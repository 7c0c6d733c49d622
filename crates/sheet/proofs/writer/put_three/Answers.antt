use Rattle.sheet.proofs.Areas.{put_three_words, put_one}
use Rattle.sheet.proofs.writer.put_three.Goals as goal

pub returns : goal.returns
returns c =
    put_three_words _ _ _ _ c.requires.at_in_bounds (put_one (c.put_word.ensures.buf_after, c.put_word.ensures.buf_len_unchanged)) (put_one (c.put_word-2.ensures.buf_after, c.put_word-2.ensures.buf_len_unchanged)) (put_one (c.put_word-3.ensures.buf_after, c.put_word-3.ensures.buf_len_unchanged))
