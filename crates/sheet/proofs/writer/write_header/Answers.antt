use Rattle.sheet.proofs.Areas.{put_one}
use Rattle.sheet.proofs.Whole.{header_put}
use Rattle.sheet.proofs.writer.write_header.Goals as goal

pub returns : goal.returns
returns c =
    header_put _ _ _ _ c.requires.1 c.put_three.ensures
    (rw c.elements_at.ensures at c.put_three-2.ensures)
    (rw (c.names_at.ensures, c.texts_at.ensures) at c.put_three-3.ensures)
    (rw c.texts_at-2.ensures at (put_one (c.put_word.ensures.buf_after, c.put_word.ensures.buf_len_unchanged)))
