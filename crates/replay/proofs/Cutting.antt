-- The line of a record that is cut behind 59,937 bytes is that of the whole record, in every batch. Ruled out: a buffer that is one byte
-- shorter, in which the largest image with a byte behind it would be accepted. Assumes nothing.
use Rattle.std.proofs.Common.{◌≡◌, ℕ, List, take, ap}
use Rattle.meaning.specs.Limits.{largest_sheet, sheet_buffer, message_buffer, read_at_most}
use Rattle.meaning.specs.Answer.{bare, write_answer}
use Rattle.meaning.specs.Base.{if_some}
use Rattle.meaning.proofs.Cut.{answer_cut, read_sheet_cut}
use Rattle.checker.specs.Answers.{rewritten}
use Rattle.replay.specs.Lines.{summed_line, checked_line, rewritten_line, sheet_line, line_for}
use Rattle.replay.specs.declared.Task.{Task}
use Rattle.replay.specs.declared.Task.TheVariants.{Images, Strict, Tight, Sheets}

module _ (bs : List ℕ) where
  checked_cut : (setting x y : ℕ) → checked_line setting (take read_at_most bs) x y ≡ checked_line setting bs x y
  unfolding checked_line
  checked_cut setting x y = ap summed_line (answer_cut bs setting x y)

  pub rewritten_cut : (room : ℕ) → rewritten (take read_at_most bs) room ≡ rewritten bs room
  unfolding rewritten
  rewritten_cut room = ap (λ o. if_some o (λ es. write_answer es room) (bare 12 0)) (read_sheet_cut bs)

  pub line_cut : (task : Task) → line_for task (take read_at_most bs) ≡ line_for task bs
  unfolding line_for sheet_line
  line_cut Images = checked_cut 0 sheet_buffer message_buffer
  line_cut Strict = checked_cut 1 sheet_buffer message_buffer
  line_cut Tight = checked_cut 0 98 69
  line_cut Sheets = ap rewritten_line (rewritten_cut largest_sheet)
