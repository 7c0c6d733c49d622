-- What is asked of the one who prints a line, and what each piece of it leaves behind.
use Rattle.std.specs.Prelude.{◌≡◌, List, ℕ, ◌+◌, ◌<◌, ◌≤◌, eqb, length}
use Rattle.meaning.specs.Limits.{largest_sheet}
use Rattle.meaning.specs.Answer.{Answer, overlaid}
use Rattle.meaning.specs.Base.{test◌then◌else◌, bytes}
use Rattle.meaning.specs.Line.{line_of}

-- an accepted image has a sheet with a header, whose length is a word; the line finds room whatever its numbers are
pub record Printable (code : ℕ) (sheet message out : List ℕ) : Type 0 where
  pub headed : code ≡ 0 → 40 ≤ length sheet
  pub short : length sheet < 4294967296
  pub room : 64 + length message ≤ length out

-- the answer whose sheet and message are the written parts of the two buffers; its line has no second span
abbrev pub answered : ℕ → ℕ → ℕ → ℕ → List ℕ → List ℕ → Answer
answered code place begins ends sheet message =
    record { code = code; place = place; span_start = begins; span_end = ends; second_start = 0; second_end = 0; sheet = sheet; message = message }

-- "message or `-`"
unfoldable pub or_dash : List ℕ → List ℕ
or_dash message = test eqb (length message) 0 then bytes "-" else message

-- a line stands at the front of a buffer that is as long as it was, and the rest is kept
pub record Fronted (w old new : List ℕ) (size : ℕ) : Type 0 where
  pub line : new ≡ overlaid w old
  pub ends : size ≡ length w
  pub long : length new ≡ length old
  pub inside : size ≤ length new

-- the line of an answer stands at the front of a buffer, its sheet and its message at the front of two others, and the rest of the three is
-- kept; size is the line's, count the sheet's; and a room for the largest sheet is never too short
pub record Lined (a : Answer) (old new old_sheet new_sheet old_message new_message : List ℕ) (size code count : ℕ) : Type 0 where
  pub front : Fronted (line_of a) old new size
  pub sheet : new_sheet ≡ overlaid a.sheet old_sheet
  pub message : new_message ≡ overlaid a.message old_message
  pub told : code ≡ a.code
  pub counted : count ≡ length a.sheet
  pub roomy : largest_sheet ≤ length old_sheet → a.code ≡ 10 → ⊥

-- the answer's second span, which the line does not tell
pub record SecondTold (a : Answer) (start end : ℕ) : Type 0 where
  pub from : start ≡ a.second_start
  pub to : end ≡ a.second_end
