-- The answers of the public functions in the document's numbers, and what they leave of the lent bytes.
use Rattle.std.specs.Prelude.{◌≡◌, Bool, true, List, ℕ, ◌≤◌, ◌<◌, leb, length, Result, Ok, Err}
use Rattle.meaning.specs.Limits.{largest_sheet}
use Rattle.meaning.specs.Base.{◌and◌, all, if_some}
use Rattle.meaning.specs.Read.{is_sheet, read_sheet}
use Rattle.meaning.specs.Answer.{overlaid, bare, write_answer, walk_answer}
use Rattle.meaning.specs.Answer.{Answer as Meant}
use Rattle.meaning.specs.Walk.{plain, strict}
use Rattle.meaning.specs.Walk.{Setting as MeantSetting}
use Rattle.image.specs.Outcome.{fault_in}
use Rattle.checker.specs.declared.Setting.{Setting}
use Rattle.checker.specs.declared.Setting.TheVariants.{Plain, Strict}
use Rattle.checker.specs.declared.Reply.{Reply}
use Rattle.checker.specs.declared.NoSheet.{NoSheet}
use Rattle.checker.specs.declared.Unwritten.{Unwritten}
use Rattle.checker.specs.declared.Unwritten.TheVariants.{NoRoom, NotRead}
use Rattle.checker.specs.declared.Refused.{Refused}
use Rattle.checker.specs.declared.Refused.TheVariants.{Faulty, NinthFrame, ShortBuffer, NoSetting, Retired, Typing}

-- ---- the setting

abbrev pub setting_meant : Setting → MeantSetting
setting_meant Plain = plain
setting_meant Strict = strict

-- by its number: 0 plain, 1 strict, and there is no other
abbrev pub SettingOf : ℕ → Result Setting Refused → Type 0
SettingOf n (Ok Plain) = n ≡ 0
SettingOf n (Ok Strict) = n ≡ 1
SettingOf n (Err r) = (r ≡ NoSetting) × (1 < n)

-- ---- the answer

-- the sheet's length, or why there is none
abbrev pub Answer : Type 0
Answer = Result ℕ Refused

-- "Code, place, span, sheet length, message length", and the second span of document 02
pub record Numbers : Type 0 where
  pub code : ℕ
  pub place : ℕ
  pub span_start : ℕ
  pub span_end : ℕ
  pub second_start : ℕ
  pub second_end : ℕ
  pub sheet : ℕ
  pub message : ℕ

abbrev pub bare_numbers : ℕ → ℕ → Numbers
bare_numbers c n = record { code = c; place = n; span_start = 0; span_end = 0; second_start = 0; second_end = 0; sheet = 0; message = 0 }

-- code 0, with the length of the sheet
abbrev pub sheet_numbers : ℕ → Numbers
sheet_numbers n = record { code = 0; place = 0; span_start = 0; span_end = 0; second_start = 0; second_end = 0; sheet = n; message = 0 }

-- the numbers of each case
abbrev pub numbers_of : Answer → Numbers
numbers_of (Ok n) = sheet_numbers n
numbers_of (Err (Faulty f)) = bare_numbers (fault_in f).code (fault_in f).place
numbers_of (Err (NinthFrame i)) = bare_numbers 9 i
numbers_of (Err ShortBuffer) = bare_numbers 10 0
numbers_of (Err NoSetting) = bare_numbers 13 0
numbers_of (Err (Retired i)) = bare_numbers 14 i
numbers_of (Err (Typing r)) =
    record {
      code = r.code;
      place = r.place;
      span_start = r.begins;
      span_end = r.ends;
      second_start = r.second_begins;
      second_end = r.second_ends;
      sheet = 0;
      message = r.message;
    }

-- a typing refusal has a typing code
abbrev pub Stands : Answer → Type 0
Stands (Ok n) = Unit {0}
Stands (Err (Faulty f)) = Unit {0}
Stands (Err (NinthFrame i)) = Unit {0}
Stands (Err ShortBuffer) = Unit {0}
Stands (Err NoSetting) = Unit {0}
Stands (Err (Retired i)) = Unit {0}
Stands (Err (Typing r)) = (20 ≤ r.code) × (r.code ≤ 50)

-- the numbers of an answer of `meaning`
abbrev pub numbers_in : Meant → Numbers
numbers_in a =
    record {
      code = a.code;
      place = a.place;
      span_start = a.span_start;
      span_end = a.span_end;
      second_start = a.second_start;
      second_end = a.second_end;
      sheet = length a.sheet;
      message = length a.message;
    }

-- a byte that is an ASCII character to be read, the space among them: not a 0, not the end of a line
unfoldable pub readable : ℕ → Bool
readable b = leb 32 b and leb b 126

-- what is left for a caller who got the numbers n: they are a's; its place is a word; where the sheet's buffer has room for the largest sheet
-- the answer is not 10; what is written for 0 is a sheet; a message is ASCII with no 0; a's sheet stands at the front of the one buffer and
-- its message at the front of the other, and the rest is kept
pub record Replies (a : Meant) (n : Numbers) (old_sheet new_sheet old_message new_message : List ℕ) : Type 0 where
  pub numbers : n ≡ numbers_in a
  pub near : a.place < 4294967296
  -- "A sheet never exceeds 42,532 bytes."
  pub roomy : largest_sheet ≤ length old_sheet → a.code ≡ 10 → ⊥
  pub form : a.code ≡ 0 → is_sheet a.sheet ≡ true
  pub legible : all readable a.message ≡ true
  pub sheet : new_sheet ≡ overlaid a.sheet old_sheet
  pub message : new_message ≡ overlaid a.message old_message

-- the same of an answer by cases
pub record Answers (a : Meant) (r : Answer) (old_sheet new_sheet old_message new_message : List ℕ) : Type 0 where
  pub replies : Replies a (numbers_of r) old_sheet new_sheet old_message new_message
  pub stands : Stands r

-- what the walk says of a well-formed image
abbrev pub AnswersByWalk : MeantSetting → List ℕ → Answer → List ℕ → List ℕ → List ℕ → List ℕ → Type 0
AnswersByWalk setting bs r old_sheet new_sheet old_message new_message =
    Answers (walk_answer setting bs (length old_sheet) (length old_message)) r old_sheet new_sheet old_message new_message

-- the same where only the sheet's buffer is lent, or only the message's
pub record Wrote (a : Meant) (r : Answer) (old new : List ℕ) : Type 0 where
  pub numbers : numbers_of r ≡ numbers_in a
  pub stands : Stands r
  pub sheet : new ≡ overlaid a.sheet old

pub record Told (a : Meant) (r : Answer) (old new : List ℕ) : Type 0 where
  pub numbers : numbers_of r ≡ numbers_in a
  pub stands : Stands r
  pub message : new ≡ overlaid a.message old

-- ---- the sheet's reader and writer

-- there is one refusal, and it holds nothing
abbrev pub no_sheet : NoSheet
no_sheet = record {}

abbrev pub reading_numbers : Result (Unit {0}) NoSheet → Numbers
reading_numbers (Ok u) = bare_numbers 0 0
reading_numbers (Err e) = bare_numbers 12 0

abbrev pub rewriting_numbers : Result ℕ Unwritten → Numbers
rewriting_numbers (Ok n) = sheet_numbers n
rewriting_numbers (Err NoRoom) = bare_numbers 10 0
rewriting_numbers (Err NotRead) = bare_numbers 12 0

-- what was read, written into so much room: "Writing what was read into too short a buffer gives 10."
unfoldable pub rewritten : List ℕ → ℕ → Meant
rewritten bs room = if_some (read_sheet bs) (λ es. write_answer es room) (bare 12 0)

-- the same for a caller who got the numbers n
pub record Relaid (a : Meant) (n : Numbers) (old new : List ℕ) : Type 0 where
  pub numbers : n ≡ numbers_in a
  pub sheet : new ≡ overlaid a.sheet old

-- ---- for other languages

abbrev pub reply_means : Reply → Numbers
reply_means r =
    record {
      code = r.code;
      place = r.place;
      span_start = r.span_start;
      span_end = r.span_end;
      second_start = r.second_start;
      second_end = r.second_end;
      sheet = r.sheet_length;
      message = r.message_length;
    }
