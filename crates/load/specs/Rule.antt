-- What a run of the load rule leaves: its case by its number, the check's numbers, and every lent byte.
use Rattle.std.specs.Prelude.{◌≡◌, List, ℕ, Result, Ok, Err}
use Rattle.meaning.specs.Answer.{Answer as Meant}
use Rattle.meaning.specs.Load.{loads, look, refused, loading, loading_number}
use Rattle.meaning.specs.Load.{Loading as Kind}
use Rattle.checker.specs.Answers.{Answer, Numbers, numbers_of, Stands, Replies}
use Rattle.checker.specs.declared.Refused.{Refused}
use Rattle.show.specs.Words.{Telling, telling_code, telling_length}
use Rattle.load.specs.declared.Verdict.{Verdict}
use Rattle.load.specs.declared.Words.{Words}
use Rattle.load.specs.declared.Loading.{Loading}
use Rattle.load.specs.declared.Loading.TheVariants.{Loads, Look}

-- how an accepted script loads, or the check's refusal
abbrev pub Decision : Type 0
Decision = Result Loading Refused

-- the case, as `meaning` names it
abbrev pub kind_of : Decision → Kind
kind_of (Ok (Loads n)) = loads
kind_of (Ok (Look n)) = look
kind_of (Err r) = refused

-- the check's answer
abbrev pub answer_of : Decision → Answer
answer_of (Ok (Loads n)) = Ok n
answer_of (Ok (Look n)) = Ok n
answer_of (Err r) = Err r

-- and its numbers
abbrev pub numbers_told : Decision → Numbers
numbers_told d = numbers_of (answer_of d)

-- a typing refusal has a typing code
abbrev pub StandsTold : Decision → Type 0
StandsTold d = Stands (answer_of d)

-- what is left for a caller who got the case's number k and the numbers n: k is what the load rule makes of the check's answer a and the
-- approved sheet, whatever bytes that is; and of a and the two buffers all that the check itself promises
pub record Decides (a : Meant) (approved : List ℕ) (k : ℕ) (n : Numbers) (old_sheet new_sheet old_message new_message : List ℕ) : Type 0 where
  pub rule : k ≡ loading_number (loading a approved)
  pub replies : Replies a n old_sheet new_sheet old_message new_message

-- the same of an answer by cases
pub record Decided (a : Meant) (approved : List ℕ) (r : Decision) (old_sheet new_sheet old_message new_message : List ℕ) : Type 0 where
  pub decides : Decides a approved (loading_number (kind_of r)) (numbers_told r) old_sheet new_sheet old_message new_message
  pub stands : StandsTold r

-- ---- for other languages

abbrev pub verdict_means : Verdict → Numbers
verdict_means v =
    record {
      code = v.code;
      place = v.place;
      span_start = v.span_start;
      span_end = v.span_end;
      second_start = v.second_start;
      second_end = v.second_end;
      sheet = v.sheet_length;
      message = v.message_length;
    }

-- what a sheet's words told, by their numbers
pub record Numbered (t : Telling) (w : Words) : Type 0 where
  pub code_is : w.code ≡ telling_code t
  pub length_is : w.length ≡ telling_length t
