-- The answers of this crate in the document's numbers.
use Rattle.std.proofs.Math.Option.{none, some}
use Rattle.std.proofs.Math.Option.{Option as Maybe}
use Rattle.std.specs.Prelude.{ℕ, Option, Some, None, Result, Ok, Err}
use Rattle.meaning.specs.Image.{Fault as Meant}
use Rattle.image.specs.declared.Fault.{Fault}
use Rattle.image.specs.declared.Fault.TheVariants.{BadHead, BadCount, BadOffset, BadName, UnsafeName, BadNode, BadNesting, TooDeep}

-- what a search found
abbrev pub place_of : Option ℕ → Maybe ℕ
place_of (Some i) = some i
place_of None = none

-- code and place of each refusal: "place 0 where none is told"
abbrev pub fault_in : Fault → Meant
fault_in BadHead = record { code = 1; place = 0 }
fault_in BadCount = record { code = 2; place = 0 }
fault_in BadOffset = record { code = 3; place = 0 }
fault_in (BadName i) = record { code = 4; place = i }
fault_in (UnsafeName i) = record { code = 5; place = i }
fault_in (BadNode i) = record { code = 6; place = i }
fault_in (BadNesting i) = record { code = 7; place = i }
fault_in (TooDeep i) = record { code = 8; place = i }

-- the same of an answer: a well-formed image has no refusal
abbrev pub fault_of : Result (Unit {0}) Fault → Maybe Meant
fault_of (Ok u) = none
fault_of (Err f) = some (fault_in f)

-- the same for who is told of none as 0 and 0
abbrev pub code_told : Maybe Meant → ℕ
code_told none = 0
code_told (some f) = f.code

abbrev pub place_told : Maybe Meant → ℕ
place_told none = 0
place_told (some f) = f.place
