-- What an entry of the table says: a plain type's number; 8, "compare the whole types"; or the code of a refusal.
use Rattle.std.specs.Prelude.{◌≡◌, ℕ, ◌<◌, Result, Ok, Err}
use Rattle.codes.specs.declared.Code.{Code}
use Rattle.codes.specs.Codes.{code_number}
use Rattle.operators.specs.declared.Answer.{Answer}
use Rattle.operators.specs.declared.Answer.TheVariants.{«Type» as Plain, Whole, Refused}

abbrev pub Says : Answer → ℕ → Type 0
Says (Plain n) x = (n ≡ x) × (x < 8)
Says Whole x = x ≡ 8
Says (Refused c) x = code_number c ≡ x

-- the same for one operand: no types are compared
abbrev pub SaysUnary : Result ℕ Code → ℕ → Type 0
SaysUnary (Ok n) x = (n ≡ x) × (x < 8)
SaysUnary (Err c) x = code_number c ≡ x
