-- The answers of this crate in the document's numbers, and what they leave of the lent bytes.
use Rattle.std.specs.Prelude.{◌≡◌, List, ℕ, length, Result, Ok, Err}
use Rattle.meaning.specs.Answer.{overlaid}
use Rattle.meaning.specs.Convert.{Conversion as Meant}
use Rattle.image.specs.Outcome.{fault_in}
use Rattle.convert.specs.declared.Unconverted.{Unconverted}
use Rattle.convert.specs.declared.Unconverted.TheVariants.{Faulty, ShortOutput}

-- code, place, and how many bytes were written
pub record Numbers : Type 0 where
  pub code : ℕ
  pub place : ℕ
  pub length : ℕ

-- the numbers of an answer of `meaning`
abbrev pub numbers_in : Meant → Numbers
numbers_in a = record { code = a.code; place = a.place; length = length a.image }

-- the numbers of each case
abbrev pub numbers_of : Result ℕ Unconverted → Numbers
numbers_of (Ok n) = record { code = 0; place = 0; length = n }
numbers_of (Err (Faulty f)) = record { code = (fault_in f).code; place = (fault_in f).place; length = 0 }
numbers_of (Err ShortOutput) = record { code = 15; place = 0; length = 0 }

-- what is left for a caller who got the numbers n: they are a's, a's image stands at the front of the buffer, and the rest is kept
pub record Hands (a : Meant) (n : Numbers) (old new : List ℕ) : Type 0 where
  pub numbers : n ≡ numbers_in a
  pub out : new ≡ overlaid a.image old

-- the same of an answer by cases
pub record Converts (a : Meant) (r : Result ℕ Unconverted) (old new : List ℕ) : Type 0 where
  pub numbers : numbers_of r ≡ numbers_in a
  pub out : new ≡ overlaid a.image old
