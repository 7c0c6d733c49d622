-- The walk's answers in the scope's numbers, and what they say of the notes.
use Rattle.std.specs.Prelude.{◌≡◌, ℕ, Result, Ok, Err}
use Rattle.rules.specs.declared.Reason.{Reason}
use Rattle.rules.specs.Outcome.{Decision}
use Rattle.codes.specs.Codes.{code_number}
use Rattle.state.specs.Notes.{code_in, Refused}
use Rattle.state.specs.declared.Noted.{Noted}
use Rattle.state.specs.declared.Notes.{Notes}

-- what every Err has: the notes have the rest
abbrev pub noted : Noted
noted = record {}

-- a type's number, or a refusal
abbrev pub Typed : Type 0
Typed = Result ℕ Noted

-- well, or a refusal
abbrev pub Outcome : Type 0
Outcome = Result Unit Noted

-- code 0, or the code that is noted
abbrev pub code_of : {T : Type 0} → Result T Noted → Notes → ℕ
code_of (Ok v) ns = 0
code_of (Err e) ns = code_in ns

-- the type's number, and 0 where there is none
abbrev pub number_of : Typed → ℕ
number_of (Ok n) = n
number_of (Err e) = 0

-- what is decided at node n, by a code and two numbers, is the answer r: nothing is noted where it is well, and `good`, and else the refusal
pub record Settled {T : Type 0} (ns ms : Notes) (r : Result T Noted) (good : T) (code n a b : ℕ) : Type 0 where
  pub well : code ≡ 0 → (r ≡ Ok good) × (ms ≡ ns)
  pub ill : (code ≡ 0 → ⊥) → (r ≡ Err noted) × Refused ns ms code n a b

-- a rule's decision d, at node n, is the answer r
pub record Settles (ns ms : Notes) (r : Typed) (n : ℕ) (d : Decision) : Type 0 where
  pub well : (k : ℕ) → d ≡ Ok k → (r ≡ Ok k) × (ms ≡ ns)
  pub ill : (w : Reason) → d ≡ Err w → (r ≡ Err noted) × Refused ns ms (code_number w.code) n w.a w.b
