-- What a decision means: the type of a number, or a refusal whose message names what its a and b stand for.
use Rattle.std.specs.Prelude.{◌≡◌, List, [], ◌∷◌, Result, Ok, Err, ℕ, ◌≤◌, ◌<◌, eqb}
use Rattle.meaning.specs.Base.{test◌then◌else◌, choose, is_in}
use Rattle.meaning.specs.Image.{Role, plain, exactly, between, any, takes, Name, name_of}
use Rattle.meaning.specs.Message.{Piece, a_type, a_text, a_number, refusal}
use Rattle.meaning.specs.Operators.{Checked, ok, refused}
use Rattle.meaning.specs.Rules.{described}
use Rattle.codes.specs.declared.Code.{Code}
use Rattle.codes.specs.Codes.{code_number}
use Rattle.types.specs.Table.{Tab, denote}
use Rattle.rules.specs.declared.Reason.{Reason}

-- ---- what a message names

-- how many types the message of a code names
unfoldable pub types_named : ℕ → ℕ
types_named c =
    test is_in c (22 ∷ 25 ∷ 29 ∷ 30 ∷ 31 ∷ 32 ∷ 33 ∷ 47 ∷ []) then 2
    else test is_in c (24 ∷ 27 ∷ 34 ∷ 35 ∷ 39 ∷ 40 ∷ 41 ∷ 42 ∷ 43 ∷ 44 ∷ 45 ∷ 46 ∷ 48 ∷ 49 ∷ 50 ∷ []) then 1 else 0

-- how many arguments a function takes, and 0 for what is none
unfoldable pub taken : Role → ℕ
taken plain = 0
taken (exactly p) = 0
taken (between p q) = 0
taken any = 0
taken (takes p) = p

-- a and b are the numbers of the types that the message names; for 26 its two counts; for 23, 37 and 38 a name's number and a count
unfoldable pub pieces : List Name → Tab → ℕ → ℕ → ℕ → List Piece
pieces ws t c a b =
    let w : Name = name_of ws a in
    choose (types_named c)
    (choose c []
    ((23, a_text w.spelling ∷ [])
    ∷ (26, a_number a ∷ a_number b ∷ [])
    ∷ (37, a_text w.spelling ∷ a_text (described w.role) ∷ a_number b ∷ [])
    ∷ (38, a_text w.spelling ∷ a_number (taken w.role) ∷ a_number b ∷ [])
    ∷ []))
    ((1, a_type (denote t a) ∷ []) ∷ (2, a_type (denote t a) ∷ a_type (denote t b) ∷ []) ∷ [])

-- ---- a decision in numbers: code 0 and a type's number, or a code and what its message needs

abbrev pub Decision : Type 0
Decision = Result ℕ Reason

abbrev pub because : Code → ℕ → ℕ → Reason
because c a b = record { code = c; a = a; b = b }

abbrev pub decision_code : Decision → ℕ
decision_code (Ok n) = 0
decision_code (Err w) = code_number w.code

abbrev pub decision_number : Decision → ℕ
decision_number (Ok n) = n
decision_number (Err w) = 0

abbrev pub decision_first : Decision → ℕ
decision_first (Ok n) = 0
decision_first (Err w) = w.a

abbrev pub decision_second : Decision → ℕ
decision_second (Ok n) = 0
decision_second (Err w) = w.b

-- what these mean at node n
unfoldable pub decided : List Name → Tab → ℕ → ℕ → ℕ → ℕ → ℕ → Checked
decided ws t c n number a b = test eqb c 0 then ok (denote t number) else refused (refusal c n (pieces ws t c a b))

-- at node n the decision says what r is, its types are numbers of the table, and its counts fit a word
pub record Decides (ws : List Name) (t : Tab) (r : Checked) (n : ℕ) (d : Decision) : Type 0 where
  pub says : r ≡ decided ws t (decision_code d) n (decision_number d) (decision_first d) (decision_second d)
  pub below : decision_code d ≡ 0 → decision_number d < t.n
  pub first : 1 ≤ types_named (decision_code d) → decision_first d < t.n
  pub second : 2 ≤ types_named (decision_code d) → decision_second d < t.n
  pub small : (decision_code d ≡ 0 → ⊥) → types_named (decision_code d) ≡ 0
      → (decision_first d < 4294967296) × (decision_second d < 4294967296)
