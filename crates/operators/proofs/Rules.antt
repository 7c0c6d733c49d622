-- The constants hold what the definitions say: for each of them one computation, over the whole of it.
use mathlib.Core.Path.{◌≡◌, refl, ◌∙◌, ap}
use mathlib.Core.Bool.{Bool, true, false}
use mathlib.Core.List.{List, [], ◌∷◌, map}
use Prim.Native.Nat.{ℕ, zero, suc, ◌≤◌, ◌<◌}
use native.Mathlib.Omega.{arith}
use native.Mathlib.Nat.{zero-add, not-suc-le-zero, le_of_suc-le-suc}
use lib.Dec.{ltb}
use lib.ListN.{length, get_or}
use Rattle.meaning.specs.Base.{test◌then◌else◌, count, base_open}
use Rattle.meaning.specs.Types.{types_open}
use Rattle.meaning.specs.Tree.{BinaryOp}
use Rattle.meaning.specs.Decode.{binary_of, unary_of, decode_open}
use Rattle.meaning.specs.Operators.{operator_answer, unary_answer, operators_open}
use Rattle.meaning.proofs.Choices.{counted_at}
use Rattle.operators.specs.Fold.{in_order, pairs, PlaceOf}
use Rattle.operators.proofs.Laws.{symmetric}
use Rattle.operators.proofs.Lists.{answers, unary_answers}

-- ---- tables

-- the rows that f fills, a number for each of the columns
abbrev table : {A : Type 0} → (ℕ → A → ℕ) → ℕ → List A → List (List ℕ)
table f ops columns = map (λ op. map (f op) columns) (count 0 ops)

counted : {A : Type 0} (f : ℕ → A) (d : A) (n k : ℕ) → k < n → get_or (map f (count 0 n)) k d ≡ f k
counted f d n k h = rw zero-add at (counted_at f d 0 n k h)

row_of : {A : Type 0} {t : List (List ℕ)} (f : ℕ → A → ℕ) (columns : List A) (ops op : ℕ) → t ≡ table f ops columns → op < ops
    → get_or t op [] ≡ map (f op) columns
row_of f columns ops op e h = rw e (counted (λ o. map (f o) columns) [] ops op h)

-- inside a list no default counts
mapped : {A B : Type 0} (f : A → B) (xs : List A) (d : A) (e : B) (k : ℕ) → k < length xs → get_or (map f xs) k e ≡ f (get_or xs k d)
mapped f [] d e k h = absurd (not-suc-le-zero h)
mapped f (x ∷ xs) d e zero h = refl
mapped f (x ∷ xs) d e (suc k) h = mapped f xs d e k (le_of_suc-le-suc h)

-- ---- two operands

-- an operator's answer for two kinds
answer : ℕ → ℕ × ℕ → ℕ
answer op p = operator_answer (binary_of op) p.0 p.1

all_right : answers ≡ table answer 14 (pairs 13)
unfolding answers answer pairs base_open types_open decode_open operators_open
all_right = refl

pairs_many : length (pairs 13) ≡ 91
unfolding pairs count
pairs_many = refl

-- changed round or not, two kinds have one answer: so half of the pairs do
unfolded : (o : BinaryOp) (a b : ℕ) (turn : Bool) → a < 13 → b < 13
    → let p : ℕ × ℕ = test turn then (b, a) else (a, b) in operator_answer o p.0 p.1 ≡ operator_answer o a b
unfolding test◌then◌else◌
unfolded o a b true ha hb = symmetric o b a hb ha
unfolded o a b false ha hb = refl

pub rule : {op l r at : ℕ} → (op < 14) × (l < 13) × (r < 13) → PlaceOf l r at
    → get_or (get_or answers op []) at 0 ≡ operator_answer (binary_of op) l r
unfolding answer in_order
rule {op} {l} {r} {at} h p =
    rw (row_of answer (pairs 13) 14 op all_right h.0)
    (mapped (answer op) (pairs 13) (0, 0) 0 at (rw pairs_many p.0)
    ∙ ap (answer op) p.1
    ∙ unfolded (binary_of op) l r (ltb r l) h.1 h.2)

-- ---- one operand

unary_answer_lem : ℕ → ℕ → ℕ
unary_answer_lem op k = unary_answer (unary_of op) k

all_unary_right : unary_answers ≡ table unary_answer_lem 3 (count 0 13)
unfolding unary_answers unary_answer_lem base_open types_open decode_open operators_open
all_unary_right = refl

pub unary_rule_lem : {op k : ℕ} → (op < 3) × (k < 13) → get_or (get_or unary_answers op []) k 0 ≡ unary_answer (unary_of op) k
unfolding unary_answer_lem
unary_rule_lem {op} {k} h =
    rw (row_of unary_answer_lem (count 0 13) 3 op all_unary_right h.0) (counted (unary_answer_lem op) 0 13 k h.1)
