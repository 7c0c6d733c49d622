-- The operators: their answers are few, and what they say of whole types is what T says.
use mathlib.Core.Path.{◌≡◌, refl, ap}
use mathlib.Core.Bool.{Bool, true, false, false≢true}
use mathlib.Core.Logic.{◌⊎◌, inl, inr, ⊎_elim}
use mathlib.Core.List.{List, [], ◌∷◌}
use Prim.Native.Nat.{ℕ, ◌≤◌, ◌<◌}
use native.Mathlib.Omega.{arith}
use borrow.Author.Tests.{eqb-true, eqb-false, ltb-true}
use lib.Dec.{eqb, ltb}
use Rattle.meaning.specs.Base.{◌and◌, ◌or◌, test◌then◌else◌, all, is_in}
use Rattle.meaning.specs.Types.{Ty, unknown, int, bool, float, same, kind, plain}
use Rattle.meaning.specs.Tree.{UnaryOp, not_op, negate, pos, BinaryOp, add, subtract, multiply, divide, floor_divide, modulo, equal, not_equal, less, less_equal, greater, greater_equal, and_op, or_op}
use Rattle.meaning.specs.Message.{a_type}
use Rattle.meaning.specs.Operators.{ok, when, Rows, numbers, sums, products, by_rows, instead, equated, operator_answer, unary_answer, answered}
use Rattle.meaning.proofs.Choices.{and_left, and_right, or_either, same_yes, same_no, plain_one, same_plain}

-- ---- an answer is a plain type or a code, and for == and != it may be that the whole types decide

-- an answer of an operator that is refused with code c
abbrev Says : ℕ → ℕ → Type 0
Says c x = (x < 8) ⊎ (x ≡ c)

if_says : (c : ℕ) (b : Bool) (x y : ℕ) → Says c x → Says c y → Says c (test b then x else y)
unfolding test◌then◌else◌
if_says c true x y p q = p
if_says c false x y p q = q

rows_say : (c : ℕ) (rs : Rows) (a b : ℕ) → all (λ r. ltb (kind r.2) 8) rs ≡ true → Says c (by_rows c rs a b)
unfolding by_rows all
rows_say c [] a b h = inr refl
rows_say c (r ∷ rs) a b h = if_says c _ _ _ (inl (ltb-true _ 8 (and_left _ _ h))) (rows_say c rs a b (and_right _ _ h))

instead_says : (c r x : ℕ) → r < 8 → Says c x → Says c (instead r x)
unfolding instead
instead_says c r x h s = if_says c _ _ _ (inl h) s

abbrev PlainRows : Rows → Type 0
PlainRows rs = all (λ r. ltb (kind r.2) 8) rs ≡ true

numbers_plain : PlainRows numbers
unfolding all numbers ◌and◌ kind
numbers_plain = refl

sums_plain : PlainRows sums
unfolding all sums numbers ◌and◌ kind
sums_plain = refl

products_plain : PlainRows products
unfolding all products numbers ◌and◌ kind
products_plain = refl

-- every answer: a plain type, the whole types for == and !=, or the operator's own code
pub record Range (x : ℕ) : Type 0 where
  pub says : (x ≤ 8) ⊎ ((29 ≤ x) × (x ≤ 33))

says_range : {c x : ℕ} → 29 ≤ c → c ≤ 33 → Says c x → Range x
says_range l u (inl h) = record { says = inl (omega arith) }
says_range l u (inr e) = record { says = inr (omega (arith, e)) }

if_range : (b : Bool) (x y : ℕ) → Range x → Range y → Range (test b then x else y)
unfolding test◌then◌else◌
if_range true x y p q = p
if_range false x y p q = q

low_range : (x : ℕ) → x ≤ 8 → Range x
low_range x h = record { says = inl h }

equated_range : (a b : ℕ) → Range (equated a b)
unfolding equated kind
equated_range a b =
    if_range _ _ _ (low_range 2 (omega arith))
    (if_range _ _ _ (if_range _ _ _ (low_range 2 (omega arith)) (low_range 8 (omega arith))) record { says = inr (omega arith) })

ordered_range : (a b : ℕ) → Range (instead 2 (by_rows 31 sums a b))
ordered_range a b =
    says_range {c = 31} (omega arith) (omega arith) (instead_says 31 2 _ (omega arith) (rows_say 31 sums a b sums_plain))

pub answer_range : (o : BinaryOp) (a b : ℕ) → Range (operator_answer o a b)
unfolding operator_answer kind
answer_range add a b = says_range {c = 29} (omega arith) (omega arith) (rows_say 29 sums a b sums_plain)
answer_range subtract a b = says_range {c = 33} (omega arith) (omega arith) (rows_say 33 numbers a b numbers_plain)
answer_range multiply a b = says_range {c = 30} (omega arith) (omega arith) (rows_say 30 products a b products_plain)
answer_range divide a b =
    says_range {c = 33} (omega arith) (omega arith) (instead_says 33 4 _ (omega arith) (rows_say 33 numbers a b numbers_plain))
answer_range floor_divide a b = says_range {c = 33} (omega arith) (omega arith) (rows_say 33 numbers a b numbers_plain)
answer_range modulo a b = says_range {c = 33} (omega arith) (omega arith) (rows_say 33 numbers a b numbers_plain)
answer_range equal a b = equated_range a b
answer_range not_equal a b = equated_range a b
answer_range less a b = ordered_range a b
answer_range less_equal a b = ordered_range a b
answer_range greater a b = ordered_range a b
answer_range greater_equal a b = ordered_range a b
answer_range and_op a b = low_range 2 (omega arith)
answer_range or_op a b = low_range 2 (omega arith)

-- not, - and +: a plain type, 34 or 35
pub record UnaryRange (x : ℕ) : Type 0 where
  pub says : (x < 8) ⊎ ((34 ≤ x) × (x ≤ 35))

low_in : (k : ℕ) (xs : List ℕ) → all (λ x. ltb x 8) xs ≡ true → is_in k xs ≡ true → k < 8
unfolding all is_in
low_in k [] h e = absurd (false≢true e)
low_in k (x ∷ xs) h e =
    ⊎_elim (λ q. omega (arith, eqb-true k x q, ltb-true x 8 (and_left _ _ h))) (λ q. low_in k xs (and_right _ _ h) q) (or_either _ _ e)

if_unary : (b : Bool) (x c : ℕ) → (b ≡ true → x < 8) → 34 ≤ c → c ≤ 35 → UnaryRange (test b then x else c)
unfolding test◌then◌else◌
if_unary true x c h l u = record { says = inl (h refl) }
if_unary false x c h l u = record { says = inr (l, u) }

pub unary_range : (o : UnaryOp) (k : ℕ) → UnaryRange (unary_answer o k)
unfolding unary_answer kind all ◌and◌
unary_range not_op k = if_unary _ 2 35 (λ e. omega arith) (omega arith) (omega arith)
unary_range negate k = if_unary _ k 34 (low_in k (1 ∷ 4 ∷ 0 ∷ []) refl) (omega arith) (omega arith)
unary_range pos k = if_unary _ k 34 (low_in k (1 ∷ 4 ∷ 0 ∷ []) refl) (omega arith) (omega arith)

-- ---- == and != in T's words (expect_same_or_unknown)

unfoldable pub equal_types : Ty → Ty → Bool
equal_types a b = same a unknown or same b unknown or same a b or same a int and same b float or same a float and same b int

-- p: Unknown on a side; m, k: Int and Float; e: one kind; l: a plain one; s: the same type
equal_cases : (n : ℕ) (a b : Ty) (p q m k e l : Bool) → (e ≡ false → same a b ≡ false) → (e ≡ true → l ≡ true → same a b ≡ true)
    → answered n a b (test p or q or m or k then 2 else test e then (test l then 2 else 8) else 32)
    ≡ when (p or q or same a b or m or k) bool 32 n (a_type a ∷ a_type b ∷ [])
unfolding answered when test◌then◌else◌ ◌or◌ plain
equal_cases n a b true q m k e l f g = refl
equal_cases n a b false true m k e l f g = refl
equal_cases n a b false false true k e l f g = or_cases (same a b)
  where
    or_cases : (s : Bool) → ok bool ≡ when (s or true or k) bool 32 n (a_type a ∷ a_type b ∷ [])
    or_cases true = refl
    or_cases false = refl
equal_cases n a b false false false true e l f g = or_cases (same a b)
  where
    or_cases : (s : Bool) → ok bool ≡ when (s or false or true) bool 32 n (a_type a ∷ a_type b ∷ [])
    or_cases true = refl
    or_cases false = refl
equal_cases n a b false false false false true true f g = rw (g refl refl)
equal_cases n a b false false false false true false f g = or_cases (same a b)
  where
    or_cases : (s : Bool) → when s bool 32 n (a_type a ∷ a_type b ∷ []) ≡ when (s or false or false) bool 32 n (a_type a ∷ a_type b ∷ [])
    or_cases true = refl
    or_cases false = refl
equal_cases n a b false false false false false l f g = rw (f refl)

pub equal_says : (n : ℕ) (a b : Ty) → answered n a b (equated (kind a) (kind b)) ≡ when (equal_types a b) bool 32 n (a_type a ∷ a_type b ∷ [])
unfolding equated equal_types kind
equal_says n a b =
    rw (same_plain a unknown (omega arith), same_plain b unknown (omega arith), same_plain a int (omega arith), same_plain b float (omega arith), same_plain a float (omega arith), same_plain b int (omega arith))
    (equal_cases n a b _ _ _ _ (eqb (kind a) (kind b)) (ltb (kind a) 8) differ agree)
  where
    differ : eqb (kind a) (kind b) ≡ false → same a b ≡ false
    differ h = same_no a b (λ e. eqb-false _ _ h (ap kind e))

    agree : eqb (kind a) (kind b) ≡ true → ltb (kind a) 8 ≡ true → same a b ≡ true
    agree h l = same_yes a b (plain_one a b (eqb-true _ _ h) (ltb-true _ 8 l))
