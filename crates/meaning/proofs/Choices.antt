-- Laws of Base's choices and of `same`: how a test, a search or a comparison is used without unfolding it.
use mathlib.Core.Path.{◌≡◌, refl, ◌∙◌, ap, sym}
use mathlib.Core.Bool.{Bool, true, false, false≢true}
use mathlib.Core.Logic.{◌⊎◌, inl, inr}
use mathlib.Core.Option.{Option, none, some, none-ne-some, some-injective}
use mathlib.Core.List.{List, [], ◌∷◌, map}
use Prim.Native.Nat.{ℕ, zero, suc, ◌+◌, ◌≤◌, ◌<◌}
use native.Mathlib.Nat.{zero-add, add-zero, add-suc, suc-add, not-suc-le-zero, le_of_suc-le-suc}
use native.Mathlib.Omega.{arith}
use borrow.Author.Tests.{eqb-true, eq-eqb, ne_eqb}
use lib.Dec.{eqb}
use lib.ListN.{length, get_or, drop}
use Rattle.meaning.specs.Base.{◌and◌, ◌or◌, test◌then◌else◌, choose, same_text, count, records}
use Rattle.meaning.specs.Types.{Ty, Ty-discrete, unknown, int, bool, string, float, nonetype, range, function, list, dict, tuple, map_iter, filter_iter, same, kind, plain}
use Rattle.meaning.specs.Image.{first_not}

-- ---- numbers one after the other

pub count_long : (a n : ℕ) → length (count a n) ≡ n
unfolding count
count_long a zero = refl
count_long a (suc n) = ap suc (count_long (suc a) n)

-- what is made of each of them, read at a place
pub counted_at : {A : Type 0} (g : ℕ → A) (d : A) (i n k : ℕ) → k < n → get_or (map g (count i n)) k d ≡ g (i + k)
unfolding count
counted_at g d i zero k h = absurd (not-suc-le-zero h)
counted_at g d i (suc n) zero h = rw add-zero
counted_at g d i (suc n) (suc k) h = rw (add-suc, ← suc-add) (counted_at g d (suc i) n k (le_of_suc-le-suc h))

-- ---- and, or, if

pub and_left : (a b : Bool) → (a and b) ≡ true → a ≡ true
unfolding ◌and◌
and_left true b e = refl
and_left false b e = e

pub and_right : (a b : Bool) → (a and b) ≡ true → b ≡ true
unfolding ◌and◌
and_right true b e = e
and_right false b e = absurd (false≢true e)

pub both : (a b : Bool) → a ≡ true → b ≡ true → (a and b) ≡ true
unfolding ◌and◌
both a b p q = rw (p, q)

pub and_true : (q : Bool) → (q and true) ≡ q
unfolding ◌and◌
and_true true = refl
and_true false = refl

pub and_false : (q : Bool) → (q and false) ≡ false
unfolding ◌and◌
and_false true = refl
and_false false = refl

pub or_either : (a b : Bool) → (a or b) ≡ true → (a ≡ true) ⊎ (b ≡ true)
unfolding ◌or◌
or_either true b e = inl refl
or_either false b e = inr e

pub if_le : (q : Bool) {a b n : ℕ} → a ≤ n → b ≤ n → (test q then a else b) ≤ n
unfolding test◌then◌else◌
if_le true p q = p
if_le false p q = q

pub not_so : (b : Bool) → (b ≡ true → ⊥) → b ≡ false
not_so true h = absurd (h refl)
not_so false h = refl

-- a choice between nothing and a place
pub if_none : {A : Type 0} (b : Bool) (o : Option A) (a : A) → (test b then o else some a) ≡ none → (b ≡ true) × (o ≡ none)
unfolding test◌then◌else◌
if_none true o a e = (refl, e)
if_none false o a e = absurd (none-ne-some a (sym e))

-- a choice between something and nothing
pub if_some_lem : {A : Type 0} (b : Bool) (x y : A) → (test b then some x else none) ≡ some y → (b ≡ true) × (x ≡ y)
unfolding test◌then◌else◌
if_some_lem true x y e = (refl, some-injective x y e)
if_some_lem false x y e = absurd (none-ne-some y e)

pub if_nothing : {A : Type 0} (b : Bool) (x : A) → (test b then some x else none) ≡ none → b ≡ false
unfolding test◌then◌else◌
if_nothing true x e = absurd (none-ne-some x (sym e))
if_nothing false x e = refl

-- ---- searches and records

-- a search that finds nothing: the test holds everywhere
pub none_failing : {A : Type 0} (f : ℕ → A → Bool) (i : ℕ) (xs : List A) (d : A) → first_not f i xs ≡ none
    → (k : ℕ) → k < length xs → f (i + k) (get_or xs k d) ≡ true
unfolding first_not
none_failing f i [] d e k h = absurd (not-suc-le-zero h)
none_failing f i (x ∷ xs) d e zero h = rw add-zero (if_none _ _ _ e).0
none_failing f i (x ∷ xs) d e (suc k) h =
    rw (add-suc, ← suc-add) (none_failing f (suc i) xs d (if_none _ _ _ e).1 k (le_of_suc-le-suc h))

pub all_pass : {A : Type 0} (f : ℕ → A → Bool) (xs : List A) (d : A) → first_not f 0 xs ≡ none → (k : ℕ) → k < length xs → f k (get_or xs k d) ≡ true
all_pass f xs d e k h = rw zero-add at (none_failing f 0 xs d e k h)

pub records_many : {A : Type 0} (read : List ℕ → A) (size n : ℕ) (bs : List ℕ) → length (records read size n bs) ≡ n
unfolding records
records_many read size zero bs = refl
records_many read size (suc n) bs = ap suc (records_many read size n (drop size bs))

-- ---- texts

pub same_text_lem : (s t : List ℕ) → same_text s t ≡ true → s ≡ t
unfolding same_text
same_text_lem [] [] h = refl
same_text_lem [] (y ∷ ys) h = absurd (false≢true h)
same_text_lem (x ∷ xs) [] h = absurd (false≢true h)
same_text_lem (x ∷ xs) (y ∷ ys) h = rw (eqb-true x y (and_left _ _ h), same_text_lem xs ys (and_right _ _ h))

pub text_same : (s : List ℕ) → same_text s s ≡ true
unfolding same_text
text_same [] = refl
text_same (x ∷ xs) = both _ _ (eq-eqb x x refl) (text_same xs)

-- ---- types: `same` is equality, and a plain type is its kind

pub same_yes : (a b : Ty) → a ≡ b → same a b ≡ true
unfolding same
same_yes a b e = go (Ty-discrete a b)
  where
    go : (d : Dec (a ≡ b)) → elim d as (λ x. Bool) [ yes p ↦ true | no q ↦ false ] ≡ true
    go (yes p) = refl
    go (no q) = absurd (q e)

pub same_no : (a b : Ty) → (a ≡ b → ⊥) → same a b ≡ false
unfolding same
same_no a b n = go (Ty-discrete a b)
  where
    go : (d : Dec (a ≡ b)) → elim d as (λ x. Bool) [ yes p ↦ true | no q ↦ false ] ≡ false
    go (yes p) = absurd (n p)
    go (no q) = refl

pub plain_kind : (t : Ty) → kind t < 8 → plain (kind t) ≡ t
unfolding plain kind
plain_kind unknown h = refl
plain_kind int h = refl
plain_kind bool h = refl
plain_kind string h = refl
plain_kind float h = refl
plain_kind nonetype h = refl
plain_kind range h = refl
plain_kind function h = refl
plain_kind (list t) h = absurd (omega arith)
plain_kind (dict k v) h = absurd (omega arith)
plain_kind (tuple ts) h = absurd (omega arith)
plain_kind (map_iter t) h = absurd (omega arith)
plain_kind (filter_iter t) h = absurd (omega arith)

-- two types of one kind, if it is a plain one, are equal
pub plain_one : (a b : Ty) → kind a ≡ kind b → kind a < 8 → a ≡ b
plain_one a b e h = sym (plain_kind a h) ∙ (ap plain e ∙ plain_kind b (omega arith))

-- whether a type is some plain type is told by its kind
pub same_plain : (t p : Ty) → kind p < 8 → same t p ≡ eqb (kind t) (kind p)
same_plain t p h = elim (Ty-discrete t p) [
  | yes e ↦ same_yes t p e ∙ sym (eq-eqb (kind t) (kind p) (ap kind e))
  | no q ↦ same_no t p q ∙ sym (ne_eqb (kind t) (kind p) (λ e. q (plain_one t p e (omega arith))))
]

-- ---- a choice by a number, row by row: what each row has if its number is k, the chosen one has

unfoldable pub RowsHave : {A : Type 0} → (A → Type 0) → ℕ → List (ℕ × A) → Type 0
RowsHave Q k [] = Unit {0}
RowsHave Q k (r ∷ rs) = (k ≡ r.0 → Q r.1) × RowsHave Q k rs

if_has : {A : Type 0} (Q : A → Type 0) (b : Bool) (x y : A) → (b ≡ true → Q x) → Q y → Q (test b then x else y)
unfolding test◌then◌else◌
if_has Q true x y f h = f refl
if_has Q false x y f h = h

pub choose_has : {A : Type 0} (Q : A → Type 0) (k : ℕ) (d : A) (rs : List (ℕ × A)) → Q d → RowsHave Q k rs → Q (choose k d rs)
unfolding choose RowsHave
choose_has Q k d [] h p = h
choose_has Q k d (r ∷ rs) h p = if_has Q (eqb k r.0) _ _ (λ e. p.0 (eqb-true k r.0 e)) (choose_has Q k d rs h p.1)
