-- What each code says: its format string, how many types it names, and what is put in at the gaps.
use mathlib.Core.Path.{◌≡◌, refl}
use mathlib.Core.Bool.{Bool, true}
use mathlib.Core.Logic.{◌⊎◌, inl, inr}
use mathlib.Core.List.{List, [], ◌∷◌}
use Prim.Native.Nat.{ℕ, ◌≤◌}
use Prim.Native.String.{String}
use native.Mathlib.Decide.{ℕ_discrete}
use native.Mathlib.Omega.{arith}
use borrow.Author.Tests.{eqb-true, eq-eqb, ne_eqb, leb-true}
use lib.Dec.{eqb, leb}
use lib.ListN.{length, take}
use Rattle.meaning.specs.Base.{◌and◌, ◌or◌, test◌then◌else◌, all, is_in, choose, bytes, decimal}
use Rattle.meaning.specs.Image.{names_of, name_of}
use Rattle.meaning.specs.Message.{a_type, a_text, a_number, template, said, message}
use Rattle.meaning.specs.Rules.{described}
use Rattle.meaning.specs.Types.{text}
use Rattle.meaning.proofs.Choices.{and_left, and_right}
use Rattle.words.specs.Words.{put_at}
use Rattle.words.proofs.Laws.{put_part}
use Rattle.codes.specs.declared.Code.{Code}
use Rattle.codes.specs.declared.Code.TheVariants.{Break, Continue, InconsistentReturn, NotIterable, CannotAssign, UnpackNonIterable, InvalidTarget, Plus, Times, Compare, Equality, NumericPair, IntOrFloat, ExpectedBool, Condition, Input, Len, Range, MapFirst, MapSecond, FilterFirst, FilterSecond, ListIndex, DictKey, TupleIndex, StringIndex, NotSubscriptable}
use Rattle.codes.specs.Codes.{code_number}
use Rattle.types.specs.Table.{Tab, denote}
use Rattle.rules.specs.Outcome.{types_named, taken, pieces}
use Rattle.message.specs.Pieces.{gaps}
use Rattle.message.specs.Told.{format_of}
use Rattle.message.proofs.Telling.{Form}

-- ---- a format string in a buffer

choose_all : (k : ℕ) (f : String → Bool) (rs : List (ℕ × String)) → f "" ≡ true → all (λ r. f r.1) rs ≡ true → f (choose k "" rs) ≡ true
unfolding choose all test◌then◌else◌
choose_all k f [] z h = z
choose_all k f (r ∷ rs) z h = elim (ℕ_discrete k r.0) [
  | yes e ↦ rw (eq-eqb k r.0 e) (and_left _ _ h)
  | no e ↦ rw (ne_eqb k r.0 e) (choose_all k f rs z (and_right _ _ h))
]

pub format_short : (code : ℕ) → length (format_of code) ≤ 70
unfolding template all ◌and◌ bytes
format_short code = leb-true _ 70 (choose_all code (λ s. leb (length (bytes s)) 70) _ refl refl)

-- what is read back is the format string
pub format_read : {e : List ℕ} {n : ℕ} (d : List ℕ) (code : ℕ) → (e ≡ put_at d 0 (format_of code)) × (n ≡ length (format_of code)) → take n e ≡ format_of code
format_read d code w = rw (w.0, w.1) (put_part d 0 (format_of code) (omega arith))

-- ---- how many types a code names: as many as its format string has gaps

pub record Names (n c : ℕ) : Type 0 where
  pub types : types_named c ≡ n
  pub many : gaps (format_of c) ≡ n

unfoldable names : ℕ → Code → Bool
names n c = eqb (types_named (code_number c)) n and eqb (gaps (format_of (code_number c))) n

names_so : (n : ℕ) (c : Code) → names n c ≡ true → Names n (code_number c)
unfolding names
names_so n c h = record { types = eqb-true _ n (and_left _ _ h); many = eqb-true _ n (and_right _ _ h) }

-- c is one of them, as an arm of a match tells it
abbrev pub OneOf : List Code → Code → Type 0
OneOf [] c = ⊥
OneOf (k ∷ []) c = c ≡ k
OneOf (k ∷ l ∷ ks) c = (c ≡ k) ⊎ OneOf (l ∷ ks) c

names_among : (n : ℕ) (k : Code) (ks : List Code) (c : Code) → all (names n) (k ∷ ks) ≡ true → OneOf (k ∷ ks) c → Names n (code_number c)
unfolding all
names_among n k [] c h o = rw o (names_so n k (and_left _ _ h))
names_among n k (l ∷ ks) c h (inl e) = rw e (names_so n k (and_left _ _ h))
names_among n k (l ∷ ks) c h (inr o) = names_among n l ks c (and_right _ _ h) o

module _ {c : Code} where
  pub names_one : OneOf (NotIterable ∷ UnpackNonIterable ∷ IntOrFloat ∷ ExpectedBool ∷ Input ∷ Len ∷ Range ∷ MapFirst ∷ MapSecond ∷ FilterFirst ∷ FilterSecond ∷ ListIndex
      ∷ TupleIndex ∷ StringIndex ∷ NotSubscriptable ∷ []) c → Names 1 (code_number c)
  unfolding names types_named is_in ◌or◌ ◌and◌ test◌then◌else◌ gaps template choose bytes all
  names_one o =
      names_among 1 NotIterable
      (UnpackNonIterable ∷ IntOrFloat ∷ ExpectedBool ∷ Input ∷ Len ∷ Range ∷ MapFirst ∷ MapSecond ∷ FilterFirst ∷ FilterSecond ∷ ListIndex
      ∷ TupleIndex ∷ StringIndex ∷ NotSubscriptable ∷ [])
      c refl o

  pub names_two : OneOf (InconsistentReturn ∷ CannotAssign ∷ Plus ∷ Times ∷ Compare ∷ Equality ∷ NumericPair ∷ DictKey ∷ []) c → Names 2 (code_number c)
  unfolding names types_named is_in ◌or◌ ◌and◌ test◌then◌else◌ gaps template choose bytes all
  names_two o = names_among 2 InconsistentReturn (CannotAssign ∷ Plus ∷ Times ∷ Compare ∷ Equality ∷ NumericPair ∷ DictKey ∷ []) c refl o

-- ---- what is put in

module _ (bs : List ℕ) (t : Tab) (a b : ℕ) where
  pub says_one : {c : ℕ} → Names 1 c → Form bs t c a b (text (denote t a) ∷ [])
  unfolding message pieces choose test◌then◌else◌ said
  says_one n = record { names = a_type (denote t a) ∷ []; says = rw n.types; many = n.many; texts = refl }

  pub says_two : {c : ℕ} → Names 2 c → Form bs t c a b (text (denote t a) ∷ text (denote t b) ∷ [])
  unfolding message pieces choose test◌then◌else◌ said
  says_two n = record { names = a_type (denote t a) ∷ a_type (denote t b) ∷ []; says = rw n.types; many = n.many; texts = refl }

  pub says_none : {c : Code} → OneOf (Break ∷ Continue ∷ InvalidTarget ∷ Condition ∷ []) c → Form bs t (code_number c) a b []
  unfolding message template choose test◌then◌else◌ pieces types_named is_in ◌or◌ gaps bytes said
  says_none (inl e) = rw e (record { names = []; says = refl; many = refl; texts = refl })
  says_none (inr (inl e)) = rw e (record { names = []; says = refl; many = refl; texts = refl })
  says_none (inr (inr (inl e))) = rw e (record { names = []; says = refl; many = refl; texts = refl })
  says_none (inr (inr (inr e))) = rw e (record { names = []; says = refl; many = refl; texts = refl })

  pub says_23 : Form bs t 23 a b ((name_of (names_of bs) a).spelling ∷ [])
  unfolding message template choose test◌then◌else◌ pieces types_named is_in ◌or◌ gaps bytes said
  says_23 = record { names = a_text (name_of (names_of bs) a).spelling ∷ []; says = refl; many = refl; texts = refl }

  pub says_26 : Form bs t 26 a b (decimal a ∷ decimal b ∷ [])
  unfolding message template choose test◌then◌else◌ pieces types_named is_in ◌or◌ gaps bytes said
  says_26 = record { names = a_number a ∷ a_number b ∷ []; says = refl; many = refl; texts = refl }

  pub says_37 : Form bs t 37 a b ((name_of (names_of bs) a).spelling ∷ described (name_of (names_of bs) a).role ∷ decimal b ∷ [])
  unfolding message template choose test◌then◌else◌ pieces types_named is_in ◌or◌ gaps bytes said
  says_37 = record { names = a_text (name_of (names_of bs) a).spelling ∷ a_text (described (name_of (names_of bs) a).role) ∷ a_number b ∷ []; says = refl; many = refl; texts = refl }

  pub says_38 : Form bs t 38 a b ((name_of (names_of bs) a).spelling ∷ decimal (taken (name_of (names_of bs) a).role) ∷ decimal b ∷ [])
  unfolding message template choose test◌then◌else◌ pieces types_named is_in ◌or◌ gaps bytes said
  says_38 = record { names = a_text (name_of (names_of bs) a).spelling ∷ a_number (taken (name_of (names_of bs) a).role) ∷ a_number b ∷ []; says = refl; many = refl; texts = refl }
