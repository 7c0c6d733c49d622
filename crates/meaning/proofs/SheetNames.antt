-- The limits of a check's own sheet: the names of a sound image, whichever of them a frame holds, obey the rules for texts;
-- the types follow from the sizes of the table that the check fills.
use mathlib.Core.Path.{◌≡◌, refl, ◌∙◌}
use mathlib.Core.Bool.{true, false≢true}
use mathlib.Core.Logic.{◌⊎◌, inl, inr, ⊎_elim}
use mathlib.Core.Option.{none, some}
use mathlib.Core.List.{List, [], ◌∷◌, map, Memᴰ}
use Prim.Native.Nat.{ℕ, suc, ◌+◌, ◌≤◌, ◌<◌}
use native.Mathlib.Omega.{arith}
use native.Mathlib.Decide.{ℕ_discrete}
use borrow.Author.Tests.{le-leb, eqb-true, eq-eqb, ne_eqb, ltb-true, lt-ltb}
use lib.ListN.{length, take, drop, length-map}
use Rattle.meaning.specs.Base.{test◌then◌else◌, if_some, before}
use Rattle.meaning.specs.Types.{Ty, parts}
use Rattle.meaning.specs.Limits.{most_names, most_types, most_elements}
use Rattle.meaning.specs.Image.{NameRecord, Name, name_from, text_stands, wrong_name, name_count, name_record, name_records, broken_name, names_of, texts_of}
use Rattle.meaning.proofs.Faults.{Sound, sizes}
use Rattle.meaning.specs.Frames.{Frame}
use Rattle.meaning.specs.Sheet.{types_of, elements_of, texts_stand, within_limits, entries}
use Rattle.meaning.proofs.Choices.{and_left, and_right, both, if_none, records_many}
use Rattle.meaning.proofs.SheetTypes.{Known}
use Rattle.meaning.proofs.SheetRoom.{sheet_room}

-- ---- the order of texts

before_cons : (x y : ℕ) (xs ys : List ℕ) → before (x ∷ xs) (y ∷ ys) ≡ true → (x < y) ⊎ ((x ≡ y) × (before xs ys ≡ true))
unfolding before test◌then◌else◌
before_cons x y xs ys h = elim (ℕ_discrete x y) [
  | yes p ↦ inr (p, rw (eq-eqb x y p) at h)
  | no q ↦ inl (ltb-true x y (rw (ne_eqb x y q) at h))
]

cons_before : (x y : ℕ) (xs ys : List ℕ) → (x < y) ⊎ ((x ≡ y) × (before xs ys ≡ true)) → before (x ∷ xs) (y ∷ ys) ≡ true
unfolding before test◌then◌else◌
cons_before x y xs ys (inl h) = rw (ne_eqb x y (λ e. omega arith), lt-ltb x y h)
cons_before x y xs ys (inr h) = rw (eq-eqb x y h.0) h.1

pub before_trans : (a b c : List ℕ) → before a b ≡ true → before b c ≡ true → before a c ≡ true
unfolding before
before_trans a b [] h k = absurd (false≢true k)
before_trans [] b (z ∷ zs) h k = refl
before_trans (x ∷ xs) [] (z ∷ zs) h k = absurd (false≢true h)
before_trans (x ∷ xs) (y ∷ ys) (z ∷ zs) h k =
    cons_before x z xs zs
    (both_steps (before_cons x y xs ys h) (before_cons y z ys zs k) (λ p q. before_trans xs ys zs p q))
  where
    both_steps : (x < y) ⊎ ((x ≡ y) × (before xs ys ≡ true)) → (y < z) ⊎ ((y ≡ z) × (before ys zs ≡ true))
        → (before xs ys ≡ true → before ys zs ≡ true → before xs zs ≡ true) → (x < z) ⊎ ((x ≡ z) × (before xs zs ≡ true))
    both_steps (inl h) (inl k) f = inl (omega arith)
    both_steps (inl h) (inr k) f = inl (omega (arith, k.0))
    both_steps (inr h) (inl k) f = inl (omega (arith, h.0))
    both_steps (inr h) (inr k) f = inr (h.0 ∙ k.0, f h.1 k.1)

-- ---- the names of an image without fault 4

abbrev Stand : List ℕ → List Name → Type 0
Stand last [] = Unit {0}
Stand last (w ∷ ws) = (text_stands last w.spelling ≡ true) × Stand w.spelling ws

names_stand : (texts : List ℕ) (i from : ℕ) (last : List ℕ) (rs : List NameRecord) → wrong_name texts i from last rs ≡ none → Stand last (map (name_from texts) rs)
unfolding wrong_name name_from
names_stand texts i from last [] h = tt
names_stand texts i from last (r ∷ rs) h =
    let t = if_none _ _ _ h in
    let e : r.start ≡ from = eqb-true _ _ (and_left _ _ (and_left _ _ (and_left _ _ t.0))) in
    rw e (and_right _ _ (and_left _ _ t.0), names_stand texts (suc i) (from + r.size) (take r.size (drop from texts)) rs t.1)

-- ---- any of them, in their order

module _ (prev last : List ℕ) (near : (prev ≡ last) ⊎ (before prev last ≡ true)) where
  before_still : (s : List ℕ) → before last s ≡ true → before prev s ≡ true
  before_still s h = ⊎_elim (λ e. rw e h) (λ k. before_trans prev last s k h) near

  stands_still : (s : List ℕ) → text_stands last s ≡ true → text_stands prev s ≡ true
  unfolding text_stands
  stands_still s h = both _ _ (and_left _ _ h) (before_still s (and_right _ _ h))

some_stand : (prev last : List ℕ) (ws : List Name) (f : Frame) → (prev ≡ last) ⊎ (before prev last ≡ true) → Stand last ws → texts_stand prev (entries ws f) ≡ true
unfolding entries texts_stand text_stands if_some
some_stand prev last [] f n s = refl
some_stand prev last (w ∷ ws) [] n s = refl
some_stand prev last (w ∷ ws) (none ∷ f) n s =
    some_stand prev w.spelling ws f (inr (before_still prev last n w.spelling (and_right _ _ s.0))) s.1
some_stand prev last (w ∷ ws) (some t ∷ f) n s =
    both _ _ (stands_still prev last n w.spelling s.0) (some_stand w.spelling w.spelling ws f (inl refl) s.1)

some_many : (ws : List Name) (f : Frame) → length (entries ws f) ≤ length ws
unfolding entries if_some
some_many [] f = omega arith
some_many (w ∷ ws) [] = omega arith
some_many (w ∷ ws) (none ∷ f) = omega (arith, some_many ws f)
some_many (w ∷ ws) (some t ∷ f) = omega (arith, some_many ws f)

-- ---- an image without fault

module _ (bs : List ℕ) (image : Sound bs) (f : Frame) where
  pub names_many : length (entries (names_of bs) f) ≤ most_names
  unfolding names_of name_records
  names_many =
      omega (
        arith,
        (sizes image.headed).names,
        some_many (names_of bs) f,
        length-map (name_records bs) (name_from (texts_of bs)),
        records_many name_record 20 (name_count bs) (drop 32 bs),
      )

  pub texts_stand_lem : texts_stand [] (entries (names_of bs) f) ≡ true
  unfolding names_of broken_name
  texts_stand_lem = some_stand [] [] (names_of bs) f (inl refl) (names_stand (texts_of bs) 0 0 [] (name_records bs) image.names)

  -- a table vs that holds the types of the frame's names and, with each type, its structured parts
  pub check_limits : (vs : List Ty) → Known vs (map (λ e. e.1) (entries (names_of bs) f)) → ((t : Ty) → Memᴰ t vs → Known vs (parts t))
      → length vs ≤ most_types → length (elements_of vs) ≤ most_elements → within_limits (entries (names_of bs) f) ≡ true
  unfolding within_limits
  check_limits vs k c m n =
      let es = entries (names_of bs) f in
      let r = sheet_room es vs k c in
      both _ _ (both _ _ (both _ _ texts_stand_lem (le-leb (length es) most_names names_many)) (le-leb (length (types_of es [])) most_types (omega arith)))
      (le-leb (length (elements_of (types_of es []))) most_elements (omega arith))
