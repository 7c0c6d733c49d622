-- The type that a Tuple's elements share: the loop that looks for it, and what its number means.
use mathlib.Core.Path.{◌≡◌, refl, sym, ap, ◌∙◌}
use mathlib.Core.Bool.{Bool, true, false, ◌&&◌}
use mathlib.Core.List.{List, [], ◌∷◌, map}
use Prim.Native.Nat.{ℕ, suc, ◌+◌, ◌-◌, ◌≤◌, ◌<◌}
use native.Mathlib.Omega.{arith}
use lib.Dec.{eqb}
use Rattle.std.specs.List.{list_all}
use Rattle.std.proofs.lemmas.List.{take_all}
use lib.ListN.{length, get_or, take, drop, length-drop}
use Rattle.meaning.specs.Base.{◌and◌, test◌then◌else◌, all}
use Rattle.meaning.specs.Types.{unknown, same, common}
use Rattle.types.specs.Layout.{first_in, second_in, elements_from}
use Rattle.types.specs.Table.{Tab, kind_at, first_at, second_at, elements_at, denote, Wf}
use Rattle.types.specs.Reading.{shared, CommonOf}
use Rattle.types.proofs.Room.{capacity_within}
use Rattle.types.proofs.Pieces.{piece_at, piece_long}
use Rattle.types.proofs.Readers.{means_as}
use Rattle.types.proofs.Laws.{record_kind, parts_of, unknown_number, same_number}

-- ---- the numbers, of which the first is compared with the rest

all_list : (x : ℕ) (xs : List ℕ) → list_all (eqb x) xs ≡ all (eqb x) xs
unfolding all ◌and◌
all_list x [] = refl
all_list x (y ∷ ys) = both (eqb x y) (all_list x ys)
  where
    both : (a : Bool) {b c : Bool} → b ≡ c → (a && b) ≡ (a and c)
    both true e = e
    both false e = refl

module _ (es : List ℕ) where
  pub shared_none : length es < 1 → 0 ≡ shared es
  unfolding shared
  shared_none h = by es h
    where
      by : (xs : List ℕ) → length xs < 1 → 0 ≡ shared xs
      by [] l = refl
      by (x ∷ xs) l = absurd (omega arith)

  module _ (some : 1 ≤ length es) {b : Bool} (told : b ≡ list_all (eqb (get_or es 0 0)) (take (length es - 1) (drop 1 es))) where
    by_rest : shared es ≡ (test b then get_or es 0 0 else 0)
    unfolding shared
    by_rest = by es some (told ∙ all_list (get_or es 0 0) _ ∙ ap (all (eqb (get_or es 0 0))) (take_all (length es - 1) (drop 1 es) (simp length-drop (omega arith))))
      where
        by : (xs : List ℕ) → 1 ≤ length xs → b ≡ all (eqb (get_or xs 0 0)) (drop 1 xs) → shared xs ≡ (test b then get_or xs 0 0 else 0)
        by [] l e = absurd (omega arith)
        by (x ∷ xs) l e = rw e

    pub shared_all : {r : ℕ} → b ≡ true → r ≡ get_or es 0 0 → r ≡ shared es
    unfolding test◌then◌else◌
    shared_all y e = e ∙ sym (by_rest ∙ rw y)

    pub shared_not : b ≡ false → 0 ≡ shared es
    unfolding test◌then◌else◌
    shared_not n = sym (by_rest ∙ rw n)

-- ---- what the shared number means

module _ {t : Tab} (w : Wf t) where
  all_same : (x : ℕ) → x < t.n → (xs : List ℕ) → ((j : ℕ) → j < length xs → get_or xs j 0 < t.n)
      → all (same (denote t x)) (map (denote t) xs) ≡ all (eqb x) xs
  unfolding all
  all_same x h [] l = refl
  all_same x h (y ∷ ys) l =
      rw (same_number w x y h (l 0 (omega arith)), all_same x h ys (λ j a. l (suc j) (omega arith)))

  chosen : (b : Bool) (x : ℕ) → denote t (test b then x else 0) ≡ (test b then denote t x else unknown)
  unfolding test◌then◌else◌
  chosen true x = refl
  chosen false x = unknown_number w

  pub shared_common : (xs : List ℕ) → ((j : ℕ) → j < length xs → get_or xs j 0 < t.n) → denote t (shared xs) ≡ common (map (denote t) xs)
  unfolding shared common
  shared_common [] l = unknown_number w
  shared_common (x ∷ xs) l =
      chosen (all (eqb x) xs) x ∙ rw (all_same x (l 0 (omega arith)) xs (λ j a. l (suc j) (omega arith)))

  low_choice : (b : Bool) (x : ℕ) → x < t.n → (test b then x else 0) < t.n
  unfolding test◌then◌else◌
  low_choice true x h = h
  low_choice false x h = omega (arith, w.base)

  shared_below : (xs : List ℕ) → ((j : ℕ) → j < length xs → get_or xs j 0 < t.n) → shared xs < t.n
  unfolding shared
  shared_below [] l = omega (arith, w.base)
  shared_below (x ∷ xs) l = low_choice (all (eqb x) xs) x (l 0 (omega arith))

-- ---- common_of

pub common_told : (cs : List ℕ) (i a q r : ℕ) → a ≡ elements_from cs + first_in cs i → q ≡ second_in cs i
    → r ≡ shared (take q (drop a cs)) → CommonOf cs i r
common_told cs i a q r ea eq er =
    record {
      says = λ t e w h k. means_as (own t e) (record {
        below = shared_below w (elements_at t i) (low t w h (record_kind w i h k));
        means = shared_common w (elements_at t i) (low t w h (record_kind w i h k)) ∙ ap common (sym (parts_of w i h (record_kind w i h k)));
      });
    }
  where
    own : (t : Tab) → t.cells ≡ cs → r ≡ shared (elements_at t i)
    own t e = er ∙ rw (ea, eq) (ap (λ (xs : List ℕ). shared (take (second_in xs i) (drop (elements_from xs + first_in xs i) xs))) (sym e))

    low : (t : Tab) → Wf t → i < t.n → kind_at t i ≡ 10 → (j : ℕ) → j < length (elements_at t i) → get_or (elements_at t i) j 0 < t.n
    low t w h k j a =
        let l = w.low i h in
        let b : j < second_at t i =
        omega (arith, piece_long t.cells (elements_from t.cells + first_at t i) (second_at t i) (omega (arith, l.inside k, w.space, capacity_within t.cells))) in
        omega (arith, piece_at t.cells (elements_from t.cells + first_at t i) (second_at t i) j b, l.elements k j b)
