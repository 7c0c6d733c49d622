-- What callers' proofs cite: what a number means by its record, that equal numbers are equal types, and that a grown table keeps both.
use mathlib.Core.Path.{◌≡◌, refl, sym, ap, ◌∙◌}
use mathlib.Core.Bool.{Bool, true, false}
use mathlib.Core.List.{map}
use Prim.Native.Nat.{ℕ, ◌+◌, ◌<◌}
use native.Mathlib.Omega.{arith}
use native.Mathlib.Decide.{dec_lt, ℕ_discrete}
use borrow.Author.Tests.{eqb-true, eqb-false}
use lib.Dec.{eqb}
use lib.ListN.{length, get_or, length-map, get_or-map}
use Rattle.meaning.specs.Base.{choose, test◌then◌else◌}
use Rattle.meaning.specs.Types.{unknown, list, dict, tuple, map_iter, filter_iter, tys, same, kind, plain, parts, part}
use Rattle.meaning.proofs.Choices.{same_yes, same_no, plain_kind}
use Rattle.types.specs.Layout.{elements_from}
use Rattle.types.specs.Table.{Tab, kind_at, first_at, second_at, elements_at, shaped, shape, denote, Means, Wf, Grown}
use Rattle.types.proofs.Room.{capacity_within}
use Rattle.types.proofs.Shapes.{shaped_kind, shaped_first, shaped_second}
use Rattle.types.proofs.Pieces.{piece_long, piece_at, tuple_parts}
use Rattle.types.proofs.Rows.{Sound, denote_sound}

pub wf_sound : {t : Tab} → Wf t → Sound t
wf_sound w = record { space = w.space; low = w.low }

-- ---- what a number means by its record

module _ {t : Tab} (w : Wf t) (i : ℕ) (h : i < t.n) where
  -- THE equation
  pub denote_eq : denote t i ≡ shape t (denote t) i
  denote_eq = denote_sound t (wf_sound w) i h

  pub kind_of : kind (denote t i) ≡ kind_at t i
  unfolding shape
  kind_of = ap kind denote_eq ∙ shaped_kind _ _ _ (kind_at t i) (w.low i h).known

  pub record_kind : {k : ℕ} → kind (denote t i) ≡ k → kind_at t i ≡ k
  record_kind e = sym kind_of ∙ e

  pub list_is : kind_at t i ≡ 8 → denote t i ≡ list (denote t (first_at t i))
  unfolding shape shaped choose test◌then◌else◌
  list_is e = rw e at denote_eq

  pub dict_is : kind_at t i ≡ 9 → denote t i ≡ dict (denote t (first_at t i)) (denote t (second_at t i))
  unfolding shape shaped choose test◌then◌else◌
  dict_is e = rw e at denote_eq

  pub tuple_is : kind_at t i ≡ 10 → denote t i ≡ tuple (tys (map (denote t) (elements_at t i)))
  unfolding shape shaped choose test◌then◌else◌
  tuple_is e = rw e at denote_eq

  pub map_is : kind_at t i ≡ 11 → denote t i ≡ map_iter (denote t (first_at t i))
  unfolding shape shaped choose test◌then◌else◌
  map_is e = rw e at denote_eq

  pub filter_is : kind_at t i ≡ 12 → denote t i ≡ filter_iter (denote t (first_at t i))
  unfolding shape shaped choose test◌then◌else◌
  filter_is e = rw e at denote_eq

  -- a Tuple's elements
  pub parts_of : kind_at t i ≡ 10 → parts (denote t i) ≡ map (denote t) (elements_at t i)
  parts_of e = ap parts (tuple_is e) ∙ tuple_parts _

  pub parts_many : kind_at t i ≡ 10 → length (parts (denote t i)) ≡ second_at t i
  parts_many e =
      ap length (parts_of e) ∙ length-map (elements_at t i) (denote t)
      ∙ piece_long t.cells (elements_from t.cells + first_at t i) (second_at t i) (omega (arith, (w.low i h).inside e, w.space, capacity_within t.cells))

-- ---- the plain types are their own numbers

pub plain_number : {t : Tab} → Wf t → (i : ℕ) → i < 8 → denote t i ≡ plain i
plain_number {t} w i h =
    let k : kind (denote t i) ≡ i = kind_of w i (omega (arith, w.base)) ∙ w.plains i h in
    sym (plain_kind (denote t i) (omega arith)) ∙ ap plain k

pub unknown_number : {t : Tab} → Wf t → denote t 0 ≡ unknown
unfolding plain
unknown_number w = plain_number w 0 (omega arith)

-- ---- parts, whatever the kind but Tuple: what is not there is Unknown, number 0, as in `part`

module _ {t : Tab} (w : Wf t) (i : ℕ) (h : i < t.n) where
  first_below : (kind_at t i ≡ 10 → ⊥) → first_at t i < t.n
  first_below n = elim (dec_lt (kind_at t i) 8) [
    | yes a ↦ omega (arith, (w.low i h).none a, w.base)
    | no a ↦ omega (arith, (w.low i h).first (omega arith) n)
  ]

  second_below : (kind_at t i ≡ 10 → ⊥) → second_at t i < t.n
  second_below n = elim (ℕ_discrete (kind_at t i) 9) [
    | yes a ↦ omega (arith, (w.low i h).second a)
    | no a ↦ omega (arith, (w.low i h).unused a n, w.base)
  ]

  pub first_part : (kind_at t i ≡ 10 → ⊥) → Means t (first_at t i) (part 0 (denote t i))
  unfolding shape
  first_part n = record {
    below = first_below n;
    means =
        sym (shaped_first _ _ _ (kind_at t i) (w.low i h).known n (λ e. ap (denote t) ((w.low i h).none e) ∙ unknown_number w))
        ∙ ap (part 0) (sym (denote_eq w i h));
  }

  pub second_part : (kind_at t i ≡ 10 → ⊥) → Means t (second_at t i) (part 1 (denote t i))
  unfolding shape
  second_part n = record {
    below = second_below n;
    means =
        sym (shaped_second _ _ _ (kind_at t i) (w.low i h).known n (λ e. ap (denote t) ((w.low i h).unused e n) ∙ unknown_number w))
        ∙ ap (part 1) (sym (denote_eq w i h));
  }

  -- a Tuple's element j
  pub element_part : (j : ℕ) → kind_at t i ≡ 10 → j < second_at t i → Means t (get_or t.cells (elements_from t.cells + first_at t i + j) 0) (part j (denote t i))
  unfolding part
  element_part j k l = record {
    below = omega (arith, (w.low i h).elements k j l);
    means =
        rw (parts_of w i h k)
        (ap (denote t) (sym (piece_at t.cells (elements_from t.cells + first_at t i) (second_at t i) j l))
        ∙ sym (get_or-map (denote t) (elements_at t i) j 0)
        ∙ ap (get_or (map (denote t) (elements_at t i)) j) (unknown_number w));
  }

-- ---- equal numbers are equal types: every comparison of types is one of numbers

pub same_number : {t : Tab} → Wf t → (i j : ℕ) → i < t.n → j < t.n → same (denote t i) (denote t j) ≡ eqb i j
same_number {t} w i j a b = by (eqb i j) refl
  where
    by : (q : Bool) → eqb i j ≡ q → same (denote t i) (denote t j) ≡ q
    by true e = same_yes _ _ (ap (denote t) (eqb-true i j e))
    by false e = same_no _ _ (λ z. eqb-false i j e (w.inj i j a b z))

pub same_unknown : {t : Tab} → Wf t → (i : ℕ) → i < t.n → same (denote t i) unknown ≡ eqb i 0
same_unknown {t} w i a = ap (same (denote t i)) (sym (unknown_number w)) ∙ same_number w i 0 a (omega (arith, w.base))

-- ---- growth

pub grown_refl : {t : Tab} → Wf t → Grown t t
grown_refl w = record {
  wf = w;
  long = refl;
  as_wide = refl;
  more = omega arith;
  wider = omega arith;
  same = λ i h. refl;
  records = λ x h. refl;
  elements = λ j h. refl;
}

pub grown_trans : {t u v : Tab} → Grown t u → Grown u v → Grown t v
grown_trans a b = record {
  wf = b.wf;
  long = b.long ∙ a.long;
  as_wide = b.as_wide ∙ a.as_wide;
  more = omega (arith, a.more, b.more);
  wider = omega (arith, a.wider, b.wider);
  same = λ i h. b.same i (omega (arith, a.more)) ∙ a.same i h;
  records = λ x h. b.records x (omega (arith, a.more)) ∙ a.records x h;
  elements = λ j h. b.elements j (omega (arith, a.wider)) ∙ a.elements j h;
}
