-- A turn of each search: what is left answers what all answer. Assumes nothing.
use mathlib.Core.Path.{◌≡◌, sym, ap, ◌∙◌}
use mathlib.Core.Bool.{Bool, true, false}
use mathlib.Core.Option.{none, some}
use mathlib.Core.List.{List, [], ◌∷◌}
use Prim.Native.Nat.{ℕ, zero, suc, ◌+◌, ◌-◌, ◌<◌, ◌≤◌}
use native.Mathlib.Nat.{add-sub_cancel_left, not-suc-le-zero, le_of_suc-le-suc}
use native.Mathlib.Numerals.{add-one}
use native.Mathlib.Omega.{arith}
use lib.ListN.{length, get_or, take, drop, length-take, length-drop, drop_of_length-le}
use lib.Seq.{drop-cons}
use borrow.Author.Tests.{eq-eqb, ne_eqb, eqb-true, leb-true}
use lib.Dec.{eqb}
use Rattle.meaning.specs.Base.{test◌then◌else◌}
use Rattle.meaning.specs.Image.{NameRecord, first_not, wrong_name, text_stands, is_tree_set}
use Rattle.meaning.specs.Image.{Node as ImageNode}
use Rattle.meaning.proofs.Choices.{and_left, and_right, if_none}
use Rattle.image.specs.declared.Node.{Node}
use Rattle.image.specs.Parts.{no_record, record_of, name_stands, node_means}

-- ---- the first that fails a test

module _ {A : Type 0} (f : ℕ → A → Bool) (xs : List A) (i : ℕ) where
  pub first_end : length xs ≤ i → first_not f i (drop i xs) ≡ none
  unfolding first_not
  first_end h = rw (drop_of_length-le xs h)

  pub first_fails : (d : A) → i < length xs → f i (get_or xs i d) ≡ false → first_not f i (drop i xs) ≡ some i
  unfolding first_not test◌then◌else◌
  first_fails d h e = rw (drop-cons xs i d h, e)

  pub first_next : (d : A) → i < length xs → f i (get_or xs i d) ≡ true → first_not f i (drop i xs) ≡ first_not f (i + 1) (drop (i + 1) xs)
  unfolding first_not test◌then◌else◌
  first_next d h e = rw (drop-cons xs i d h, e, add-one)

-- ---- whether a node that was read is a TreeSet

module _ (x : ImageNode) (d : Node) (e : node_means d ≡ x) where
  tree_set_is : is_tree_set x ≡ eqb d.kind 30
  unfolding is_tree_set
  tree_set_is = ap (λ (y : ImageNode). eqb y.kind 30) (sym e)

  pub is_tree_set_lem : d.kind ≡ 30 → is_tree_set x ≡ true
  is_tree_set_lem k = tree_set_is ∙ eq-eqb d.kind 30 k

  pub not_tree_set : (d.kind ≡ 30 → ⊥) → is_tree_set x ≡ false
  not_tree_set k = tree_set_is ∙ ne_eqb d.kind 30 k

-- ---- the first name record that breaks its rules

module _ (texts : List ℕ) (rs : List NameRecord) (i from : ℕ) (last : List ℕ) where
  pub wrong_short : length rs ≤ i → (from ≡ length texts → ⊥) → wrong_name texts i from last (drop i rs) ≡ some i
  unfolding wrong_name test◌then◌else◌
  wrong_short h e = rw (drop_of_length-le rs h, ne_eqb from _ e)

  pub wrong_end : length rs ≤ i → from ≡ length texts → wrong_name texts i from last (drop i rs) ≡ none
  unfolding wrong_name test◌then◌else◌
  wrong_end h e = rw (drop_of_length-le rs h, eq-eqb from _ e)

  pub wrong_here : i < length rs → name_stands texts from last (record_of rs i) ≡ false → wrong_name texts i from last (drop i rs) ≡ some i
  unfolding wrong_name test◌then◌else◌ name_stands record_of
  wrong_here h e = rw (drop-cons rs i no_record h, e)

  -- the text that was looked at is the last one now: it stands between the old place and the new
  pub wrong_next : i < length rs → name_stands texts from last (record_of rs i) ≡ true
      → wrong_name texts i from last (drop i rs)
      ≡ wrong_name texts (i + 1) (from + (record_of rs i).size) (take (from + (record_of rs i).size - from) (drop from texts)) (drop (i + 1) rs)
  unfolding wrong_name test◌then◌else◌ name_stands record_of
  wrong_next h e = rw (drop-cons rs i no_record h, e, add-one, add-sub_cancel_left)

-- a text that stands lies within the area
pub name_fits : (texts : List ℕ) (from : ℕ) (last : List ℕ) (r : NameRecord) → name_stands texts from last r ≡ true
    → (r.start ≡ from) × (from + r.size ≤ length texts)
unfolding name_stands text_stands
name_fits texts from last r e =
    let s = take r.size (drop from texts) in
    let front = and_left _ _ (and_left _ _ e) in
    let whole : length s ≡ r.size = eqb-true _ _ (and_right _ _ front) in
    let some : 1 ≤ length s = leb-true 1 _ (and_left _ _ (and_left _ _ (and_left _ _ (and_right _ _ (and_left _ _ e))))) in
    (eqb-true _ _ (and_left _ _ front), omega (arith, simp (length-take, length-drop) at whole))

pub names_fit : (texts : List ℕ) (i from : ℕ) (last : List ℕ) (rs : List NameRecord) → wrong_name texts i from last rs ≡ none
    → (k : ℕ) → k < length rs → (record_of rs k).start + (record_of rs k).size ≤ length texts
unfolding wrong_name name_stands record_of
names_fit texts i from last [] e k h = absurd (not-suc-le-zero h)
names_fit texts i from last (r ∷ rs) e zero h = let f = name_fits texts from last r (if_none _ _ _ e).0 in omega arith
names_fit texts i from last (r ∷ rs) e (suc k) h =
    names_fit texts (suc i) (from + r.size) (take r.size (drop from texts)) rs (if_none _ _ _ e).1 k (le_of_suc-le-suc h)
