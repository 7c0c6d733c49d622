-- What the cells of a record tell of its type.
use mathlib.Core.Path.{◌≡◌, refl, sym, ap, ◌∙◌}
use mathlib.Core.List.{List}
use Prim.Native.Nat.{ℕ, ◌+◌, ◌≤◌, ◌<◌}
use native.Mathlib.Omega.{arith}
use lib.ListN.{length, get_or}
use Rattle.meaning.specs.Types.{Ty, kind, parts, part}
use Rattle.types.specs.Layout.{kind_cell, first_cell, second_cell, kind_in, first_in, second_in, elements_from}
use Rattle.types.specs.Table.{Tab, capacity, kind_at, first_at, denote, Means, Wf}
use Rattle.types.specs.declared.Kind.{Kind}
use Rattle.types.specs.Kinds.{kind_number, Numbered}
use Rattle.types.specs.Reading.{Known, KindOf, PartOf, PartsOf, HasPart, PartAt, IsTuple, IsElement, IsNumber, ElementAt}
use Rattle.types.proofs.Parts.{plain_none, one_part, two_parts, few_parts, part_lower}
use Rattle.types.proofs.Laws.{kind_of, record_kind, parts_many, first_part, second_part, element_part}

-- ---- what a caller of a reader has to show

module _ {t : Tab} (w : Wf t) (i : ℕ) (h : i < t.n) where
  record_tuple : kind_at t i ≡ 10 → IsTuple t.cells i
  record_tuple k = record { number = omega (arith, w.room); kind_is = k; inside = omega (arith, (w.low i h).inside k, w.space) }

  -- what a reader of its record asks
  pub in_room : i < capacity t.cells
  in_room = omega (arith, w.room)

  pub is_number : IsNumber t.cells i
  is_number = record { number = in_room; whole = record_tuple }

  pub is_tuple : kind (denote t i) ≡ 10 → IsTuple t.cells i
  is_tuple e = record_tuple (record_kind w i h e)

  pub is_element : {j : ℕ} → kind (denote t i) ≡ 10 → j < length (parts (denote t i)) → IsElement t.cells i j
  is_element e l = record { whole = is_tuple e; within = omega (arith, parts_many w i h (record_kind w i h e)) }

  pub known : Known t.cells i
  known = record { table = t; cells = refl; wf = w; below = h }

  pub has_part : {j : ℕ} → j < length (parts (denote t i)) → HasPart t.cells i j
  unfolding known
  has_part l = record { known = known; within = l }

module _ {cs : List ℕ} {i : ℕ} (k : Known cs i) where
  pub known_room : i < capacity cs
  known_room = rw k.cells at (in_room k.wf i k.below)

-- ---- what the cells tell

-- the cells of a table are its cells by any name
same_cell : (t : Tab) (cs : List ℕ) (x r : ℕ) → t.cells ≡ cs → r ≡ get_or cs x 0 → r ≡ get_or t.cells x 0
same_cell t cs x r e h = h ∙ ap (λ (xs : List ℕ). get_or xs x 0) (sym e)

pub means_as : {t : Tab} {r x : ℕ} {ty : Ty} → r ≡ x → Means t x ty → Means t r ty
means_as e m = rw e m

pub kind_told : (cs : List ℕ) (i : ℕ) (k : Kind) → Numbered (kind_in cs i) k → KindOf cs i k
kind_told cs i k h = record {
  says = λ t e w b.
      let own : kind_in cs i ≡ kind_at t i = same_cell t cs (kind_cell i) (kind_in cs i) e refl in
      sym (h.known (omega (arith, (w.low i b).known))) ∙ own ∙ sym (kind_of w i b);
}

pub first_told : (cs : List ℕ) (i r : ℕ) → r ≡ first_in cs i → PartOf cs 0 i r
first_told cs i r h =
    record { says = λ t e w b n. means_as (same_cell t cs (first_cell i) r e h) (first_part w i b (λ k. n (kind_of w i b ∙ k))) }

pub second_told : (cs : List ℕ) (i r : ℕ) → r ≡ second_in cs i → PartOf cs 1 i r
second_told cs i r h =
    record { says = λ t e w b n. means_as (same_cell t cs (second_cell i) r e h) (second_part w i b (λ k. n (kind_of w i b ∙ k))) }

pub element_told : (cs : List ℕ) (i j a r : ℕ) → IsElement cs i j → a ≡ elements_from cs + first_in cs i → r ≡ get_or cs (a + j) 0
    → ElementAt cs i j r
element_told cs i j a r x ea er =
    record { says = λ t e w b k. means_as (own t e) (element_part w i b j (record_kind w i b k) (rw e x.within)) }
  where
    own : (t : Tab) → t.cells ≡ cs → r ≡ get_or t.cells (elements_from t.cells + first_at t i + j) 0
    own t e = er ∙ rw ea (ap (λ (xs : List ℕ). get_or xs (elements_from xs + first_in xs i + j) 0) (sym e))

-- ---- the parts, by the kind that was read

module _ {cs : List ℕ} {i : ℕ} {k : Kind} (told : KindOf cs i k) where
  kind_as : (t : Tab) → t.cells ≡ cs → Wf t → i < t.n → {c : ℕ} → kind_number k ≡ c → kind (denote t i) ≡ c
  kind_as t e w b h = sym (told.says t e w b) ∙ h

  kind_not : (t : Tab) → t.cells ≡ cs → Wf t → i < t.n → {c : ℕ} → (kind_number k ≡ c → ⊥) → kind (denote t i) ≡ c → ⊥
  kind_not t e w b n h = n (told.says t e w b ∙ h)

  pub many_none : kind_number k < 8 → PartsOf cs i 0
  many_none l = record { says = λ t e w b. sym (plain_none _ (omega (arith, told.says t e w b))) }

  pub many_two : kind_number k ≡ 9 → PartsOf cs i 2
  many_two h = record { says = λ t e w b. sym (two_parts _ (kind_as t e w b h)) }

  pub many_elements : {n : ℕ} → kind_number k ≡ 10 → n ≡ second_in cs i → PartsOf cs i n
  many_elements {n} h c = record {
    says = λ t e w b. same_cell t cs (second_cell i) n e c ∙ sym (parts_many w i b (record_kind w i b (kind_as t e w b h)));
  }

  pub many_one : 8 ≤ kind_number k → (kind_number k ≡ 9 → ⊥) → (kind_number k ≡ 10 → ⊥) → PartsOf cs i 1
  many_one l m n = record {
    says = λ t e w b. sym (one_part _ (omega (arith, told.says t e w b)) (kind_not t e w b m) (kind_not t e w b n));
  }

  pub element_there : {j : ℕ} → HasPart cs i j → kind_number k ≡ 10 → IsElement cs i j
  element_there h z =
      let d = h.known in
      rw d.cells at (is_element d.wf i d.below (kind_as d.table d.cells d.wf d.below z) h.within)

  part_told : {j r : ℕ} → ((t : Tab) → t.cells ≡ cs → Wf t → i < t.n → j < length (parts (denote t i)) → Means t r (part j (denote t i))) → PartAt cs i j r
  part_told s = record { says = s; lower = λ t e w b l. part_lower w i b l (s t e w b l) }

  pub part_element : {j r : ℕ} → kind_number k ≡ 10 → ElementAt cs i j r → PartAt cs i j r
  part_element z s = part_told (λ t e w b l. s.says t e w b (kind_as t e w b z))

  pub part_first : {j r : ℕ} → (kind_number k ≡ 10 → ⊥) → j ≡ 0 → PartOf cs 0 i r → PartAt cs i j r
  part_first n z s = part_told (λ t e w b l. rw z (s.says t e w b (kind_not t e w b n)))

  pub part_second : {j r : ℕ} → (kind_number k ≡ 10 → ⊥) → (j ≡ 0 → ⊥) → PartOf cs 1 i r → PartAt cs i j r
  part_second {j} n z s =
      part_told (λ t e w b l.
      let one : j ≡ 1 = omega (arith, few_parts (denote t i) (kind_not t e w b n)) in
      rw one (s.says t e w b (kind_not t e w b n)))
