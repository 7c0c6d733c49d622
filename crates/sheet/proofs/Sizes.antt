-- The elements of the sheet's types: how many, and the numbers that stand for types.
use mathlib.Core.Path.{◌≡◌, refl, sym, ap, ◌∙◌}
use mathlib.Core.List.{List, [], ◌++◌}
use Prim.Native.Nat.{ℕ, ◌+◌, ◌*◌, ◌≤◌, ◌<◌}
use native.Mathlib.Numerals.{add-one}
use native.Mathlib.Omega.{arith}
use borrow.Author.Tests.{eq-eqb, ne_eqb}
use lib.ListN.{length, drop, drop_of_length-le, length-append}
use lib.Seq.{drop-cons}
use Rattle.meaning.specs.Base.{test◌then◌else◌}
use Rattle.meaning.specs.Types.{Ty, unknown, kind, parts}
use Rattle.meaning.specs.Sheet.{elements_in, elements_of}
use Rattle.meaning.proofs.SheetTypes.{number_plain, number_above}
use Rattle.types.specs.declared.Kind.{Kind}
use Rattle.types.specs.declared.Kind.TheVariants as the_kind
use Rattle.types.specs.Kinds.{kind_number}
use Rattle.types.specs.Table.{Tab, most_numbers, capacity, denote, Wf}
use Rattle.types.specs.Reading.{KindOf, PartsOf}
use Rattle.types.proofs.OfKind.{same_kind}
use Rattle.types.proofs.Parts.{plain_kind_of, structured, parts_few}
use Rattle.sheet.specs.declared.writer.Marks.{Marks}
use Rattle.sheet.specs.Counting.{most_written}
use Rattle.sheet.specs.Marks.{number_at, type_met, tab_of, types_in, Marked}
use Rattle.sheet.specs.Writing.{ElementsIn, NumberOf}
use Rattle.sheet.proofs.Marking.{types_length, type_at_lem}

-- ---- the elements of one type

pub elements_tuple : (t : Ty) → kind t ≡ 10 → elements_in t ≡ parts t
unfolding elements_in test◌then◌else◌
elements_tuple t e = rw (eq-eqb _ _ e)

pub elements_none : (t : Ty) → (kind t ≡ 10 → ⊥) → elements_in t ≡ []
unfolding elements_in test◌then◌else◌
elements_none t n = rw (ne_eqb _ _ n)

module _ {cs : List ℕ} {i : ℕ} {k : Kind} (told : KindOf cs i k) where
  is : (t : Tab) → t.cells ≡ cs → Wf t → i < t.n → k ≡ the_kind.Tuple → kind (denote t i) ≡ 10
  is t e w b h = sym (told.says t e w b) ∙ ap kind_number h

  pub elements_some : {r : ℕ} → k ≡ the_kind.Tuple → PartsOf cs i r → ElementsIn cs i r
  elements_some h p = record {
    says = λ t e w b. p.says t e w b ∙ ap length (sym (elements_tuple (denote t i) (is t e w b h)));
    small = λ t e w b. omega (arith, p.says t e w b, parts_few w i b);
  }

  pub elements_no : (k ≡ the_kind.Tuple → ⊥) → ElementsIn cs i 0
  elements_no n = record {
    says = λ t e w b. ap length (sym (elements_none (denote t i) (λ z. n (same_kind k the_kind.Tuple (told.says t e w b ∙ z)))));
    small = λ t e w b. omega arith;
  }

-- ---- all elements

pub record SumLoop (t : Tab) (ms : Marks) (n k sum : ℕ) : Type 0 where
  pub marked : Marked t ms
  pub many : n ≡ ms.met
  pub passed : k ≤ n
  pub small : sum ≤ most_numbers * k
  pub left : sum + length (elements_of (drop k (types_in t ms))) ≡ length (elements_of (types_in t ms))

pub sum_first : {t : Tab} {ms : Marks} {n : ℕ} → Marked t ms → n ≡ ms.met → SumLoop t ms n 0 0
sum_first m e = record { marked = m; many = e; passed = omega arith; small = omega arith; left = omega arith }

-- the elements of the types from the k-th on
pub elements_step : {t : Tab} {ms : Marks} (m : Marked t ms) (k : ℕ) → k < ms.met
    → elements_of (drop k (types_in t ms)) ≡ elements_in (denote t (type_met ms k)) ++ elements_of (drop (k + 1) (types_in t ms))
unfolding elements_of
elements_step {t} {ms} m k h =
    let inside : k < length (types_in t ms) = omega (arith, types_length m) in
    rw (drop-cons (types_in t ms) k unknown inside, type_at_lem m k h, add-one k)

module _ {cs : List ℕ} {ms : Marks} {n k sum : ℕ} (l : SumLoop (tab_of cs ms) ms n k sum) where
  abbrev t : Tab
  t = tab_of cs ms

  pub sum_number : {i : ℕ} → k < n → i ≡ type_met ms k → i < capacity cs
  sum_number h e = omega (arith, (l.marked.within k (omega (arith, l.many))).1, l.marked.types, l.marked.wf.room)

  sum_here : {i r : ℕ} → k < n → i ≡ type_met ms k → ElementsIn cs i r → (r ≡ length (elements_in (denote t (type_met ms k)))) × (r ≤ most_numbers)
  sum_here {i} h e s =
      let b = (l.marked.within k (omega (arith, l.many))).1 in
      let b₁ : i < t.n = rw e b in
      (s.says t refl l.marked.wf b₁ ∙ ap (λ x. length (elements_in (denote t x))) e, s.small t refl l.marked.wf b₁)

  pub sum_room : {i r : ℕ} → k < n → i ≡ type_met ms k → ElementsIn cs i r → sum + r ≤ most_written
  sum_room h e s = omega (arith, l.small, (sum_here h e s).1, l.many, l.marked.few)

  pub sum_next : {i r : ℕ} → k < n → i ≡ type_met ms k → ElementsIn cs i r → SumLoop t ms n (k + 1) (sum + r)
  sum_next h e s =
      let step = elements_step l.marked k (omega (arith, l.many)) in
      record {
        marked = l.marked;
        many = l.many;
        passed = omega arith;
        small = omega (arith, l.small, (sum_here h e s).1);
        left = omega (arith, l.left, ap length step, length-append (elements_in (denote t (type_met ms k))) (elements_of (drop (k + 1) (types_in t ms))), (sum_here h e s).0);
      }

  pub sum_end : (k < n → ⊥) → (sum ≡ length (elements_of (types_in t ms))) × (sum ≤ most_written)
  unfolding elements_of
  sum_end h =
      let short : length (types_in t ms) ≤ k = omega (arith, types_length l.marked, l.many) in
      let e = rw (drop_of_length-le (types_in t ms) short) at l.left in
      (omega arith, omega (arith, l.small, l.passed, l.many, l.marked.few))

-- ---- numbers

pub number_low : (ms : Marks) (i : ℕ) → i < 8 → NumberOf ms i i
number_low ms i h = record {
  says = λ t m b k.
      let e = plain_kind_of m.wf i b h in
      sym (number_plain (types_in t ms) (denote t i) (omega arith) ∙ e);
}

pub number_high : (ms : Marks) (i r : ℕ) → (i < 8 → ⊥) → r ≡ number_at ms i → NumberOf ms i r
number_high ms i r h e = record {
  says = λ t m b k.
      let g = structured m.wf i b (omega arith) in
      let there : number_at ms i ≡ 1 → ⊥ = λ z. m.fresh i b z (k g) in
      e ∙ m.number i b there ∙ sym (number_above (types_in t ms) (denote t i) g);
}
