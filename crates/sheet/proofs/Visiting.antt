-- `step` and `visit`: each step comes to the same, and when no type is open any more the visited one is met.
use mathlib.Core.Path.{◌≡◌, refl, sym, ap, ◌∙◌, subst}
use mathlib.Core.Bool.{Bool, true, false}
use mathlib.Core.List.Memᴰ
use mathlib.Core.List.{List}
use Prim.Native.Nat.{ℕ, suc, ◌+◌, ◌-◌, ◌≤◌, ◌<◌}
use native.Mathlib.Omega.{arith}
use lib.ListN.{length, get_or, set, take, length-set}
use lib.Seq.{get_or-set_same}
use Rattle.meaning.specs.Types.{Ty, parts}
use Rattle.meaning.specs.Sheet.{met}
use Rattle.meaning.proofs.SheetTypes.{Known}
use Rattle.types.specs.Table.{Tab, most_numbers, capacity, denote}
use Rattle.types.specs.Reading.{PartsOf, HasPart, PartAt}
use Rattle.types.proofs.Parts.{number_small}
use Rattle.types.proofs.Readers.{in_room, has_part}
use Rattle.sheet.specs.declared.writer.Open.{Open}
use Rattle.sheet.specs.declared.writer.Marks.{Marks}
use Rattle.sheet.specs.Marks.{tab_of, types_in, completed, Completing}
use Rattle.sheet.specs.Opening.{none_open, open_type, next_part, parts_open, begun_at, New, Opened, unwound, work, Visiting, Visited, Stepping, Stepped}
use Rattle.sheet.proofs.Again.{met_still}
use Rattle.sheet.proofs.Marking.{own_tab}
use Rattle.sheet.proofs.Opening.{new_no, top_below, next_small, top_completing, closed_opened, closed_comes, closed_less, part_below, passed_opened, passed_comes, passed_less, begun_opened, begun_comes, begun_less}

-- ---- what is new

-- ---- one step

pub begun_long : {new : List Open} (ops : List Open) (k i : ℕ) → new ≡ begun_at ops k i → length new ≡ length ops
begun_long ops k i e = rw e (length-set ops k (record { ty = i; next = 0 }))

module _ {cs : List ℕ} {ms : Marks} {ops : List Open} {d k : ℕ} (s : Stepping cs ms ops d) (ek : k ≡ d - 1) where
  abbrev t : Tab
  t = tab_of cs ms

  one_more : d ≡ suc k
  one_more = omega (arith, s.some)

  inner : Opened t ms ops (suc k)
  inner = subst (Opened t ms ops) one_more s.opened

  module _ {i j : ℕ} (ei : i ≡ open_type ops k) (ej : j ≡ next_part ops k) where
    below : i < t.n
    below = rw ei (top_below inner)

    pub step_room : i < capacity cs
    step_room = in_room inner.marked.wf i below

    pub step_next : j ≤ most_numbers
    step_next = rw ej (next_small inner)

    module _ {n : ℕ} (many : PartsOf cs i n) where
      many_is : n ≡ length (parts_open t ops k)
      many_is = many.says t refl inner.marked.wf below ∙ ap (λ x. length (parts (denote t x))) ei

      -- no part is left

      module _ (e : j ≡ n) where
        all : next_part ops k ≡ length (parts_open t ops k)
        all = sym ej ∙ e ∙ many_is

        pub step_completing : Completing ms i
        step_completing = rw ei (top_completing inner all)

        pub step_closed : {ns : Marks} → ns ≡ completed ms i → Stepped cs ms ns ops ops d k
        step_closed en =
            rw (en, ei, one_more) record { long = refl; opened = closed_opened inner all; comes_to = closed_comes inner all; less = closed_less inner all }

      -- part j is left, number p

      module _ (no : j ≡ n → ⊥) where
        some : next_part ops k ≡ length (parts_open t ops k) → ⊥
        some e = no (ej ∙ e ∙ sym many_is)

        pub step_place : HasPart cs i j
        step_place = has_part inner.marked.wf i below (rw (ei, ej) (omega (arith, inner.passed k (omega arith), some)))

        module _ {p : ℕ} (there : PartAt cs i j p) where
          there_open : PartAt cs (open_type ops k) (next_part ops k) p
          there_open = rw (ei, ej) at there

          step_small : p < most_numbers
          step_small = omega (arith, part_below inner some there_open, top_below inner, inner.marked.wf.room, inner.marked.wf.most)

          pub step_part : p < length ms.numbers.now
          step_part = omega (arith, step_small, inner.marked.numbers_long)

          pub step_begun : {r : Bool} {new : List Open} → New ms p r → r ≡ true → new ≡ begun_at ops d p → Stepped cs ms ms ops new d (d + 1)
          step_begun is e en =
              let h = is.yes e in
              let b = begun_opened inner some there_open h.0 h.1 in
              let c = begun_comes inner some there_open h.0 h.1 in
              let l = begun_less inner some there_open h.0 h.1 in
              let q : d + 1 ≡ suc (suc k) = omega (arith, one_more) in
              let long : length (begun_at ops d p) ≡ length ops = begun_long ops d p refl in
              rw (en, q, one_more) record { long = rw one_more at long; opened = b; comes_to = c; less = l }

          pub step_passed : {r : Bool} {new : List Open} → New ms p r → r ≡ false → new ≡ set ops k (record { ty = open_type ops k; next = next_part ops k + 1 }) → Stepped cs ms ms ops new d d
          step_passed is e en =
              let pb : p < t.n = omega (arith, part_below inner some there_open, top_below inner) in
              let known = new_no inner.marked pb is e in
              rw (en, one_more) record {
                long = length-set ops k _;
                opened = passed_opened inner some there_open known;
                comes_to = passed_comes inner some there_open known;
                less = passed_less inner some there_open known;
              }

-- ---- the walk

module _ {cs : List ℕ} {ms : Marks} {ops : List Open} {i : ℕ} (v : Visiting cs ms ops i) where
  visit_small : i < most_numbers
  visit_small = number_small v.marked.wf i v.below

  pub visit_number : i < length ms.numbers.now
  visit_number = omega (arith, visit_small, v.marked.numbers_long)

  pub visit_nothing : {r : Bool} → New ms i r → r ≡ false → Visited cs ms ms i
  visit_nothing n e = record {
    marked = v.marked;
    met_is = sym (met_still _ _ v.marked.ordered (new_no v.marked v.below n e));
  }

  pub visit_begins : {r : Bool} → New ms i r → r ≡ true → (0 < length ops) × (i < most_numbers)
  visit_begins n e = (omega (arith, (n.yes e).0, v.below, v.open_room.room), visit_small)

-- from the visited type on, d types are open
pub record Walking (cs : List ℕ) (ms : Marks) (ops : List Open) (i : ℕ) (ns : Marks) (new : List Open) (d : ℕ) : Type 0 where
  pub long : length new ≡ length ops
  pub opened : Opened (tab_of cs ms) ns new d
  pub comes_to : unwound (tab_of cs ms) new d (types_in (tab_of cs ms) ns) ≡ met (denote (tab_of cs ms) i) (types_in (tab_of cs ms) ms)

pub walk_first : {cs : List ℕ} {ms : Marks} {ops new : List Open} {i : ℕ} {r : Bool} → Visiting cs ms ops i → New ms i r → r ≡ true → new ≡ begun_at ops 0 i → Walking cs ms new i ms new 1
unfolding unwound
walk_first {cs} {ms} {ops} {new} {i} v n e en =
    let h = n.yes e in
    let long : length (begun_at ops 0 i) ≡ length ops = begun_long ops 0 i refl in
    let top : get_or (begun_at ops 0 i) 0 none_open ≡ record { ty = i; next = 0 } = get_or-set_same ops 0 _ none_open (visit_begins v n e).0 in
    let type_is : open_type (begun_at ops 0 i) 0 ≡ i = ap (λ (o : Open). o.ty) top in
    let next_is : next_part (begun_at ops 0 i) 0 ≡ 0 = ap (λ (o : Open). o.next) top in
    let none : (ts : List Ty) → Known (types_in (tab_of cs ms) ms) (take 0 ts) = λ ts u m g. absurd (Memᴰ.not-nil m) in
    let only : (k : ℕ) → k < 1 → k ≡ 0 = λ k l. omega arith in
    rw en record {
      long = refl;
      opened = record {
        marked = v.marked;
        room = omega (arith, long, v.open_room.room);
        high = λ k l. rw (only k l, type_is) h.0;
        within = λ k l. rw (only k l, type_is) (omega (arith, v.below));
        falls = λ k l a b. absurd (omega arith);
        unmet = λ k l. rw (only k l, type_is) h.1;
        passed = λ k l. rw (only k l, next_is) (omega arith);
        known = λ k l. rw (only k l, next_is) (none (parts_open (tab_of cs ms) (begun_at ops 0 i) 0));
      };
      comes_to = ap (λ x. met (denote (tab_of cs ms) x) (types_in (tab_of cs ms) ms)) type_is;
    }

module _ {cs : List ℕ} {ms : Marks} {ops : List Open} {i : ℕ} {ns : Marks} {new : List Open} {d : ℕ} (l : Walking cs ms ops i ns new d) where
  own : tab_of cs ns ≡ tab_of cs ms
  own = own_tab l.opened.marked

  pub walk_step : 0 < d → Stepping cs ns new d
  walk_step h = record { opened = subst (λ u. Opened u ns new d) (sym own) l.opened; some = h }

  module _ {os : Marks} {newer : List Open} {e : ℕ} (s : Stepped cs ns os new newer d e) where
    pub walk_less : work (tab_of cs ms) os newer e < work (tab_of cs ms) ns new d
    walk_less = subst (λ u. work u os newer e < work u ns new d) own s.less

    pub walk_next : Walking cs ms ops i os newer e
    walk_next = record {
      long = s.long ∙ l.long;
      opened = subst (λ u. Opened u os newer e) own s.opened;
      comes_to = subst (λ u. unwound u newer e (types_in u os) ≡ unwound u new d (types_in u ns)) own s.comes_to ∙ l.comes_to;
    }

  pub walk_end : (0 < d → ⊥) → Visited cs ms ns i
  unfolding unwound
  walk_end h =
      let z : d ≡ 0 = omega arith in
      record { marked = l.opened.marked; met_is = rw z at l.comes_to }
