-- One step of the walk over open types: the innermost one is completed, or its next part is passed or begun.
use mathlib.Core.Path.{◌≡◌, refl, sym, ap, ◌∙◌, subst}
use mathlib.Core.Bool.{Bool, false}
use mathlib.Core.Logic.{⊎_elim}
use mathlib.Core.List.Memᴰ
use mathlib.Core.List.{List, [], Memᴰ}
use Prim.Native.Nat.{ℕ, zero, suc, ◌+◌, ◌≤◌, ◌<◌}
use native.Mathlib.Numerals.{add-one}
use native.Mathlib.Omega.{arith}
use native.Mathlib.Decide.{ℕ_discrete}
use lib.ListN.{length, get_or, set, take, length-set}
use lib.Seq.{get_or-set_same, get_or-set_other, take-suc, take-length}
use Rattle.meaning.specs.Limits.{most_types}
use Rattle.meaning.specs.Types.{Ty, unknown, kind, parts, part}
use Rattle.meaning.specs.Sheet.{add_new, met}
use Rattle.meaning.proofs.SheetTypes.{Known, Ordered}
use Rattle.types.specs.Table.{Tab, most_numbers, denote}
use Rattle.types.specs.Reading.{PartAt}
use Rattle.types.proofs.Parts.{plain_kind_of, structured, parts_few}
use Rattle.sheet.specs.declared.writer.Open.{Open}
use Rattle.sheet.specs.declared.writer.Marks.{Marks}
use Rattle.sheet.specs.Marks.{number_at, types_in, Marked, completed, Completing}
use Rattle.sheet.specs.Opening.{none_open, open_type, next_part, parts_open, begun_at, New, Opened, unwound, parts_left, work}
use Rattle.sheet.proofs.Meeting.{met_ordered, met_kept}
use Rattle.sheet.proofs.Again.{known_more, known_snoc, met_next, met_after_part}
use Rattle.sheet.proofs.Marking.{completing, completed_count, completed_other, completed_marked, completed_types}

-- ---- what is not new is plain or has a number

pub new_no : {t : Tab} {ms : Marks} {i : ℕ} {r : Bool} → Marked t ms → i < t.n → New ms i r → r ≡ false → 8 ≤ kind (denote t i) → Memᴰ (denote t i) (types_in t ms)
new_no {i = i} m b n e h =
    ⊎_elim (λ l. absurd (omega (arith, plain_kind_of m.wf i b l))) (λ g. m.known i b g) (n.no e)

-- ---- the same open types come to the same

unwound_same : (t : Tab) (ops new : List Open) (d : ℕ) → ((k : ℕ) → k < d → open_type new k ≡ open_type ops k) → (us : List Ty)
    → unwound t new d us ≡ unwound t ops d us
unfolding unwound
unwound_same t ops new zero h us = refl
unwound_same t ops new (suc d) h us =
    ap (λ x. unwound t new d (met (denote t x) us)) (h d (omega arith)) ∙ unwound_same t ops new d (λ k l. h k (omega arith)) _

-- ---- d + 1 types are open: the innermost is number i, and its next part j

module _ {t : Tab} {ms : Marks} {ops : List Open} {d : ℕ} (w : Opened t ms ops (suc d)) where
  abbrev i : ℕ
  i = open_type ops d

  abbrev j : ℕ
  j = next_part ops d

  abbrev us : List Ty
  us = types_in t ms

  abbrev ty : Ty
  ty = denote t i

  last : d < suc d
  last = omega arith

  pub top_below : i < t.n
  top_below = omega (arith, w.within d last)

  pub depth_small : d < most_types
  depth_small = omega (arith, w.within d last, w.high d last, w.marked.wf.room, w.marked.wf.most)

  pub open_there : d < length ops
  open_there = omega (arith, w.within d last, w.high d last, w.room)

  top_high : 8 ≤ kind ty
  top_high = structured w.marked.wf i top_below (w.high d last)

  pub next_small : j ≤ most_numbers
  next_small = omega (arith, w.passed d last, parts_few w.marked.wf i top_below)

  -- ---- no part is left

  module _ (all : j ≡ length (parts ty)) where
    all_known : Known us (parts ty)
    all_known = subst (Known us) (ap (λ n. take n (parts ty)) all ∙ take-length (parts ty)) (w.known d last)

    now_met : met ty us ≡ add_new ty us
    now_met = met_next ty us w.marked.ordered top_high all_known

    ordered_then : Ordered [] (add_new ty us)
    ordered_then = subst (Ordered []) now_met (met_ordered ty us w.marked.ordered)

    pub top_completing : Completing ms i
    top_completing = completing t ms i w.marked top_below (w.high d last) ordered_then

    abbrev ns : Marks
    ns = completed ms i

    types_then : types_in t ns ≡ met ty us
    types_then = completed_types t ms i w.marked top_below (w.high d last) ordered_then ∙ sym now_met

    count_then : ns.met ≡ ms.met + 1
    count_then = completed_count t ms i w.marked top_below (w.high d last) ordered_then (w.unmet d last)

    pub closed_opened : Opened t ns ops d
    closed_opened = record {
      marked = completed_marked t ms i w.marked top_below (w.high d last) ordered_then;
      room = w.room;
      high = λ k h. w.high k (omega arith);
      within = λ k h. w.within k (omega arith);
      falls = λ k l a b. w.falls k l a (omega arith);
      unmet = λ k h.
          let below : i < open_type ops k = w.falls k d h last in
          completed_other t ms i w.marked top_below (w.high d last) ordered_then (w.unmet d last) (open_type ops k) (λ e. absurd (omega arith))
          ∙ w.unmet k (omega arith);
      passed = λ k h. w.passed k (omega arith);
      known = λ k h.
          rw types_then (known_more us (met ty us) (take (next_part ops k) (parts_open t ops k)) (met_kept ty us w.marked.ordered) (w.known k (omega arith)));
    }

    pub closed_comes : unwound t ops d (types_in t ns) ≡ unwound t ops (suc d) us
    unfolding unwound
    closed_comes = ap (unwound t ops d) types_then

    few_left : (e : ℕ) → Opened t ns ops e → parts_left t ops e ≤ most_numbers
    unfolding parts_left
    few_left zero o = omega arith
    few_left (suc e) o = omega (arith, parts_few o.marked.wf (open_type ops e) (omega (arith, o.within e (omega arith))))

    pub closed_less : work t ns ops d < work t ms ops (suc d)
    unfolding work
    closed_less = omega (arith, few_left d closed_opened, count_then, closed_opened.marked.few, depth_small)

  -- ---- a part is left: number p

  module _ {p : ℕ} (some : j ≡ length (parts ty) → ⊥) (there : PartAt t.cells i j p) where
    inside : j < length (parts ty)
    inside = omega (arith, w.passed d last)

    pub part_below : p < i
    part_below = there.lower t refl w.marked.wf top_below inside

    part_is : denote t p ≡ get_or (parts ty) j unknown
    unfolding part
    part_is = (there.says t refl w.marked.wf top_below inside).means

    part_small : p < t.n
    part_small = omega (arith, part_below, top_below)

    -- it is passed

    module _ (known_part : 8 ≤ kind (denote t p) → Memᴰ (denote t p) us) where
      abbrev next : List Open
      next = set ops d (record { ty = i; next = j + 1 })

      top : get_or next d none_open ≡ record { ty = i; next = j + 1 }
      top = get_or-set_same ops d _ none_open open_there

      other : (k : ℕ) → (k ≡ d → ⊥) → get_or next k none_open ≡ get_or ops k none_open
      other k h = get_or-set_other ops d k _ none_open h

      same_type : (k : ℕ) → open_type next k ≡ open_type ops k
      same_type k = elim (ℕ_discrete k d) [
        | yes e ↦ rw e (ap (λ (o : Open). o.ty) top)
        | no e ↦ ap (λ (o : Open). o.ty) (other k e)
      ]

      top_next : next_part next d ≡ j + 1
      top_next = ap (λ (o : Open). o.next) top

      other_next : (k : ℕ) → (k ≡ d → ⊥) → next_part next k ≡ next_part ops k
      other_next k h = ap (λ (o : Open). o.next) (other k h)

      one_more : Known us (take (j + 1) (parts ty))
      one_more =
          rw (add-one j, take-suc (parts ty) j unknown inside)
          (known_snoc us (take j (parts ty)) _ (w.known d last) (rw part_is at known_part))

      pub passed_opened : Opened t ms next (suc d)
      passed_opened = record {
        marked = w.marked;
        room = omega (arith, w.room, length-set ops d (record { ty = i; next = j + 1 }));
        high = λ k h. rw (same_type k) (w.high k h);
        within = λ k h. rw (same_type k) (w.within k h);
        falls = λ k l a b. rw (same_type k, same_type l) (w.falls k l a b);
        unmet = λ k h. rw (same_type k) (w.unmet k h);
        passed = λ k h. rw (same_type k) (elim (ℕ_discrete k d) [
          | yes e ↦ rw (e, top_next) (omega (arith, inside))
          | no e ↦ rw (other_next k e) (w.passed k h)
        ]);
        known = λ k h. rw (same_type k) (elim (ℕ_discrete k d) [
          | yes e ↦ rw (e, top_next) one_more
          | no e ↦ rw (other_next k e) (w.known k h)
        ]);
      }

      pub passed_comes : unwound t next (suc d) us ≡ unwound t ops (suc d) us
      passed_comes = unwound_same t ops next (suc d) (λ k h. same_type k) us

      pub passed_less : work t ms next (suc d) < work t ms ops (suc d)
      unfolding work parts_left
      passed_less = omega (arith, ap (λ x. length (parts (denote t x))) (same_type d), top_next, inside)

    -- it is begun

    module _ (high : 8 ≤ p) (unmet : number_at ms p ≡ 1) where
      abbrev deeper : List Open
      deeper = begun_at ops (suc d) p

      pub begun_there : suc d < length ops
      begun_there = omega (arith, part_below, w.within d last, w.room)

      old : (k : ℕ) → k < suc d → get_or deeper k none_open ≡ get_or ops k none_open
      old k h = get_or-set_other ops (suc d) k _ none_open (λ e. absurd (omega arith))

      begun : get_or deeper (suc d) none_open ≡ record { ty = p; next = 0 }
      begun = get_or-set_same ops (suc d) _ none_open begun_there

      old_type : (k : ℕ) → k < suc d → open_type deeper k ≡ open_type ops k
      old_type k h = ap (λ (o : Open). o.ty) (old k h)

      old_next : (k : ℕ) → k < suc d → next_part deeper k ≡ next_part ops k
      old_next k h = ap (λ (o : Open). o.next) (old k h)

      new_type : open_type deeper (suc d) ≡ p
      new_type = ap (λ (o : Open). o.ty) begun

      new_next : next_part deeper (suc d) ≡ 0
      new_next = ap (λ (o : Open). o.next) begun

      -- an old one keeps a property, and the new one has it
      each : (P : ℕ → Type 0) → ((k : ℕ) → k < suc d → P k) → P (suc d) → (k : ℕ) → k < suc (suc d) → P k
      each P f x k h = elim (ℕ_discrete k (suc d)) [ yes e ↦ rw e x | no e ↦ f k (omega arith) ]

      none_known : Known us (take 0 (parts_open t deeper (suc d)))
      none_known u m h = absurd (Memᴰ.not-nil m)

      pub begun_opened : Opened t ms deeper (suc (suc d))
      begun_opened = record {
        marked = w.marked;
        room = omega (arith, w.room, length-set ops (suc d) (record { ty = p; next = 0 }));
        high = each (λ k. 8 ≤ open_type deeper k) (λ k h. rw (old_type k h) (w.high k h)) (rw new_type high);
        within = each (λ k. open_type deeper k + k < t.n) (λ k h. rw (old_type k h) (w.within k h)) (rw new_type (omega (arith, part_below, w.within d last)));
        falls = λ k l a b. elim (ℕ_discrete l (suc d)) [
          | yes e ↦ rw (e, new_type, old_type k (omega arith)) (elim (ℕ_discrete k d) [
            | yes f ↦ rw f part_below
            | no f ↦ omega (arith, part_below, w.falls k d (omega arith) last)
          ])
          | no e ↦ rw (old_type k (omega arith), old_type l (omega arith)) (w.falls k l a (omega arith))
        ];
        unmet = each (λ k. number_at ms (open_type deeper k) ≡ 1) (λ k h. rw (old_type k h) (w.unmet k h)) (rw new_type unmet);
        passed = each (λ k. next_part deeper k ≤ length (parts_open t deeper k)) (λ k h. rw (old_type k h, old_next k h) (w.passed k h)) (rw new_next (omega arith));
        known = each (λ k. Known us (take (next_part deeper k) (parts_open t deeper k))) (λ k h. rw (old_type k h, old_next k h) (w.known k h)) (rw new_next none_known);
      }

      pub begun_comes : unwound t deeper (suc (suc d)) us ≡ unwound t ops (suc d) us
      unfolding unwound
      begun_comes =
          ap (λ x. unwound t deeper (suc d) (met (denote t x) us)) new_type
          ∙ unwound_same t ops deeper (suc d) old_type (met (denote t p) us)
          ∙ ap (unwound t ops d) (ap (λ x. met ty (met x us)) part_is ∙ met_after_part ty us w.marked.ordered top_high j inside (w.known d last))

      pub begun_less : work t ms deeper (suc (suc d)) < work t ms ops (suc d)
      unfolding work parts_left
      begun_less =
          omega (arith, parts_few w.marked.wf (open_type deeper (suc d)) (rw new_type part_small), begun_opened.within (suc d) (omega arith), begun_opened.high (suc d) (omega arith), w.marked.wf.room, w.marked.wf.most)
