-- The marks: what they say, and that one more type is one more number.
use mathlib.Core.Path.{◌≡◌, sym, ap, ◌∙◌, subst}
use mathlib.Core.Logic.{⊎_elim}
use mathlib.Core.List.Memᴰ
use mathlib.Core.List.{List, [], ◌∷◌, ◌++◌, map, map-append, Memᴰ}
use Prim.Native.Nat.{ℕ, zero, suc, ◌+◌, ◌-◌, ◌≤◌, ◌<◌}
use native.Mathlib.Numerals.{add-one}
use native.Mathlib.Omega.{arith}
use native.Mathlib.Decide.{ℕ_discrete}
use borrow.Author.Tests.{eq-eqb, ne_eqb}
use lib.ListN.{length, get_or, set, length-set, length-append, length-map, get_or-map}
use lib.Seq.{get_or-set_same, get_or-set_other, take-suc-set, get_or-take, length-take-le}
use Rattle.meaning.specs.Limits.{most_types}
use Rattle.meaning.specs.Base.{test◌then◌else◌, count}
use Rattle.meaning.specs.Types.{Ty, unknown}
use Rattle.meaning.specs.Sheet.{add_new}
use Rattle.meaning.proofs.Choices.{count_long}
use Rattle.meaning.proofs.SheetTypes.{Ordered}
use Rattle.meaning.proofs.SheetWalk.{near, far, here}
use Rattle.types.specs.Table.{Tab, tab, denote}
use Rattle.types.proofs.Laws.{unknown_number}
use Rattle.sheet.specs.declared.writer.Marks.{Marks}
use Rattle.sheet.specs.Marks.{number_at, type_met, order_in, tab_of, types_in, Marked, completed, Completing}
use Rattle.sheet.proofs.Meeting.{add_old, add_fresh, no_more}

-- ---- what stands in a list of meanings

each_in : (f : ℕ → Ty) (xs : List ℕ) (vs : List Ty) → ((k : ℕ) → k < length xs → Memᴰ (f (get_or xs k 0)) vs) → (t : Ty) → Memᴰ t (map f xs) → Memᴰ t vs
each_in f [] vs h t m = absurd (Memᴰ.not-nil m)
each_in f (x ∷ xs) vs h t m =
    ⊎_elim (λ e. Memᴰ.cast e (h 0 (omega arith))) (λ n. each_in f xs vs (λ k l. h (suc k) (omega arith)) t n) (Memᴰ.cases_cons m)

in_count : (f : ℕ → Ty) (a n x : ℕ) → a ≤ x → x < a + n → Memᴰ (f x) (map f (count a n))
unfolding count
in_count f a zero x h l = absurd (omega arith)
in_count f a (suc n) x h l = elim (ℕ_discrete x a) [
  | yes e ↦ Memᴰ.head (ap f e)
  | no e ↦ Memᴰ.tail (in_count f (suc a) n x (omega arith) (omega arith))
]

-- ---- the marks at hand

module _ {t : Tab} {ms : Marks} (m : Marked t ms) where
  order_length : length (order_in ms) ≡ ms.met
  order_length = length-take-le ms.met ms.order.now (omega (arith, m.few, m.order_long))

  pub types_length : length (types_in t ms) ≡ ms.met
  unfolding types_in
  types_length = length-map (order_in ms) (denote t) ∙ order_length

  order_at : (k : ℕ) → k < ms.met → get_or (order_in ms) k 0 ≡ type_met ms k
  order_at k h = get_or-take ms.met ms.order.now k 0 h

  pub type_at_lem : (k : ℕ) → k < ms.met → get_or (types_in t ms) k unknown ≡ denote t (type_met ms k)
  unfolding types_in
  type_at_lem k h =
      ap (get_or (map (denote t) (order_in ms)) k) (sym (unknown_number m.wf))
      ∙ get_or-map (denote t) (order_in ms) k 0
      ∙ ap (denote t) (order_at k h)

  -- all of them are structured types of the table
  types_within : (u : Ty) → Memᴰ u (types_in t ms) → Memᴰ u (map (denote t) (count 8 (t.n - 8)))
  unfolding types_in
  types_within =
      each_in (denote t) (order_in ms) _
      (λ k h. let l : k < ms.met = omega (arith, order_length) in
      let w = m.within k l in
      rw (order_at k l) (in_count (denote t) 8 (t.n - 8) _ w.0 (omega (arith, w.1, m.wf.base))))

pub own_tab : {cs : List ℕ} {ms : Marks} {n e : ℕ} → Marked (tab cs n e) ms → tab_of cs ms ≡ tab cs n e
own_tab m = rw (m.types, m.elements)

-- ---- one more type

abbrev added : Marks → ℕ → Marks
added ms i = record ms { numbers = record ms.numbers { now = set ms.numbers.now i (8 + ms.met) }; order = record ms.order { now = set ms.order.now ms.met i }; met = ms.met + 1 }

module _ (ms : Marks) (i : ℕ) where
  added_other : (x : ℕ) → (x ≡ i → ⊥) → number_at (added ms i) x ≡ number_at ms x
  added_other x n = get_or-set_other ms.numbers.now i x _ 0 n

  added_types : (t : Tab) → ms.met < length ms.order.now → types_in t (added ms i) ≡ types_in t ms ++ (denote t i ∷ [])
  unfolding types_in
  added_types t room = rw (add-one ms.met, take-suc-set ms.order.now ms.met i room) (map-append (denote t) (order_in ms) (i ∷ []))

module _ (t : Tab) (ms : Marks) (i : ℕ) (m : Marked t ms) (below : i < t.n) (high : 8 ≤ i) where
  abbrev us : List Ty
  us = types_in t ms

  abbrev ty : Ty
  ty = denote t i

  -- different structured types of the table: there is room for one more
  room_of : Ordered [] (us ++ (ty ∷ [])) → ms.met < most_types
  room_of o =
      let vs = map (denote t) (count 8 (t.n - 8)) in
      let here_in : (u : Ty) → Memᴰ u (us ++ (ty ∷ [])) → Memᴰ u vs =
      λ u n. ⊎_elim (λ l. types_within m u l) (λ r. Memᴰ.cast (Memᴰ.eq_of_singleton r) (in_count (denote t) 8 (t.n - 8) i high (omega (arith, m.wf.base)))) (Memᴰ.append_cases us n) in
      omega (
        arith,
        no_more [] (us ++ (ty ∷ [])) vs o here_in,
        length-append us (ty ∷ []),
        types_length m,
        length-map (count 8 (t.n - 8)) (denote t),
        count_long 8 (t.n - 8),
        m.wf.room,
        m.wf.most,
        m.wf.base,
      )

  add_marked : number_at ms i ≡ 1 → Ordered [] (us ++ (ty ∷ [])) → Marked t (added ms i)
  add_marked z o =
      let room : ms.met < length ms.order.now = omega (arith, room_of o, m.order_long) in
      let e = added_types ms i t room in
      let new = m.fresh i below z in
      let other = added_other ms i in
      let own : number_at (added ms i) i ≡ 8 + ms.met = get_or-set_same ms.numbers.now i _ 0 (omega (arith, m.numbers_long, m.wf.room, m.wf.most)) in
      record {
        wf = m.wf;
        types = m.types;
        elements = m.elements;
        numbers_long = length-set ms.numbers.now i _ ∙ m.numbers_long;
        order_long = length-set ms.order.now ms.met i ∙ m.order_long;
        few = omega (arith, m.order_long);
        within = λ y h. elim (ℕ_discrete y ms.met) [
          | yes a ↦ rw (a, get_or-set_same ms.order.now ms.met i 0 room) (high, below)
          | no a ↦ rw (get_or-set_other ms.order.now ms.met y i 0 a) (m.within y (omega arith))
        ];
        ordered = rw e o;
        known = λ x h n. rw e (elim (ℕ_discrete x i) [
          | yes a ↦ Memᴰ.append_right us (Memᴰ.head (ap (denote t) a))
          | no a ↦ Memᴰ.append_left (ty ∷ []) (m.known x h (λ b. n (other x a ∙ b)))
        ]);
        number = λ x h n. rw e (elim (ℕ_discrete x i) [
          | yes a ↦ rw (a, own) (omega (arith, far ty us (ty ∷ []) new, here ty [], types_length m))
          | no a ↦ other x a ∙ m.number x h (λ b. n (other x a ∙ b)) ∙ ap (λ p. 8 + p) (sym (near (denote t x) us (ty ∷ []) (m.known x h (λ b. n (other x a ∙ b)))))
        ]);
        fresh = λ x h z₁ q. elim (ℕ_discrete x i) [
          | yes a ↦ absurd (omega (arith, ap (λ y. number_at (added ms i) y) a, own))
          | no a ↦ ⊎_elim (λ l. m.fresh x h (sym (other x a) ∙ z₁) l) (λ r. a (m.wf.inj x i h below (Memᴰ.eq_of_singleton r))) (Memᴰ.append_cases us (rw e at q))
        ];
      }

  -- ---- what `complete` does

  completed_new : number_at ms i ≡ 1 → completed ms i ≡ added ms i
  unfolding completed test◌then◌else◌
  completed_new z = rw (eq-eqb _ _ z)

  completed_old : (number_at ms i ≡ 1 → ⊥) → completed ms i ≡ ms
  unfolding completed test◌then◌else◌
  completed_old n = rw (ne_eqb _ _ n)

  module _ (o : Ordered [] (add_new ty us)) where
    fresh_ordered : number_at ms i ≡ 1 → Ordered [] (us ++ (ty ∷ []))
    fresh_ordered z = subst (Ordered []) (add_fresh ty us (m.fresh i below z)) o

    pub completing : Completing ms i
    completing = record { numbers_long = m.numbers_long; order_long = m.order_long; number = omega (arith, m.wf.room, m.wf.most); room = λ z. room_of (fresh_ordered z) }

    -- one more type has a number, and no other's mark changes
    pub completed_count : number_at ms i ≡ 1 → (completed ms i).met ≡ ms.met + 1
    completed_count z = ap (λ (q : Marks). q.met) (completed_new z)

    pub completed_other : number_at ms i ≡ 1 → (x : ℕ) → (x ≡ i → ⊥) → number_at (completed ms i) x ≡ number_at ms x
    completed_other z x n = ap (λ (q : Marks). number_at q x) (completed_new z) ∙ added_other ms i x n

    pub completed_marked : Marked t (completed ms i)
    completed_marked = elim (ℕ_discrete (number_at ms i) 1) [
      | yes z ↦ rw (completed_new z) (add_marked z (fresh_ordered z))
      | no n ↦ rw (completed_old n) m
    ]

    pub completed_types : types_in t (completed ms i) ≡ add_new ty us
    completed_types = elim (ℕ_discrete (number_at ms i) 1) [
      | yes z ↦
          rw (completed_new z, add_fresh ty us (m.fresh i below z))
          (added_types ms i t (omega (arith, room_of (fresh_ordered z), m.order_long)))
      | no n ↦ rw (completed_old n) (sym (add_old ty us (m.known i below n)))
    ]
