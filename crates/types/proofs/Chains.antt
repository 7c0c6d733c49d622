-- The chains: in which one a record is, and what becomes of them where a record is added.
use mathlib.Core.Path.{◌≡◌, refl, sym, ◌∙◌}
use mathlib.Core.List.{List, [], ◌∷◌}
use Prim.Native.Nat.{ℕ, zero, suc, ◌+◌, ◌≤◌, ◌<◌}
use native.Mathlib.Nat.{mod-lt}
use native.Mathlib.Numerals.{add-one}
use native.Mathlib.Omega.{arith}
use native.Mathlib.Decide.{dec_lt, ℕ_discrete}
use borrow.Author.Tests.{ne_eqb}
use lib.ListN.{length, get_or, take}
use Rattle.meaning.specs.Base.{test◌then◌else◌}
use Rattle.types.specs.Layout.{link_in, slots_from, slots_end}
use Rattle.types.specs.Table.{capacity, step, steps, record_hash, tuple_hash, slot_of, slot_at, Chains, Chained}
use Rattle.types.specs.Steps.{RecordAt, TupleAt}

-- ---- slots

pub slot_least : (cs : List ℕ) (h : ℕ) → slots_from cs ≤ slot_of cs h
unfolding slot_of
slot_least cs h = omega arith

pub slot_most : (cs : List ℕ) (h : ℕ) → 0 < capacity cs → slot_of cs h < slots_end cs
unfolding slot_of
slot_most cs h l = omega (arith, mod-lt h l)

pub slot_as : (cs ds : List ℕ) (h : ℕ) → capacity ds ≡ capacity cs → slot_of ds h ≡ slot_of cs h
unfolding slot_of
slot_as cs ds h e = rw e

pub slot_record : {cs : List ℕ} {k p q i : ℕ} → (k ≡ 10 → ⊥) → RecordAt cs k p q i → slot_at cs i ≡ slot_of cs (record_hash k p q)
unfolding slot_at test◌then◌else◌
slot_record {k = k} n r = rw (r.kind_is, r.first_is, r.second_is, ne_eqb k 10 n)

pub slot_tuple : {cs es : List ℕ} {i : ℕ} → TupleAt cs es i → slot_at cs i ≡ slot_of cs (tuple_hash es)
unfolding slot_at test◌then◌else◌
slot_tuple r = rw (r.kind_is, r.second_is, r.elements)

own_least : (cs : List ℕ) (i : ℕ) → slots_from cs ≤ slot_at cs i
unfolding slot_at
own_least cs i = slot_least cs _

-- ---- the chains, and their shut name

pub chains_of : (cs : List ℕ) (n : ℕ) → Chained cs n → Chains cs n
unfolding Chained
chains_of cs n c = c

pub chained_as : {cs : List ℕ} {n : ℕ} → Chains cs n → Chained cs n
unfolding Chained
chained_as c = c

-- ---- one record more

-- ds is cs with record n as the last one of slot's chain, and no other slot is changed
pub record Headed (cs ds : List ℕ) (n slot : ℕ) : Type 0 where
  pub least : slots_from cs ≤ slot
  pub most : slot < slots_end cs
  pub own : slot_at ds n ≡ slot
  pub link : link_in ds n ≡ get_or cs slot 0
  pub head : get_or ds slot 0 ≡ n
  pub others : (x : ℕ) → slots_from cs ≤ x → (x ≡ slot → ⊥) → get_or ds x 0 ≡ get_or cs x 0

module _ {cs ds : List ℕ} {n slot : ℕ} (c : Chains cs n) (wide : capacity ds ≡ capacity cs) (own : (i : ℕ) → i < n → slot_at ds i ≡ slot_at cs i)
    (link : (i : ℕ) → i < n → link_in ds i ≡ link_in cs i) (h : Headed cs ds n slot) where
  more_heads : (x : ℕ) → slots_from cs ≤ x → x < slots_end cs → get_or ds x 0 < n + 1
  more_heads x a b = elim (ℕ_discrete x slot) [
    | yes e ↦ rw (e, h.head) (omega arith)
    | no e ↦ omega (arith, h.others x a e, c.heads x a b)
  ]

  more_head_own : (x : ℕ) → slots_from cs ≤ x → x < slots_end cs → 8 ≤ get_or ds x 0 → slot_at ds (get_or ds x 0) ≡ x
  more_head_own x a b l = elim (ℕ_discrete x slot) [
    | yes e ↦ rw (e, h.head) h.own
    | no e ↦
        let k = h.others x a e in
        rw k (own (get_or cs x 0) (c.heads x a b) ∙ c.head_own x a b (rw k at l))
  ]

  more_head_last : (j : ℕ) → 8 ≤ j → j < n + 1 → j ≤ get_or ds (slot_at ds j) 0
  more_head_last j l b = elim (dec_lt j n) [
    | yes a ↦ elim (ℕ_discrete (slot_at ds j) slot) [
      | yes e ↦ rw (e, h.head) (omega arith)
      | no e ↦
          let k = own j a in
          rw (k, h.others (slot_at cs j) (own_least cs j) (λ z. e (k ∙ z))) (c.head_last j l a)
    ]
    | no a ↦
        let e : j ≡ n = omega arith in
        rw (e, h.own, h.head) (omega arith)
  ]

  more_links : (i : ℕ) → 8 ≤ i → i < n + 1 → link_in ds i < i
  more_links i l b = elim (dec_lt i n) [
    | yes a ↦ rw (link i a) (c.links i l a)
    | no a ↦
        let e : i ≡ n = omega arith in
        rw (e, h.link) (c.heads slot h.least h.most)
  ]

  more_link_own : (i : ℕ) → 8 ≤ i → i < n + 1 → 8 ≤ link_in ds i → slot_at ds (link_in ds i) ≡ slot_at ds i
  more_link_own i l b m = elim (dec_lt i n) [
    | yes a ↦
        let k = link i a in
        rw (k, own i a) (own (link_in cs i) (omega (arith, c.links i l a)) ∙ c.link_own i l a (rw k at m))
    | no a ↦
        let e : i ≡ n = omega arith in
        let k : link_in ds i ≡ get_or cs slot 0 = rw e h.link in
        let z : slot_at ds (get_or cs slot 0) ≡ slot =
        own (get_or cs slot 0) (c.heads slot h.least h.most) ∙ c.head_own slot h.least h.most (rw k at m) in
        rw (k, e, h.own) z
  ]

  more_link_last : (i j : ℕ) → 8 ≤ j → j < i → i < n + 1 → slot_at ds j ≡ slot_at ds i → j ≤ link_in ds i
  more_link_last i j l k b s = elim (dec_lt i n) [
    | yes a ↦ rw (link i a) (c.link_last i j l k a (sym (own j (omega arith)) ∙ s ∙ own i a))
    | no a ↦
        let e : i ≡ n = omega arith in
        let z : slot_at cs j ≡ slot = sym (own j (omega arith)) ∙ s ∙ rw e h.own in
        rw (e, h.link) (rw z at (c.head_last j l (omega arith)))
  ]

  pub chains_more : Chains ds (n + 1)
  chains_more = record {
    heads = rw wide more_heads;
    head_own = rw wide more_head_own;
    head_last = more_head_last;
    links = more_links;
    link_own = more_link_own;
    link_last = more_link_last;
  }

-- ---- the hash of a Tuple, one number after the other

steps_more : (h : ℕ) (es : List ℕ) (j : ℕ) → j < length es → steps h (take (suc j) es) ≡ step (steps h (take j es)) (get_or es j 0)
unfolding steps
steps_more h [] j l = absurd (omega arith)
steps_more h (e ∷ es) zero l = refl
steps_more h (e ∷ es) (suc j) l = steps_more (step h e) es j (omega arith)

pub hash_none : (es : List ℕ) → 10 ≡ tuple_hash (take 0 es)
unfolding tuple_hash steps
hash_none es = refl

pub hash_more : (es : List ℕ) {h r j : ℕ} → h ≡ tuple_hash (take j es) → j < length es → r ≡ step h (get_or es j 0) → r ≡ tuple_hash (take (j + 1) es)
unfolding tuple_hash
hash_more es {h} {r} {j} e l s = rw (s, e, add-one j) (sym (steps_more 10 es j l))

-- ---- the hash of any other record

pub record_slot : (cs : List ℕ) (k p q : ℕ) {g h slot : ℕ} → g ≡ step k p → h ≡ step g q → slot ≡ slot_of cs h
    → slot ≡ slot_of cs (record_hash k p q)
unfolding record_hash
record_slot cs k p q e f s = rw (s, f, e)
