-- A search of a chain: what its turns keep, what it ends with, and which chain it is for.
use mathlib.Core.Path.{◌≡◌, sym, ◌∙◌, subst}
use mathlib.Core.Bool.{Bool, true, false, false≢true}
use mathlib.Core.List.{List}
use Prim.Native.Nat.{ℕ, ◌≤◌, ◌<◌}
use Rattle.std.specs.Prelude.{Option, Some, None}
use lib.ListN.{length, get_or, take, drop}
use native.Mathlib.Omega.{arith}
use native.Mathlib.Decide.{dec_lt, ℕ_discrete}
use Rattle.types.specs.Layout.{link_cell, link_in}
use Rattle.types.specs.Table.{Tab, capacity, record_hash, tuple_hash, slot_of, Chains, Wf}
use Rattle.types.specs.Steps.{Asked, Listed, RecordAt, TupleAt, Told, Slot, Passed, Found}
use Rattle.types.proofs.Room.{slots_within}
use Rattle.types.proofs.Chains.{slot_least, slot_most, slot_record, slot_tuple}

pub told_no : {P : Type 0} → (P → ⊥) → Told P false
told_no n = record { yes = λ e. absurd (false≢true e); no = λ e. n }

pub told_yes : {P : Type 0} → P → Told P true
told_yes p = record { yes = λ e. p; no = λ e. absurd (false≢true (sym e)) }

-- what tells of P tells of anything that holds where P does
pub told_as : {P Q : Type 0} {b : Bool} → (P → Q) → (Q → P) → Told P b → Told Q b
told_as f g t = record { yes = λ e. f (t.yes e); no = λ e q. t.no e (g q) }

-- ---- its turns

module _ {P : ℕ → Type 0} {cs : List ℕ} {n slot : ℕ} (c : Chains cs n) (s : Slot P cs n slot) where
  pub passed_none : {i : ℕ} → i ≡ get_or cs slot 0 → Passed P cs n slot i
  passed_none {i} e = record {
    below = rw e (c.heads slot s.least s.most);
    own = λ h. rw e (c.head_own slot s.least s.most (rw e at h));
    none = λ j a l b p. absurd (omega (arith, e, rw (s.own j l b p) at (c.head_last j l b)));
  }

  -- between a number of the chain and its link no number is of the chain
  pub passed_more : {i r : ℕ} {b : Bool} → Passed P cs n slot i → 8 ≤ i → Told (P i) b → b ≡ false → r ≡ link_in cs i → Passed P cs n slot r
  passed_more {i} p l t e f = record {
    below = omega (arith, f, c.links i l p.below, p.below);
    own = λ h. rw f (c.link_own i l p.below (rw f at h)) ∙ p.own l;
    none = λ j a m b x. elim (dec_lt i j) [
      | yes d ↦ p.none j d m b x
      | no d ↦ elim (ℕ_discrete j i) [
        | yes z ↦ t.no e (subst P z x)
        | no z ↦ absurd (omega (arith, f, c.link_last i j m (omega arith) p.below (s.own j m b x ∙ sym (p.own l))))
      ]
    ];
  }

pub found_here : {P : ℕ → Type 0} {cs : List ℕ} {n slot i : ℕ} {b : Bool} → Passed P cs n slot i → Told (P i) b → b ≡ true → Found P n (Some i)
found_here {P} {i = i} p t e = record {
  below = λ j y. let z : i ≡ j = cc in rw (← z) p.below;
  found = λ j y. let z : i ≡ j = cc in subst P z (t.yes e);
  none = λ y. absurd (cc);
}

pub found_none : {P : ℕ → Type 0} {cs : List ℕ} {n slot i : ℕ} → Passed P cs n slot i → i < 8 → Found P n None
found_none p h = record {
  below = λ j y. absurd (cc);
  found = λ j y. absurd (cc);
  none = λ y j a b. p.none j (omega arith) a b;
}

-- ---- a search by a test that tells of P

module _ {P Q : ℕ → Type 0} {n : ℕ} (yes : (i : ℕ) → i < n → Q i → P i) where
  pub slot_tested : {cs : List ℕ} {slot : ℕ} → Slot P cs n slot → Slot Q cs n slot
  slot_tested s = record { least = s.least; most = s.most; own = λ j a b q. s.own j a b (yes j b q) }

  pub found_tested : {r : Option ℕ} → ((i : ℕ) → i < n → P i → Q i) → Found Q n r → Found P n r
  found_tested back f = record {
    below = f.below;
    found = λ i e. yes i (f.below i e) (f.found i e);
    none = λ e j a b p. f.none e j a b (back j b p);
  }

-- ---- the slots of what is asked for

pub form_slot : {t : Tab} {k p q slot : ℕ} → Asked t k p q → slot ≡ slot_of t.cells (record_hash k p q)
    → Slot (RecordAt t.cells k p q) t.cells t.n slot
form_slot {t} {k} {p} {q} a e = record {
  least = rw e (slot_least t.cells (record_hash k p q));
  most = rw e (slot_most t.cells (record_hash k p q) (omega (arith, a.room)));
  own = λ j l b r. slot_record a.no_tuple r ∙ sym e;
}

pub tuple_slot : {t : Tab} {st : List ℕ} {s q slot : ℕ} → Listed t st s q → slot ≡ slot_of t.cells (tuple_hash (take q (drop s st)))
    → Slot (TupleAt t.cells (take q (drop s st))) t.cells t.n slot
tuple_slot {t} {st} {s} {q} {slot} l e = record {
  least = rw e (slot_least t.cells (tuple_hash (take q (drop s st))));
  most = rw e (slot_most t.cells (tuple_hash (take q (drop s st))) (omega (arith, l.room)));
  own = λ j a b r. slot_tuple r ∙ sym e;
}

-- where a record is added, its link is in front of all slots
pub add_room : {P : ℕ → Type 0} {t : Tab} {slot : ℕ} (long : ℕ) → long ≡ length t.cells → Wf t → t.n < capacity t.cells → Slot P t.cells t.n slot
    → (link_cell t.n < slot) × (slot < long) × (t.n < 65536)
add_room {t = t} long e w h s = (
  omega (arith, s.least),
  omega (arith, s.most, slots_within t.cells),
  omega (arith, w.most),
)
