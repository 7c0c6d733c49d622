-- The steps that form a type: what is asked, what a search of the records finds, what is written.
use Rattle.std.specs.Prelude.{◌≡◌, List, Bool, true, false, ℕ, ◌+◌, ◌≤◌, ◌<◌, length, get_or, take, drop, Option, Some, None}
use Rattle.types.specs.Layout.{kind_cell, link_cell, record_end, kind_in, first_in, second_in, link_in, elements_from, slots_from, slots_end}
use Rattle.types.specs.Table.{Tab, capacity, slot_at, Fresh, Wf}

-- ---- what is asked

-- List, Dict, MapIter or FilterIter of known types, with 0 where there is no second one, and room for one type more
pub record Asked (t : Tab) (k p q : ℕ) : Type 0 where
  pub wf : Wf t
  pub room : t.n < capacity t.cells
  pub least : 8 ≤ k
  pub most : k ≤ 12
  pub no_tuple : k ≡ 10 → ⊥
  pub first : p < t.n
  pub second : q < t.n
  pub unused : (k ≡ 9 → ⊥) → q ≡ 0

-- a Tuple of q known types, on a stack from s on, with room for them and for one type more
pub record Listed (t : Tab) (st : List ℕ) (s q : ℕ) : Type 0 where
  pub wf : Wf t
  pub room : t.n < capacity t.cells
  pub space : t.m + q ≤ capacity t.cells
  pub inside : s + q ≤ length st
  pub known : (j : ℕ) → j < q → get_or st (s + j) 0 < t.n

-- ---- what a record is

-- record i is (k, p, q)
pub record RecordAt (cs : List ℕ) (k p q i : ℕ) : Type 0 where
  pub kind_is : kind_in cs i ≡ k
  pub first_is : first_in cs i ≡ p
  pub second_is : second_in cs i ≡ q

-- record i is the Tuple of the numbers es
pub record TupleAt (cs es : List ℕ) (i : ℕ) : Type 0 where
  pub kind_is : kind_in cs i ≡ 10
  pub second_is : second_in cs i ≡ length es
  pub elements : take (length es) (drop (elements_from cs + first_in cs i) cs) ≡ es

-- ---- a search

-- b tells whether P holds
pub record Told (P : Type 0) (b : Bool) : Type 0 where
  pub yes : b ≡ true → P
  pub no : b ≡ false → P → ⊥

-- slot has the last number of the chain in which all structured numbers below n that have P are
pub record Slot (P : ℕ → Type 0) (cs : List ℕ) (n slot : ℕ) : Type 0 where
  pub least : slots_from cs ≤ slot
  pub most : slot < slots_end cs
  pub own : (j : ℕ) → 8 ≤ j → j < n → P j → slot_at cs j ≡ slot

-- i is a number of slot's chain, or its end, and none above i has P
pub record Passed (P : ℕ → Type 0) (cs : List ℕ) (n slot i : ℕ) : Type 0 where
  pub below : i < n
  pub own : 8 ≤ i → slot_at cs i ≡ slot
  pub none : (j : ℕ) → i < j → 8 ≤ j → j < n → P j → ⊥

-- r is a number below n that has P, or none where no structured number below n has
pub record Found (P : ℕ → Type 0) (n : ℕ) (r : Option ℕ) : Type 0 where
  pub below : (i : ℕ) → r ≡ Some i → i < n
  pub found : (i : ℕ) → r ≡ Some i → P i
  pub none : r ≡ None → (j : ℕ) → 8 ≤ j → j < n → P j → ⊥

-- ---- writing

-- ds is cs with the record (k, p, q) at i
pub record Written (cs ds : List ℕ) (i k p q : ℕ) : Type 0 where
  pub long : length ds ≡ length cs
  pub here : RecordAt ds k p q i
  pub before : (x : ℕ) → x < kind_cell i → get_or ds x 0 ≡ get_or cs x 0
  pub after : (x : ℕ) → link_cell i ≤ x → get_or ds x 0 ≡ get_or cs x 0

-- ds is cs with the record (k, p, q) at i, as the last one of slot's chain
pub record Added (cs ds : List ℕ) (slot i k p q : ℕ) : Type 0 where
  pub long : length ds ≡ length cs
  pub here : RecordAt ds k p q i
  pub link : link_in ds i ≡ get_or cs slot 0
  pub head : get_or ds slot 0 ≡ i
  pub before : (x : ℕ) → x < kind_cell i → get_or ds x 0 ≡ get_or cs x 0
  pub after : (x : ℕ) → record_end i ≤ x → (x ≡ slot → ⊥) → get_or ds x 0 ≡ get_or cs x 0

-- the first k records are those of the plain types, and no other is in a chain
pub record Started (cs : List ℕ) (k : ℕ) : Type 0 where
  pub fresh : Fresh cs
  pub plains : (i : ℕ) → i < k → RecordAt cs i 0 0 i
