-- How deep a node lies, by counting the ends before it. Assumes nothing.
use mathlib.Core.Path.{◌≡◌, refl, sym, ap, ◌∙◌}
use mathlib.Core.Bool.{Bool, true, false}
use mathlib.Core.List.{List, [], ◌∷◌, ◌++◌}
use mathlib.Core.Option.{none}
use Prim.Native.Nat.{ℕ, suc, ◌+◌, ◌-◌, ◌<◌, ◌≤◌}
use native.Mathlib.Nat.{zero-add, add_assoc}
use native.Mathlib.Numerals.{add-one}
use native.Mathlib.Decide.{dec_lt}
use native.Mathlib.Omega.{arith}
use lib.Dec.{eqb, leb, ltb}
use lib.ListN.{length, get_or, set, take, length-take, length-set, replicate, length-replicate, get_or-replicate}
use lib.Seq.{take-nil, take-suc, get_or-set_same, get_or-set_other}
use borrow.Author.Tests.{eq-eqb, ne_eqb, lt-ltb, le-ltb, le-leb, lt-leb, eqb-true, eqb-false}
use Rattle.meaning.specs.Base.{◌and◌, test◌then◌else◌}
use Rattle.meaning.specs.Image.{Node, node_of, nodes_of, depth, first_not, too_deep_node}

-- how many of these nodes end behind i, and how many end at e
unfoldable pub held : ℕ → List Node → ℕ
held i [] = 0
held i (d ∷ ds) = (test ltb i d.stop then 1 else 0) + held i ds

unfoldable pub ends_at : ℕ → List Node → ℕ
ends_at e [] = 0
ends_at e (d ∷ ds) = (test eqb d.stop e then 1 else 0) + ends_at e ds

-- one node more
held_snoc : (i : ℕ) (ds : List Node) (d : Node) → held i (ds ++ (d ∷ [])) ≡ held i ds + (test ltb i d.stop then 1 else 0)
unfolding held
held_snoc i [] d = omega arith
held_snoc i (x ∷ ds) d = rw (held_snoc i ds d, add_assoc)

ends_snoc : (e : ℕ) (ds : List Node) (d : Node) → ends_at e (ds ++ (d ∷ [])) ≡ ends_at e ds + (test eqb d.stop e then 1 else 0)
unfolding ends_at
ends_snoc e [] d = omega arith
ends_snoc e (x ∷ ds) d = rw (ends_snoc e ds d, add_assoc)

-- what ends behind i ends at i + 1 or behind it
one_further : (i s : ℕ) → (test ltb i s then 1 else 0) ≡ (test ltb (suc i) s then 1 else 0) + (test eqb s (suc i) then 1 else 0)
unfolding test◌then◌else◌
one_further i s = elim (dec_lt i s) [
  | yes a ↦ elim (dec_lt (suc i) s) [
    | yes b ↦ rw (lt-ltb i s a, lt-ltb (suc i) s b, ne_eqb s (suc i) (λ e. omega arith))
    | no b ↦ let e : s ≡ suc i = omega arith in rw (lt-ltb i s a, le-ltb (suc i) s (omega arith), eq-eqb s (suc i) e)
  ]
  | no a ↦ rw (le-ltb i s (omega arith), le-ltb (suc i) s (omega arith), ne_eqb s (suc i) (λ e. omega arith))
]

held_further : (i : ℕ) (ds : List Node) → held i ds ≡ held (suc i) ds + ends_at (suc i) ds
unfolding held ends_at
held_further i [] = refl
held_further i (d ∷ ds) = omega (arith, one_further i d.stop, held_further i ds)

at_most_one : (t : Bool) → (test t then 1 else 0) ≤ 1
unfolding test◌then◌else◌
at_most_one true = omega arith
at_most_one false = omega arith

pub ends_few : (e : ℕ) (ds : List Node) → ends_at e ds ≤ length ds
unfolding ends_at
ends_few e [] = omega arith
ends_few e (d ∷ ds) = omega (arith, at_most_one (eqb d.stop e), ends_few e ds)

-- a node holds those from itself on that end before it does
depth_held : (i j : ℕ) (ds : List Node) → depth i j ds ≡ held i (take (suc i - j) ds)
unfolding depth held ◌and◌ test◌then◌else◌
depth_held i j [] = rw (take-nil (suc i - j))
depth_held i j (d ∷ ds) = elim (dec_lt i j) [
  | yes a ↦
      let none : suc i - j ≡ 0 = omega arith in
      let later : suc i - suc j ≡ 0 = omega arith in
      rw (lt-leb j i a, none, zero-add) (rw later at (depth_held i (suc j) ds))
  | no a ↦
      let some : suc i - j ≡ suc (suc i - suc j) = omega arith in
      rw (le-leb j i (omega arith), some) (ap (λ (n : ℕ). (test ltb i d.stop then 1 else 0) + n) (depth_held i (suc j) ds))
]

module _ (ds : List Node) (i : ℕ) (inside : i < length ds) where
  one_more : take (i + 1) ds ≡ take i ds ++ (node_of ds i ∷ [])
  unfolding node_of
  one_more = rw add-one (take-suc ds i _ inside)

  pub ends_next : (e : ℕ) → ends_at e (take (i + 1) ds) ≡ ends_at e (take i ds) + (test eqb (node_of ds i).stop e then 1 else 0)
  ends_next e = rw one_more (ends_snoc e (take i ds) (node_of ds i))

  module _ (above : i < (node_of ds i).stop) where
    held_more : held i (take (i + 1) ds) ≡ held i (take i ds) + 1
    unfolding test◌then◌else◌
    held_more = rw one_more (held_snoc i (take i ds) (node_of ds i) ∙ rw (lt-ltb i (node_of ds i).stop above))

    pub depth_here : depth i 0 ds ≡ held i (take i ds) + 1
    depth_here = let all : suc i - 0 ≡ i + 1 = omega arith in depth_held i 0 ds ∙ rw all held_more

    pub held_next : held i (take i ds) + 1 ≡ held (i + 1) (take (i + 1) ds) + ends_at (i + 1) (take (i + 1) ds)
    held_next = sym held_more ∙ rw add-one (held_further i (take (suc i) ds))

-- ---- the table of ends

-- it says of each place how many of these nodes end there, plus 1
pub record Counted (ends : List ℕ) (ds : List Node) : Type 0 where
  pub long : length ends ≡ 2049
  pub each : (e : ℕ) → e < 2049 → get_or ends e 0 ≡ ends_at e ds + 1

pub counted_none : Counted (replicate 2049 1) []
unfolding ends_at
counted_none = record { long = length-replicate {A = ℕ} 2049 1; each = λ e h. get_or-replicate {A = ℕ} 2049 e 1 0 h }

module _ (ds : List Node) (i : ℕ) (inside : i < length ds) (ends : List ℕ) (h : Counted ends (take i ds)) (s : ℕ) (same : s ≡ (node_of ds i).stop) (fits : s < 2049) where
  -- by whether node i ends at e
  counted_at : (e : ℕ) → e < 2049 → (t : Bool) → eqb s e ≡ t → get_or (set ends s (get_or ends s 0 + 1)) e 0 ≡ ends_at e (take (i + 1) ds) + 1
  unfolding test◌then◌else◌
  counted_at e l true p =
      let here : s ≡ e = eqb-true s e p in
      let room : s < length ends = omega (arith, h.long) in
      rw (ends_next ds i inside e, ← same, p, ← here, get_or-set_same ends s (get_or ends s 0 + 1) 0 room, h.each s fits)
  counted_at e l false p =
      let other : e ≡ s → ⊥ = λ q. eqb-false s e p (sym q) in
      rw (ends_next ds i inside e, ← same, p, get_or-set_other ends s e (get_or ends s 0 + 1) 0 other, h.each e l) (omega arith)

  pub counted_next : Counted (set ends s (get_or ends s 0 + 1)) (take (i + 1) ds)
  counted_next = record { long = simp length-set h.long; each = λ e l. counted_at e l (eqb s e) refl }

  pub counted_few : get_or ends s 0 ≤ i + 1
  counted_few = rw (h.each s fits) (omega (arith, ends_few s (take i ds), length-take i ds))

-- ---- depth 65

module _ (ds : List Node) (i : ℕ) (inside : i < length ds) (above : i < (node_of ds i).stop) {n : ℕ} (e : n ≡ held i (take i ds)) where
  pub shallow : n < 64 → leb (depth i 0 ds) 64 ≡ true
  shallow h = rw (depth_here ds i inside above, ← e) (le-leb (n + 1) 64 (omega arith))

  pub deep : 64 ≤ n → leb (depth i 0 ds) 64 ≡ false
  deep h = rw (depth_here ds i inside above, ← e) (lt-leb (n + 1) 64 (omega arith))

-- ---- few nodes

depth_few : (i j : ℕ) (ds : List Node) → depth i j ds ≤ length ds
unfolding depth
depth_few i j [] = omega arith
depth_few i j (d ∷ ds) = omega (arith, at_most_one (leb j i and ltb i d.stop), depth_few i (suc j) ds)

pass_all : {A : Type 0} (f : ℕ → A → Bool) (k : ℕ) (xs : List A) → ((i : ℕ) (x : A) → f i x ≡ true) → first_not f k xs ≡ none
unfolding first_not test◌then◌else◌
pass_all f k [] h = refl
pass_all f k (x ∷ xs) h = rw (h k x) (pass_all f (suc k) xs h)

pub few_shallow : (bs : List ℕ) → length (nodes_of bs) ≤ 64 → too_deep_node bs ≡ none
unfolding too_deep_node
few_shallow bs h = pass_all (λ (i : ℕ) (d : Node). leb (depth i 0 (nodes_of bs)) 64) 0 (nodes_of bs) (λ i d. le-leb (depth i 0 (nodes_of bs)) 64 (omega (arith, depth_few i 0 (nodes_of bs))))
