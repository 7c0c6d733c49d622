-- What the nodes of a sound image obey: each stands by itself, its children lie inside it in order, its subtree ends where its record
-- says, and a child lies deeper than its parent.
use mathlib.Core.Path.{◌≡◌, refl, ◌∙◌}
use mathlib.Core.Bool.{Bool, true, false, not}
use mathlib.Core.List.{List, [], ◌∷◌}
use Prim.Native.Nat.{ℕ, zero, suc, ◌+◌, ◌-◌, ◌≤◌, ◌<◌}
use native.Mathlib.Nat.{zero-add}
use native.Mathlib.Omega.{arith}
use native.Mathlib.Decide.{ℕ_discrete, dec_lt}
use borrow.Author.Tests.{leb-true, le-leb, lt-leb, ltb-true, lt-ltb, le-ltb, eqb-true}
use lib.Arith.{lt_of_le-ne}
use lib.Dec.{eqb, leb, ltb}
use lib.ListN.{length, get_or, drop, length-map}
use Rattle.meaning.specs.Limits.{deepest}
use Rattle.meaning.specs.Base.{◌and◌, ◌or◌, test◌then◌else◌}
use Rattle.meaning.specs.Image.{Node, node_of, nodes_of, node, name_record, name_records, names_from, names_of, name_count, node_count, is_statement, is_spanless, is_expression, arg_below, count_stands, node_stands, belongs, lands, nests, depth, broken_node, badly_nested, too_deep_node}
use Rattle.meaning.specs.Decode.{stop_of, past}
use Rattle.meaning.proofs.Choices.{and_left, and_right, both, all_pass, records_many}
use Rattle.meaning.proofs.Faults.{Sound}

-- ---- all nodes of a sound image, with N names

pub record Nested (N : ℕ) (ds : List Node) : Type 0 where
  pub each_stands : (i : ℕ) → i < length ds → node_stands N (length ds) i (node_of ds i) ≡ true
  pub each_nests : (i : ℕ) → i < length ds → nests ds i (node_of ds i) ≡ true
  pub shallow : (i : ℕ) → i < length ds → depth i 0 ds ≤ deepest

pub nodes_many : (bs : List ℕ) → length (nodes_of bs) ≡ node_count bs
unfolding nodes_of
nodes_many bs = records_many node 24 (node_count bs) _

pub records_count : (bs : List ℕ) → length (name_records bs) ≡ name_count bs
unfolding name_records
records_count bs = records_many name_record 20 (name_count bs) (drop names_from bs)

pub names_many : (bs : List ℕ) → length (names_of bs) ≡ name_count bs
unfolding names_of
names_many bs = length-map (name_records bs) _ ∙ records_count bs

pub sound_nested : {bs : List ℕ} → Sound bs → Nested (name_count bs) (nodes_of bs)
unfolding node_of broken_node badly_nested too_deep_node
sound_nested {bs} s =
    let ds = nodes_of bs in
    let d : Node = record { kind = 0; arg = 0; children = 0; stop = 0; span_start = 0; span_end = 0 } in
    record {
      each_stands = λ i h. rw (← nodes_many bs) at (all_pass _ ds d s.nodes i h);
      each_nests = λ i h. all_pass _ ds d s.nested i h;
      shallow = λ i h. leb-true _ deepest (all_pass _ ds d s.shallow i h);
    }

-- ---- one node

pub record Stands (N M i : ℕ) (d : Node) : Type 0 where
  pub known : (is_statement d.kind or is_spanless d.kind or is_expression d.kind) ≡ true
  pub arg : d.arg < arg_below N d.kind
  pub count : count_stands d.kind d.children ≡ true
  pub span : (not (is_spanless d.kind) or eqb d.span_start 0 and eqb d.span_end 0) ≡ true
  pub above : i < d.stop
  pub within : d.stop ≤ M

pub stands : {N M i : ℕ} {d : Node} → node_stands N M i d ≡ true → Stands N M i d
unfolding node_stands
stands e =
    let a = and_left _ _ e in
    let b = and_left _ _ a in
    let c = and_left _ _ b in
    let f = and_left _ _ c in
    record {
      known = and_left _ _ f;
      arg = ltb-true _ _ (and_right _ _ f);
      count = and_right _ _ c;
      span = and_right _ _ b;
      above = ltb-true _ _ (and_right _ _ a);
      within = leb-true _ _ (and_right _ _ e);
    }

-- ---- a node's children: the last n of node d's start at i

pub record Children (ds : List Node) (d : Node) (i n : ℕ) : Type 0 where
  pub landing : lands ds d i n ≡ true

pub children_end : {ds : List Node} {d : Node} {i : ℕ} → Children ds d i 0 → i ≡ d.stop
unfolding lands
children_end c = eqb-true _ _ c.landing

-- the next one lies inside d, and has business there; the rest start where it ends
pub record Child (ds : List Node) (d : Node) (i n : ℕ) : Type 0 where
  pub inside : i < d.stop
  pub business : belongs d.kind d.children (d.children - suc n) (node_of ds i).kind ≡ true
  pub rest : Children ds d (stop_of ds i) n

pub child : {ds : List Node} {d : Node} {i n : ℕ} → Children ds d i (suc n) → Child ds d i n
unfolding lands stop_of
child {ds} {d} {i} {n} c =
    let t = c.landing in
    record {
      inside = ltb-true i d.stop (and_left _ _ (and_left _ _ t));
      business = and_right _ _ (and_left _ _ t);
      rest = record { landing = and_right _ _ t };
    }

pub children_le : {ds : List Node} {d : Node} {i : ℕ} (n : ℕ) → Children ds d i n → i ≤ d.stop
children_le zero c = omega (arith, children_end c)
children_le (suc n) c = omega (arith, (child c).inside)

-- a subtree ends where its record says
pub children_past : {ds : List Node} {d : Node} (n i : ℕ) → Children ds d i n → past ds n i ≡ d.stop
unfolding past
children_past zero i c = children_end c
children_past (suc n) i c = children_past n _ (child c).rest

-- ---- in a sound image

module _ {N : ℕ} {ds : List Node} (sound : Nested N ds) where
  pub node_stands_lem : (i : ℕ) → i < length ds → Stands N (length ds) i (node_of ds i)
  node_stands_lem i h = stands (sound.each_stands i h)

  pub children : (i : ℕ) → i < length ds → Children ds (node_of ds i) (suc i) (node_of ds i).children
  unfolding nests
  children i h = record { landing = and_left _ _ (sound.each_nests i h) }

  -- "Node 0 is a Block ending at M."
  pub root : 0 < length ds → ((node_of ds 0).kind ≡ 12) × ((node_of ds 0).stop ≡ length ds)
  unfolding nests ◌or◌
  root h =
      let t = and_right _ _ (sound.each_nests 0 h) in
      (eqb-true _ _ (and_left _ _ t), eqb-true _ _ (and_right _ _ t))

  -- what begins inside a node ends inside it
  from_child : (i j : ℕ) → ((c : ℕ) → j < c → c < i → i < stop_of ds c → stop_of ds i ≤ stop_of ds c)
      → (d : Node) (n c : ℕ) → j < c → Children ds d c n → d.stop ≤ length ds → c ≤ i → i < d.stop → stop_of ds i ≤ d.stop
  unfolding stop_of
  from_child i j ih d zero c l k m a b = absurd (omega (arith, children_end k))
  from_child i j ih d (suc n) c l k m a b =
      let r = child k in
      let e : stop_of ds c ≤ d.stop = children_le n r.rest in
      let f : c < stop_of ds c = (node_stands_lem c (omega arith)).above in
      elim (dec_lt i (stop_of ds c)) [
        | yes p ↦ elim (dec_lt c i) [
          | yes q ↦ omega (arith, ih c l q p, e)
          | no q ↦ let s : c ≡ i = omega arith in rw s at e
        ]
        | no p ↦ from_child i j ih d n (stop_of ds c) (omega arith) r.rest m (omega arith) b
      ]

  within_by : (k j i : ℕ) → i ≤ j + k → j < i → j < length ds → i < stop_of ds j → stop_of ds i ≤ stop_of ds j
  unfolding stop_of
  within_by zero j i h l m b = absurd (omega arith)
  within_by (suc k) j i h l m b =
      let s = node_stands_lem j m in
      from_child i j (λ c p q r. within_by k c i (omega arith) q (omega (arith, s.within)) r) (node_of ds j) (node_of ds j).children (suc j) (omega arith)
      (children j m) s.within (omega arith) b

  pub within : (j i : ℕ) → j < i → j < length ds → i < stop_of ds j → stop_of ds i ≤ stop_of ds j
  within j i l m b = within_by i j i (omega arith) l m b

-- ---- depth: a node inside another lies deeper

bit : Bool → ℕ
bit b = test b then 1 else 0

bit_le : (a b : Bool) → (a ≡ true → b ≡ true) → bit a ≤ bit b
unfolding bit test◌then◌else◌
bit_le true b h = rw (h refl) (omega arith)
bit_le false b h = omega arith

-- i and c, and the nodes xs, numbered from k: each that holds i holds c
module _ (i c : ℕ) (l : i < c) where
  Holds : ℕ → List Node → Type 0
  Holds k [] = Unit {0}
  Holds k (d ∷ ds) = ((k ≤ i) → i < d.stop → c < d.stop) × Holds (suc k) ds

  here_le : (k : ℕ) (d : Node) → ((k ≤ i) → i < d.stop → c < d.stop) → bit (leb k i and ltb i d.stop) ≤ bit (leb k c and ltb c d.stop)
  here_le k d h =
      bit_le _ _
      (λ t. let a = leb-true k i (and_left _ _ t) in both _ _ (le-leb k c (omega arith)) (lt-ltb c d.stop (h a (ltb-true i d.stop (and_right _ _ t)))))

  depth_le : (k : ℕ) (xs : List Node) → Holds k xs → depth i k xs ≤ depth c k xs
  unfolding depth Holds bit
  depth_le k [] h = omega arith
  depth_le k (d ∷ ds) h = omega (arith, here_le k d h.0, depth_le (suc k) ds h.1)

  -- c itself holds c and not i
  Own : ℕ → List Node → Type 0
  Own k [] = Unit {0}
  Own k (d ∷ ds) = (k ≡ c → c < d.stop) × Own (suc k) ds

  own_bits : (k : ℕ) (d : Node) → k ≡ c → c < d.stop → (bit (leb k i and ltb i d.stop) ≡ 0) × (bit (leb k c and ltb c d.stop) ≡ 1)
  unfolding bit test◌then◌else◌ ◌and◌
  own_bits k d e h = (rw (lt-leb k i (omega arith)), rw (le-leb k c (omega arith), lt-ltb c d.stop h))

  one_more : (k : ℕ) (xs : List Node) → Holds k xs → Own k xs → k ≤ c → c < k + length xs → suc (depth i k xs) ≤ depth c k xs
  unfolding depth Holds Own bit
  one_more k [] h o a b = absurd (omega arith)
  one_more k (d ∷ ds) h o a b = elim (ℕ_discrete k c) [
    | yes e ↦ let t = own_bits k d e (o.0 e) in omega (arith, t.0, t.1, depth_le (suc k) ds h.1)
    | no e ↦ let m : k < c = omega (arith, lt_of_le-ne a e) in
        omega (arith, here_le k d h.0, one_more (suc k) ds h.1 o.1 m (omega arith))
  ]

  holds_from : (k : ℕ) (xs : List Node) (d : Node) → ((m : ℕ) → m < length xs → k + m ≤ i → i < (get_or xs m d).stop → c < (get_or xs m d).stop) → Holds k xs
  unfolding Holds
  holds_from k [] d f = tt
  holds_from k (x ∷ xs) d f = (λ a b. f 0 (omega arith) (omega arith) b, holds_from (suc k) xs d (λ m h a b. f (suc m) (omega arith) (omega arith) b))

  own_from : (k : ℕ) (xs : List Node) (d : Node) → ((m : ℕ) → m < length xs → k + m ≡ c → c < (get_or xs m d).stop) → Own k xs
  unfolding Own
  own_from k [] d f = tt
  own_from k (x ∷ xs) d f = (λ e. f 0 (omega arith) (omega arith), own_from (suc k) xs d (λ m h e. f (suc m) (omega arith) (omega arith)))

-- a node inside node i lies deeper than i
pub deeper : {N : ℕ} {ds : List Node} → Nested N ds → (i c : ℕ) → i < c → i < length ds → c < stop_of ds i → suc (depth i 0 ds) ≤ depth c 0 ds
unfolding stop_of node_of
deeper {N} {ds} s i c l m b =
    let none : Node = record { kind = 0; arg = 0; children = 0; stop = 0; span_start = 0; span_end = 0 } in
    let top = (node_stands_lem s i m).within in
    one_more i c l 0 ds
    (holds_from i c l 0 ds none (λ j h a k. elim (dec_lt j i) [ yes p ↦ omega (arith, within s j i p h k) | no p ↦ let e : j ≡ i = omega arith in rw e b ]))
    (own_from i c l 0 ds none (λ j h e. omega (arith, (node_stands_lem s j h).above)))
    (omega arith) (omega arith)

-- ---- and a child lies exactly one deeper

-- every node between i and c ends before c: what stands there are c's elder siblings, with all below them
pub record Between (ds : List Node) (i c : ℕ) : Type 0 where
  pub ended : (j : ℕ) → i < j → j < c → stop_of ds j ≤ c

pub between_first : {ds : List Node} (i : ℕ) → Between ds i (suc i)
between_first i = record { ended = λ j a b. absurd (omega arith) }

pub between_next : {N : ℕ} {ds : List Node} → Nested N ds → (i c : ℕ) → c < length ds → Between ds i c → Between ds i (stop_of ds c)
unfolding stop_of
between_next {N} {ds} s i c h b =
    let f = (node_stands_lem s c h).above in
    record {
      ended = λ j p q. elim (dec_lt j c) [
        | yes l ↦ omega (arith, b.ended j p l)
        | no l ↦ elim (dec_lt c j) [ yes m ↦ within s c j m h q | no m ↦ let e : j ≡ c = omega arith in rw e (omega arith) ]
      ];
    }

module _ (i c : ℕ) (l : i < c) where
  -- of the nodes xs, numbered from k: what is at or before i and holds c holds i, and what is between holds not c
  Passes : ℕ → List Node → Type 0
  Passes k [] = Unit {0}
  Passes k (d ∷ ds) = ((i < k) → (k < c) → d.stop ≤ c) × Passes (suc k) ds

  none_behind : (k : ℕ) (xs : List Node) → c < k → depth c k xs ≡ 0
  unfolding depth bit test◌then◌else◌ ◌and◌
  none_behind k [] h = refl
  none_behind k (d ∷ ds) h = rw (lt-leb k c h) (omega (arith, none_behind (suc k) ds (omega arith)))

  and_no : (a b : Bool) → b ≡ false → (a and b) ≡ false
  unfolding ◌and◌
  and_no true b e = e
  and_no false b e = refl

  not_between : (k : ℕ) (d : Node) → d.stop ≤ c → bit (leb k c and ltb c d.stop) ≡ 0
  unfolding bit test◌then◌else◌
  not_between k d h = rw (and_no (leb k c) (ltb c d.stop) (le-ltb c d.stop h))

  at_or_before : (k : ℕ) (d : Node) → k ≤ i → bit (leb k c and ltb c d.stop) ≤ bit (leb k i and ltb i d.stop)
  at_or_before k d h =
      bit_le _ _ (λ t. both _ _ (le-leb k i h) (lt-ltb i d.stop (omega (arith, ltb-true c d.stop (and_right _ _ t)))))

  bit_one : (b : Bool) → bit b ≤ 1
  unfolding bit test◌then◌else◌
  bit_one true = omega arith
  bit_one false = omega arith

  one_at_most : (k : ℕ) (xs : List Node) → Passes k xs → depth c k xs ≤ suc (depth i k xs)
  unfolding depth Passes bit
  one_at_most k [] p = omega arith
  one_at_most k (d ∷ ds) p = elim (dec_lt i k) [
    | no a ↦ omega (arith, at_or_before k d (omega arith), one_at_most (suc k) ds p.1)
    | yes a ↦ elim (dec_lt k c) [
      | yes b ↦ omega (arith, not_between k d (p.0 a b), one_at_most (suc k) ds p.1)
      | no b ↦ omega (arith, bit_one (leb k c and ltb c d.stop), none_behind (suc k) ds (omega arith))
    ]
  ]

  passes_from : (k : ℕ) (xs : List Node) (d : Node) → ((m : ℕ) → m < length xs → i < k + m → k + m < c → (get_or xs m d).stop ≤ c) → Passes k xs
  unfolding Passes
  passes_from k [] d f = tt
  passes_from k (x ∷ xs) d f = (λ a b. f 0 (omega arith) (omega arith) (omega arith), passes_from (suc k) xs d (λ m h a b. f (suc m) (omega arith) (omega arith) (omega arith)))

-- c starts inside node i, and what stands between them has ended: c is a child of i
pub one_deeper : {N : ℕ} {ds : List Node} → Nested N ds → (i c : ℕ) → i < c → i < length ds → c < stop_of ds i → Between ds i c
    → depth c 0 ds ≡ suc (depth i 0 ds)
unfolding stop_of node_of
one_deeper {N} {ds} s i c l m b w =
    let none : Node = record { kind = 0; arg = 0; children = 0; stop = 0; span_start = 0; span_end = 0 } in
    omega (arith, deeper s i c l m b, one_at_most i c l 0 ds (passes_from i c l 0 ds none (λ j h p q. rw zero-add at (w.ended (0 + j) p q))))
