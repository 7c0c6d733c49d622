-- What one node that stands gives, and a turn of the walk over its children. Assumes nothing.
use mathlib.Core.Path.{◌≡◌, refl}
use mathlib.Core.Bool.{true, false}
use mathlib.Core.Option.{none}
use mathlib.Core.List.{List}
use Prim.Native.Nat.{◌+◌, ℕ, zero, suc, ◌-◌, ◌<◌, ◌≤◌}
use native.Mathlib.Nat.{zero-add}
use native.Mathlib.Numerals.{sub-one}
use native.Mathlib.Omega.{arith}
use lib.Dec.{eqb}
use borrow.Author.Tests.{lt-ltb, le-ltb}
use Rattle.meaning.specs.Base.{◌and◌, ◌or◌}
use Rattle.meaning.specs.Image.{Node, name_count, node_count, nodes_of, node_of, node_stands, belongs, lands, nests, broken_node}
use Rattle.meaning.proofs.Choices.{and_true, and_false, none_failing}
use Rattle.meaning.proofs.Faults.{Headed, sizes}
use Rattle.meaning.proofs.Nesting.{Stands, stands, nodes_many}
use Rattle.image.specs.Kinds.{root_stands}

-- ---- one node

abbrev pub no_node : Node
no_node = record { kind = 0; arg = 0; children = 0; stop = 0; span_start = 0; span_end = 0 }

pub node_stands_lem : (bs : List ℕ) → broken_node bs ≡ none → (i : ℕ) → i < node_count bs → Stands (name_count bs) (node_count bs) i (node_of (nodes_of bs) i)
unfolding broken_node node_of
node_stands_lem bs e i h =
    stands (rw zero-add at (none_failing (node_stands (name_count bs) (node_count bs)) 0 (nodes_of bs) no_node e i (rw nodes_many h)))

-- so each end has its place in a table of 2,049
pub stop_below : {bs : List ℕ} → Headed bs → broken_node bs ≡ none → (i : ℕ) → i < node_count bs → (node_of (nodes_of bs) i).stop < 2049
stop_below {bs} h e i l = omega (arith, (node_stands_lem bs e i l).within, sizes h)

-- ---- the children of d of which `left` start at i

module _ (ds : List Node) (d : Node) (i : ℕ) where
  pub lands_end : (left : ℕ) → left ≤ 0 → lands ds d i left ≡ eqb i d.stop
  unfolding lands
  lands_end zero h = refl
  lands_end (suc left) h = absurd (omega arith)

  lands_none : (left : ℕ) → 0 < left → d.stop ≤ i → lands ds d i left ≡ false
  unfolding lands ◌and◌
  lands_none zero h u = absurd (omega arith)
  lands_none (suc left) h u = rw (le-ltb i d.stop u)

  lands_not : (left : ℕ) → 0 < left → i < d.stop → belongs d.kind d.children (d.children - left) (node_of ds i).kind ≡ false → lands ds d i left ≡ false
  unfolding lands ◌and◌
  lands_not zero h u e = absurd (omega arith)
  lands_not (suc left) h u e = rw (lt-ltb i d.stop u, e)

  lands_on : (left : ℕ) → 0 < left → i < d.stop → belongs d.kind d.children (d.children - left) (node_of ds i).kind ≡ true
      → lands ds d i left ≡ lands ds d (node_of ds i).stop (left - 1)
  unfolding lands ◌and◌
  lands_on zero h u e = absurd (omega arith)
  lands_on (suc left) h u e = rw (lt-ltb i d.stop u, e, sub-one)

  -- at child j
  module _ (j : ℕ) (h : j < d.children) where
    turned : d.children - (d.children - j) ≡ j
    turned = omega arith

    one_less : d.children - j - 1 ≡ d.children - (j + 1)
    one_less = omega arith

    pub lands_past : d.stop ≤ i → lands ds d i (d.children - j) ≡ false
    lands_past u = lands_none (d.children - j) (omega arith) u

    pub lands_wrong : i < d.stop → belongs d.kind d.children j (node_of ds i).kind ≡ false → lands ds d i (d.children - j) ≡ false
    lands_wrong u e = lands_not (d.children - j) (omega arith) u (rw turned e)

    pub lands_next : i < d.stop → belongs d.kind d.children j (node_of ds i).kind ≡ true
        → lands ds d i (d.children - j) ≡ lands ds d (node_of ds i).stop (d.children - (j + 1))
    lands_next u e = rw (← one_less) (lands_on (d.children - j) (omega arith) u (rw turned e))

-- ---- node 0, which is looked at by itself

module _ (ds : List Node) where
  pub nests_not : root_stands ds ≡ false → nests ds 0 (node_of ds 0) ≡ false
  unfolding nests root_stands ◌or◌
  nests_not e = rw (e, and_false)

  pub nests_all : root_stands ds ≡ true → (i : ℕ) → nests ds i (node_of ds i) ≡ lands ds (node_of ds i) (suc i) (node_of ds i).children
  unfolding nests root_stands ◌or◌
  nests_all e zero = rw (e, and_true)
  nests_all e (suc i) = rw (lt-ltb 0 (suc i) (omega arith), and_true)
