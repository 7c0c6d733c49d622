-- Rows of children: where each lies, that it may be as deep as is left, and where they end.
use mathlib.Core.Path.{◌≡◌, sym, ap, ◌∙◌}
use mathlib.Core.List.{List}
use Prim.Native.Nat.{ℕ, zero, suc, ◌+◌, ◌-◌, ◌≤◌, ◌<◌}
use native.Mathlib.Numerals.{sub-one, add-one}
use native.Mathlib.Omega.{arith}
use lib.ListN.{length}
use Rattle.meaning.specs.Image.{Node, node_count, nodes_of, node_of}
use Rattle.meaning.specs.Decode.{stop_of, past}
use Rattle.meaning.proofs.Faults.{Sound, sizes}
use Rattle.meaning.proofs.Nesting.{sound_nested, nodes_many, Child, child, children_past, children, node_stands_lem, deeper}
use Rattle.image.specs.declared.Cursor.{Cursor}
use Rattle.image.specs.declared.Read.{Read}
use Rattle.image.specs.Parts.{Moved, node_means}
use Rattle.expr.specs.Contract.{At, Inner, Row}

module _ {bs : List ℕ} (s : Sound bs) where
  -- ---- one node

  pub many : {i : ℕ} → i < node_count bs → i < length (nodes_of bs)
  many h = rw (nodes_many bs) h

  pub ends_after : {i : ℕ} → i < node_count bs → i < stop_of (nodes_of bs) i
  unfolding stop_of
  ends_after {i} h = (node_stands_lem (sound_nested s) i (many h)).above

  pub ends_within : {i : ℕ} → i < node_count bs → stop_of (nodes_of bs) i ≤ node_count bs
  unfolding stop_of
  ends_within {i} h = rw (nodes_many bs) at (node_stands_lem (sound_nested s) i (many h)).within

  -- ---- the first of a row

  module _ {i n d : ℕ} (r : Row bs i (suc n) d) where
    first : Child (nodes_of bs) (node_of (nodes_of bs) r.parent) i (n + r.more)
    first = let e : suc n + r.more ≡ suc (n + r.more) = omega arith in child (rw e at r.children)

    below_parent : (node_of (nodes_of bs) r.parent).stop ≤ node_count bs
    below_parent = rw (nodes_many bs) at (node_stands_lem (sound_nested s) r.parent (many r.there)).within

    here : i < node_count bs
    here = omega (arith, first.inside, below_parent)

    at_suc : At bs i d
    unfolding stop_of
    at_suc = record {
      there = here;
      deep = omega (arith, r.deep, deeper (sound_nested s) r.parent i r.behind (many r.there) first.inside);
    }

    next_suc : Row bs (stop_of (nodes_of bs) i) n d
    next_suc = record {
      parent = r.parent;
      more = r.more;
      there = r.there;
      behind = omega (arith, r.behind, ends_after here);
      children = first.rest;
      deep = r.deep;
    }

  pub row_at : {i d : ℕ} (n : ℕ) → 0 < n → Row bs i n d → At bs i d
  row_at zero h r = absurd (omega arith)
  row_at (suc n) h r = at_suc r

  pub row_next : {i d : ℕ} (n : ℕ) → 0 < n → Row bs i n d → Row bs (stop_of (nodes_of bs) i) (n - 1) d
  row_next zero h r = absurd (omega arith)
  row_next (suc n) h r = rw sub-one (next_suc r)

  -- ---- the first m of a row

  pub row_take : {i d : ℕ} (n m : ℕ) → m ≤ n → Row bs i n d → Row bs i m d
  row_take n m h r = let e : n + r.more ≡ m + (n - m + r.more) = omega arith in record {
    parent = r.parent;
    more = n - m + r.more;
    there = r.there;
    behind = r.behind;
    children = rw e at r.children;
    deep = r.deep;
  }

  -- what is left behind m of them
  pub row_drop : {i d : ℕ} (n m : ℕ) → m ≤ n → Row bs i n d → Row bs (past (nodes_of bs) m i) (n - m) d
  unfolding past
  row_drop {i = i} {d = d} n zero h r = let e : n - 0 ≡ n = omega arith in rw e r
  row_drop {i = i} {d = d} zero (suc m) h r = absurd (omega arith)
  row_drop {i = i} {d = d} (suc n) (suc m) h r = let e : suc n - suc m ≡ n - m = omega arith in rw e (row_drop {i = stop_of (nodes_of bs) i} {d = d} n m (omega arith) (next_suc r))

  -- each node takes a place at least
  pub row_long : {i d : ℕ} (n : ℕ) → Row bs i n d → i + n ≤ past (nodes_of bs) n i
  unfolding past
  row_long {i = i} {d = d} zero r = omega arith
  row_long {i = i} {d = d} (suc n) r = omega (arith, row_long {i = stop_of (nodes_of bs) i} {d = d} n (next_suc r), ends_after (here r))

  pub past_past : (i n m : ℕ) → m ≤ n → past (nodes_of bs) (n - m) (past (nodes_of bs) m i) ≡ past (nodes_of bs) n i
  unfolding past
  past_past i n zero h = let e : n - 0 ≡ n = omega arith in rw e
  past_past i zero (suc m) h = absurd (omega arith)
  past_past i (suc n) (suc m) h = let e : suc n - suc m ≡ n - m = omega arith in rw e (past_past (stop_of (nodes_of bs) i) n m (omega arith))

  -- ---- a node's children

  pub row_of : {i d : ℕ} {node : Node} → Inner bs i d node → Row bs (suc i) node.children d
  row_of {i} {d} {node} r = record {
    parent = i;
    more = 0;
    there = r.there;
    behind = omega arith;
    children = rw (r.read, add_zero') (children (sound_nested s) i (many r.there));
    deep = r.deep;
  }
    where
      add_zero' : (node_of (nodes_of bs) i).children + 0 ≡ (node_of (nodes_of bs) i).children
      add_zero' = omega arith

  pub row_ends : {i d : ℕ} {node : Node} → Inner bs i d node → past (nodes_of bs) node.children (suc i) ≡ stop_of (nodes_of bs) i
  unfolding stop_of
  row_ends {i} r = rw r.read (children_past _ (suc i) (children (sound_nested s) i (many r.there)))

  pub shallow : {i d : ℕ} → At bs i d → 0 < d
  shallow {i} {d} h = omega (arith, h.deep, (sound_nested s).shallow i (many h.there))

  pub inner : {i d : ℕ} {node : Node} → At bs i d → node ≡ node_of (nodes_of bs) i → Inner bs i (d - 1) node
  inner h e = record { there = h.there; deep = omega (arith, h.deep, shallow h); read = e }

  -- a node's number fits a word
  pub few : {i : ℕ} → i < node_count bs → i < 2048
  few h = omega (arith, h, (sizes s.headed).nodes)

  pub few_nodes : node_count bs ≤ 4294967296
  few_nodes = omega (arith, (sizes s.headed).nodes)

-- ---- a node that was read

-- node i is there, of kind k, and its first child is at `from`
pub record Opened (bs : List ℕ) (i d : ℕ) (node : Node) (k from : ℕ) : Type 0 where
  pub inner : Inner bs i d node
  pub kind : node.kind ≡ k
  pub first : from ≡ suc i

pub opened : {bs : List ℕ} {c : Cursor} {r : Read} {d k : ℕ} → Moved bs c r (c.at + 1)
    → Inner bs c.at d (node_of (nodes_of bs) c.at) × ((node_of (nodes_of bs) c.at).kind ≡ k)
    → Opened bs c.at d (node_means r.node) k r.cursor.at
opened m o = record {
  inner = rw m.node o.0;
  kind = ap (λ y. y.kind) m.node ∙ o.1;
  first = m.at ∙ add-one _;
}

-- its first child was passed over, and what comes next is at `from`
pub record Behind (bs : List ℕ) (i : ℕ) (child : Node) (from : ℕ) : Type 0 where
  pub read : child ≡ node_of (nodes_of bs) (suc i)
  pub next : from ≡ child.stop

pub behind : {bs : List ℕ} {i d : ℕ} {node : Node} {k : ℕ} {c : Cursor} {r : Read} → Opened bs i d node k c.at
    → Moved bs c r (node_of (nodes_of bs) c.at).stop → Behind bs i (node_means r.node) r.cursor.at
behind o m = record { read = rw o.first at m.node; next = m.at ∙ sym (ap (λ y. y.stop) m.node) }

pub no_binary : {m n : Node} → m ≡ n → (m.kind ≡ 23 → ⊥) → n.kind ≡ 23 → ⊥
no_binary p z e = z (ap (λ y. y.kind) p ∙ e)
