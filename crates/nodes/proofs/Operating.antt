-- Nodes whose children are all checked: what the check of such a node is, by its children's checks; and what a sound image gives of them.
use mathlib.Core.Path.{◌≡◌, refl}
use mathlib.Core.Bool.{true}
use mathlib.Core.List.{List, [], ◌∷◌, ◌++◌}
use Prim.Native.Nat.{ℕ, suc, ◌≤◌, ◌<◌}
use native.Mathlib.Omega.{arith}
use native.Mathlib.Decide.{ℕ_discrete}
use borrow.Author.Tests.{eqb-true, leb-true}
use lib.ListN.{length}
use Rattle.meaning.specs.Base.{choose, test◌then◌else◌}
use Rattle.meaning.specs.Types.{Ty}
use Rattle.meaning.specs.Image.{Name, Node, node_of, nodes_of, nodes_from, node_count, arg_below, count_stands}
use Rattle.meaning.specs.Tree.{Expr, place}
use Rattle.meaning.specs.Decode.{stop_of, exprs_from, form_at, binary_of}
use Rattle.meaning.specs.Frames.{Frames}
use Rattle.meaning.specs.Operators.{Checked, ok, refused, ◌>>=◌, binary_rule}
use Rattle.meaning.specs.Rules.{Children, each, each_then, check, check_form, check_all}
use Rattle.meaning.proofs.Faults.{Sound}
use Rattle.meaning.proofs.Nesting.{Nested, nodes_many, sound_nested, node_stands_lem, children, child}
use Rattle.meaning.proofs.Decoding.{unary_at, binary_at, attribute_at, tuple_at, set_at, tree_set_at, index_at}
use Rattle.types.specs.Table.{Tab}
use Rattle.types.specs.Steps.{Listed}
use Rattle.image.specs.declared.Cursor.{Cursor}
use Rattle.nodes.specs.Operands.{operand_rule, Decidable}

-- ---- what a node's record gives

one_child : (c : ℕ) → count_stands 22 c ≡ true → c ≡ 1
unfolding count_stands choose test◌then◌else◌
one_child c e = eqb-true c 1 e

two_children : (c : ℕ) → count_stands 23 c ≡ true → c ≡ 2
unfolding count_stands choose test◌then◌else◌
two_children c e = eqb-true c 2 e

a_callee : (c : ℕ) → count_stands 24 c ≡ true → 1 ≤ c
unfolding count_stands choose test◌then◌else◌
a_callee c e = leb-true 1 c e

one_object : (c : ℕ) → count_stands 25 c ≡ true → c ≡ 1
unfolding count_stands choose test◌then◌else◌
one_object c e = eqb-true c 1 e

two_parts : (c : ℕ) → count_stands 31 c ≡ true → c ≡ 2
unfolding count_stands choose test◌then◌else◌
two_parts c e = eqb-true c 2 e

three_args : (N : ℕ) → arg_below N 22 ≡ 3
unfolding arg_below choose test◌then◌else◌
three_args N = refl

fourteen_args : (N : ℕ) → arg_below N 23 ≡ 14
unfolding arg_below choose test◌then◌else◌
fourteen_args N = refl

module _ {N : ℕ} {ds : List Node} (s : Nested N ds) (i : ℕ) (h : i < length ds) where
  pub unary_node : (node_of ds i).kind ≡ 22 → ((node_of ds i).arg < 3) × ((node_of ds i).children ≡ 1)
  unary_node k =
      let t = node_stands_lem s i h in (rw (k, three_args N) at t.arg, one_child _ (rw k at t.count))

  pub binary_node : (node_of ds i).kind ≡ 23 → ((node_of ds i).arg < 14) × ((node_of ds i).children ≡ 2)
  binary_node k =
      let t = node_stands_lem s i h in (rw (k, fourteen_args N) at t.arg, two_children _ (rw k at t.count))

  pub call_node : (node_of ds i).kind ≡ 24 → 1 ≤ (node_of ds i).children
  call_node k = a_callee _ (rw k at (node_stands_lem s i h).count)

  pub attribute_node : (node_of ds i).kind ≡ 25 → (node_of ds i).children ≡ 1
  attribute_node k = one_object _ (rw k at (node_stands_lem s i h).count)

  -- the first two children are nodes
  pub index_node : (node_of ds i).kind ≡ 31 → ((node_of ds i).children ≡ 2) × (suc i < length ds) × (stop_of ds (suc i) < length ds)
  index_node k =
      let t = node_stands_lem s i h in
      let e = two_parts _ (rw k at t.count) in
      let first = child {n = 1} (rw e at (children s i h)) in
      let second = child {n = 0} first.rest in
      (e, omega (arith, first.inside, t.within), omega (arith, second.inside, t.within))

-- what `decide` asks of a node of a sound image
pub decidable : {bs : List ℕ} {c : Cursor} {t : Tab} {st : List ℕ} {sp : ℕ} {d : Node} → Sound bs → c.nodes ≡ nodes_from bs → c.at < node_count bs
    → d ≡ node_of (nodes_of bs) c.at → Listed t st sp d.children → length st ≡ 2048 → Decidable bs c t st sp d
decidable {bs} {c} {d = d} s n h e l m =
    let nested = sound_nested s in
    let many = nodes_many bs in
    let i : ℕ = c.at in
    let inside : i < length (nodes_of bs) = omega arith in
    record {
      headed = s.headed;
      nodes_at = n;
      there = h;
      node = e;
      listed = l;
      stack = m;
      unary = λ k. rw (← e) at (unary_node nested i inside (rw (← e) k));
      index = λ k. rw (← e, many) at (index_node nested i inside (rw (← e) k));
    }

-- ---- checks of all children

pub bind_ext : (r : Checked) (f g : Ty → Checked) → ((t : Ty) → f t ≡ g t) → (r >>= f) ≡ (r >>= g)
unfolding ◌>>=◌
bind_ext (ok t) f g e = e t
bind_ext (refused q) f g e = refl

-- what does not look at the types does not look at those before
pub each_const : (cs : Children) (f g : List Ty → Checked) (ts us : List Ty) → ((xs ys : List Ty) → f xs ≡ g ys) → each cs f ts ≡ each cs g us
unfolding each
each_const [] f g ts us e = e ts us
each_const (c ∷ cs) f g ts us e =
    bind_ext c.1 _ _ (λ t. each_const cs f g (ts ++ (t ∷ [])) (us ++ (t ∷ [])) e)

-- ---- operands

module _ {N : ℕ} {ds : List Node} (s : Nested N ds) (ws : List Name) (Γ : Frames) (e : ℕ → Expr) (placed : (j : ℕ) → place (e j) ≡ j)
    (i : ℕ) (h : i < length ds) where
  operands_22 : (node_of ds i).kind ≡ 22 → check_form ws Γ i (form_at ds e i)
      ≡ each (check_all ws Γ (exprs_from ds e (node_of ds i).children (suc i)))
      (operand_rule (node_of ds i).kind (node_of ds i).arg i (suc i) (stop_of ds (suc i))) []
  unfolding check check_all check_form exprs_from each operand_rule choose test◌then◌else◌
  operands_22 k = rw (unary_at ds e i k, (unary_node s i h k).1, k)

  operands_23 : (node_of ds i).kind ≡ 23 → check_form ws Γ i (form_at ds e i)
      ≡ each (check_all ws Γ (exprs_from ds e (node_of ds i).children (suc i)))
      (operand_rule (node_of ds i).kind (node_of ds i).arg i (suc i) (stop_of ds (suc i))) []
  unfolding check check_all check_form exprs_from each operand_rule choose test◌then◌else◌
  operands_23 k = rw (binary_at ds e i k, (binary_node s i h k).1, k)

  operands_28 : (node_of ds i).kind ≡ 28 → check_form ws Γ i (form_at ds e i)
      ≡ each (check_all ws Γ (exprs_from ds e (node_of ds i).children (suc i)))
      (operand_rule (node_of ds i).kind (node_of ds i).arg i (suc i) (stop_of ds (suc i))) []
  unfolding check_form operand_rule choose test◌then◌else◌
  operands_28 k = rw (tuple_at ds e i k, k)

  operands_29 : (node_of ds i).kind ≡ 29 → check_form ws Γ i (form_at ds e i)
      ≡ each (check_all ws Γ (exprs_from ds e (node_of ds i).children (suc i)))
      (operand_rule (node_of ds i).kind (node_of ds i).arg i (suc i) (stop_of ds (suc i))) []
  unfolding check_form each_then operand_rule choose test◌then◌else◌
  operands_29 k = rw (set_at ds e i k, k)

  operands_30 : (node_of ds i).kind ≡ 30 → check_form ws Γ i (form_at ds e i)
      ≡ each (check_all ws Γ (exprs_from ds e (node_of ds i).children (suc i)))
      (operand_rule (node_of ds i).kind (node_of ds i).arg i (suc i) (stop_of ds (suc i))) []
  unfolding check_form each_then operand_rule choose test◌then◌else◌
  operands_30 k = rw (tree_set_at ds e i k, k)

  operands_31 : (node_of ds i).kind ≡ 31 → check_form ws Γ i (form_at ds e i)
      ≡ each (check_all ws Γ (exprs_from ds e (node_of ds i).children (suc i)))
      (operand_rule (node_of ds i).kind (node_of ds i).arg i (suc i) (stop_of ds (suc i))) []
  unfolding check check_all check_form exprs_from each operand_rule choose test◌then◌else◌
  operands_31 k = rw (index_at ds e i k, (index_node s i h k).0, k, placed (suc i), placed (stop_of ds (suc i)))

  -- Unary and Binary
  pub operands_low : 22 ≤ (node_of ds i).kind → (node_of ds i).kind ≤ 23 → check_form ws Γ i (form_at ds e i)
      ≡ each (check_all ws Γ (exprs_from ds e (node_of ds i).children (suc i)))
      (operand_rule (node_of ds i).kind (node_of ds i).arg i (suc i) (stop_of ds (suc i))) []
  operands_low a b = elim (ℕ_discrete (node_of ds i).kind 22) [ yes k ↦ operands_22 k | no k ↦ operands_23 (omega arith) ]

  pub operands_attribute : (node_of ds i).kind ≡ 25 → check_form ws Γ i (form_at ds e i)
      ≡ each (check_all ws Γ (exprs_from ds e (node_of ds i).children (suc i)))
      (operand_rule (node_of ds i).kind (node_of ds i).arg i (suc i) (stop_of ds (suc i))) []
  unfolding check check_all check_form exprs_from each operand_rule choose test◌then◌else◌
  operands_attribute k = rw (attribute_at ds e i k, attribute_node s i h k, k)

  -- Tuple, Set, TreeSet and Index
  pub operands_high : 28 ≤ (node_of ds i).kind → (node_of ds i).kind ≤ 31 → check_form ws Γ i (form_at ds e i)
      ≡ each (check_all ws Γ (exprs_from ds e (node_of ds i).children (suc i)))
      (operand_rule (node_of ds i).kind (node_of ds i).arg i (suc i) (stop_of ds (suc i))) []
  operands_high a b = elim (ℕ_discrete (node_of ds i).kind 28) [
    | yes k ↦ operands_28 k
    | no n ↦ elim (ℕ_discrete (node_of ds i).kind 29) [
      | yes k ↦ operands_29 k
      | no m ↦ elim (ℕ_discrete (node_of ds i).kind 30) [ yes k ↦ operands_30 k | no k ↦ operands_31 (omega arith) ]
    ]
  ]

  -- a Binary by its two operands
  pub binary_form : (node_of ds i).kind ≡ 23 → check_form ws Γ i (form_at ds e i)
      ≡ (check ws Γ (e (suc i)) >>= λ a. check ws Γ (e (stop_of ds (suc i))) >>= λ b. binary_rule i (binary_of (node_of ds i).arg) a b)
  unfolding check_form
  binary_form k = rw (binary_at ds e i k)
