-- Nodes: what is asked for their children, and what they give after them.
use mathlib.Core.Path.{◌≡◌, refl, ◌∙◌}
use mathlib.Core.List.{List, [], map}
use Prim.Native.Nat.{ℕ, zero, suc, ◌-◌, ◌≤◌, ◌<◌}
use native.Mathlib.Omega.{arith}
use native.Mathlib.Decide.{ℕ_discrete, dec_lt}
use lib.ListN.{length, take, drop}
use Rattle.meaning.specs.Types.{unknown}
use Rattle.meaning.specs.Tree.{place}
use Rattle.meaning.specs.Image.{Node, node_count, nodes_of, node_of, names_of, name_of, name_count, arg_below}
use Rattle.meaning.specs.Base.{choose, test◌then◌else◌}
use Rattle.meaning.specs.Decode.{expr_at, form_at, stop_of, past}
use Rattle.meaning.specs.Frames.{Frames}
use Rattle.meaning.specs.Operators.{Checked}
use Rattle.meaning.specs.Rules.{check_form, each, list_rule, dict_rule, name_rule}
use Rattle.meaning.proofs.Faults.{Sound}
use Rattle.meaning.proofs.Nesting.{sound_nested, nodes_many, node_stands_lem}
use Rattle.meaning.proofs.Decoding.{list_at, dict_at}
use Rattle.types.specs.Table.{Tab, denote}
use Rattle.types.specs.Steps.{Listed}
use Rattle.frames.specs.Env.{Rows, frames_of}
use Rattle.image.specs.declared.Cursor.{Cursor}
use Rattle.state.specs.Giving.{Given}
use Rattle.nodes.specs.Operands.{operand_rule, Decidable}
use Rattle.nodes.proofs.Operating.{decidable, operands_low, operands_attribute, operands_high, call_node}
use Rattle.nodes.proofs.Calling.{call_other, call_name}
use Rattle.expr.specs.Contract.{Ready, At, Inner, Row, Fine, Done, Values, checks, Operand}
use Rattle.expr.proofs.Rows.{Opened, Behind, row_of, row_ends, row_at, row_long, shallow}
use Rattle.expr.proofs.Leaving.{fine_up, ready_narrow}
use Rattle.expr.proofs.Telling.{told_as, told_ill, done_given, done_as}

-- ---- the children of node i

module _ {bs : List ℕ} {nodes : ℕ} {fs : Rows} {top : ℕ} {t : Tab} {st : List ℕ} {sp i d : ℕ} {node : Node}
    (r : Ready bs nodes fs top t st sp i (stop_of (nodes_of bs) i)) (o : Inner bs i d node) where
  pub children_row : {from n : ℕ} → from ≡ suc i → n ≡ node.children → Row bs from n d
  children_row e m = rw (e, m) (row_of r.sound o)

  pub children_end : (from n : ℕ) → from ≡ suc i → n ≡ node.children → past (nodes_of bs) n from ≡ stop_of (nodes_of bs) i
  children_end from n e m = rw (e, m) (row_ends r.sound o)

  pub children_before : {from n : ℕ} → from ≡ suc i → n ≡ node.children → Ready bs nodes fs top t st sp i (past (nodes_of bs) n from)
  children_before {from} {n} e m = rw (children_end from n e m) r

  pub children_ready : {from n : ℕ} → from ≡ suc i → n ≡ node.children → Ready bs nodes fs top t st sp from (past (nodes_of bs) n from)
  children_ready {from} e m = ready_narrow from _ (omega arith) (omega arith) (children_before e m)

  -- from what the children give to what the node gives
  pub node_done : {from n M code place number a b : ℕ} {u : Tab} {su : List ℕ} {c whole : Checked} → from ≡ suc i → n ≡ node.children → whole ≡ c
      → Done (names_of bs) c t u st su sp (from - 1) (past (nodes_of bs) n from) M code place number a b
      → Done (names_of bs) whole t u st su sp i (stop_of (nodes_of bs) i) M code place number a b
  node_done {from} {n} e m w x =
      let k : from - 1 ≡ i = omega arith in done_as w (rw (k, children_end from n e m) at x)

-- ---- nodes whose children are all checked first

module _ {bs : List ℕ} {nodes : ℕ} {fs : Rows} {top : ℕ} {t : Tab} {st : List ℕ} {sp i d : ℕ} {node : Node}
    (r : Ready bs nodes fs top t st sp i (stop_of (nodes_of bs) i)) (o : Inner bs i d node) (p : Operand bs i d)
    {u : Tab} {su : List ℕ} {from n code place a b : ℕ} (e : from ≡ suc i) (m : n ≡ node.children)
    (v : Values (names_of bs) (checks bs (frames_of t fs top) d n from) t u st su sp n from (past (nodes_of bs) n from) (node_count bs) code place a b) where
  pub operands_fine : Fine t u st su sp from (stop_of (nodes_of bs) i) n
  operands_fine = rw (children_end r o from n e m) at v.fine

  whole : check_form (names_of bs) (frames_of t fs top) i (form_at (nodes_of bs) (λ j. expr_at (nodes_of bs) d j) i)
      ≡ each (checks bs (frames_of t fs top) d n from) (operand_rule node.kind node.arg i (suc i) (stop_of (nodes_of bs) (suc i))) []
  whole = rw (m, e, o.read) (p.rule (frames_of t fs top))

  pub operands_refused : {number : ℕ} → (code ≡ 0 → ⊥)
      → Done (names_of bs) (check_form (names_of bs) (frames_of t fs top) i (form_at (nodes_of bs) (λ j. expr_at (nodes_of bs) d j) i)) t u st su sp i
      (stop_of (nodes_of bs) i) (node_count bs) code place number a b
  operands_refused z = record {
    told = told_as whole (told_ill _ z (v.told _ []));
    below = λ w. absurd (z w);
    fine = fine_up i (omega arith) operands_fine;
  }

  listed : code ≡ 0 → Listed u su sp n
  listed z =
      let l = row_long r.sound n (children_row r o e m) in
      let q = children_end r o from n e m in
      record {
        wf = v.fine.grown.wf;
        room = omega (arith, operands_fine.types_spent, operands_fine.grown.as_wide, r.types_room);
        space = omega (arith, operands_fine.elements_spent, operands_fine.grown.as_wide, r.elements_room);
        inside = omega (arith, r.stack_room, v.fine.stack, l, q);
        known = v.known z;
      }

  pub operands_decidable : {c : Cursor} → c.nodes ≡ nodes → c.at ≡ i → code ≡ 0 → Decidable bs c u su sp node
  operands_decidable f g z = decidable r.sound (f ∙ r.nodes_at) (rw g o.there) (rw g o.read) (rw m at (listed z)) v.fine.stack

  pub operands_done : {x : Tab} {code' place' number a' b' : ℕ} → code ≡ 0
      → Given (names_of bs) (operand_rule node.kind node.arg i (suc i) (stop_of (nodes_of bs) (suc i)) (map (denote u) (take node.children (drop sp su)))) u x
      node.children (node_count bs) code' place' number a' b'
      → Done (names_of bs) (check_form (names_of bs) (frames_of t fs top) i (form_at (nodes_of bs) (λ j. expr_at (nodes_of bs) d j) i)) t x st su sp i
      (stop_of (nodes_of bs) i) (node_count bs) code' place' number a' b'
  operands_done z g =
      done_as (whole ∙ (v.told _ []).well z ∙ rw m) (done_given i (omega arith) operands_fine node.children (omega (arith, m)) g)

pub own_place : (ds : List Node) (d j : ℕ) → place (expr_at ds d j) ≡ j
unfolding place expr_at
own_place ds zero j = refl
own_place ds (suc d) j = refl

-- the kinds that go by `operands`: neither Binary, Call, List nor Dict
pub record OfOperands (k : ℕ) : Type 0 where
  pub low : 22 ≤ k
  pub high : k ≤ 31
  pub binary : k ≡ 23 → ⊥
  pub call : k ≡ 24 → ⊥
  pub list : k ≡ 26 → ⊥
  pub dict : k ≡ 27 → ⊥

module _ {bs : List ℕ} {i d : ℕ} {node : Node} (s : Sound bs) (o : Inner bs i d node) where
  inside : i < length (nodes_of bs)
  inside = rw (nodes_many bs) o.there

  pub operand_low : 22 ≤ node.kind → node.kind ≤ 23 → Operand bs i d
  unfolding checks
  operand_low a b = record {
    rule = λ Γ. operands_low (sound_nested s) (names_of bs) Γ (λ j. expr_at (nodes_of bs) d j) (own_place (nodes_of bs) d) i inside (rw o.read at a) (rw o.read at b);
  }

  pub operand_attribute : node.kind ≡ 25 → Operand bs i d
  unfolding checks
  operand_attribute a = record {
    rule = λ Γ. operands_attribute (sound_nested s) (names_of bs) Γ (λ j. expr_at (nodes_of bs) d j) (own_place (nodes_of bs) d) i inside (rw o.read at a);
  }

  pub operand_high : 28 ≤ node.kind → node.kind ≤ 31 → Operand bs i d
  unfolding checks
  operand_high a b = record {
    rule = λ Γ. operands_high (sound_nested s) (names_of bs) Γ (λ j. expr_at (nodes_of bs) d j) (own_place (nodes_of bs) d) i inside (rw o.read at a) (rw o.read at b);
  }

  pub operand_any : OfOperands node.kind → Operand bs i d
  operand_any k = elim (dec_lt node.kind 24) [
    | yes l ↦ operand_low k.low (omega arith)
    | no n ↦ elim (ℕ_discrete node.kind 25) [
      | yes e ↦ operand_attribute e
      | no d ↦ operand_high (omega arith) k.high
    ]
  ]

-- ---- List and Dict

module _ {bs : List ℕ} {nodes : ℕ} {fs : Rows} {top : ℕ} {t : Tab} {st : List ℕ} {sp i d from n : ℕ} {node : Node}
    (r : Ready bs nodes fs top t st sp i (stop_of (nodes_of bs) i)) (m : n ≡ node.children)
    {u : Tab} {su : List ℕ} {M code place number a b : ℕ} where
  pub list_done : Opened bs i d node 26 from
      → Done (names_of bs) (list_rule unknown (checks bs (frames_of t fs top) d n from)) t u st su sp (from - 1) (past (nodes_of bs) n from) M code place number a b
      → Done (names_of bs) (check_form (names_of bs) (frames_of t fs top) i (form_at (nodes_of bs) (λ j. expr_at (nodes_of bs) d j) i)) t u st su sp i
      (stop_of (nodes_of bs) i) M code place number a b
  unfolding checks check_form
  list_done o x = node_done r o.inner o.first m whole x
    where
      whole : check_form (names_of bs) (frames_of t fs top) i (form_at (nodes_of bs) (λ j. expr_at (nodes_of bs) d j) i) ≡ list_rule unknown (checks bs (frames_of t fs top) d n from)
      whole = rw (o.first, m, o.inner.read, list_at (nodes_of bs) (λ j. expr_at (nodes_of bs) d j) i (rw o.inner.read at o.kind))

  pub dict_done : Opened bs i d node 27 from
      → Done (names_of bs) (dict_rule unknown unknown (checks bs (frames_of t fs top) d n from)) t u st su sp (from - 1) (past (nodes_of bs) n from) M code place number a b
      → Done (names_of bs) (check_form (names_of bs) (frames_of t fs top) i (form_at (nodes_of bs) (λ j. expr_at (nodes_of bs) d j) i)) t u st su sp i
      (stop_of (nodes_of bs) i) M code place number a b
  unfolding checks check_form
  dict_done o x = node_done r o.inner o.first m whole x
    where
      whole : check_form (names_of bs) (frames_of t fs top) i (form_at (nodes_of bs) (λ j. expr_at (nodes_of bs) d j) i) ≡ dict_rule unknown unknown (checks bs (frames_of t fs top) d n from)
      whole = rw (o.first, m, o.inner.read, dict_at (nodes_of bs) (λ j. expr_at (nodes_of bs) d j) i (rw o.inner.read at o.kind))

-- ---- calls

module _ {bs : List ℕ} {i d from : ℕ} {node : Node} (s : Sound bs) (o : Opened bs i d node 24 from) where
  call_inside : i < length (nodes_of bs)
  call_inside = rw (nodes_many bs) o.inner.there

  kind : (node_of (nodes_of bs) i).kind ≡ 24
  kind = rw o.inner.read at o.kind

  pub call_some : 1 ≤ node.children
  call_some = rw o.inner.read (call_node (sound_nested s) i call_inside kind)

  callee_at : At bs (suc i) d
  callee_at = row_at s node.children call_some (row_of s o.inner)

  pub callee_there : suc i < node_count bs
  callee_there = callee_at.there

  deep : suc (d - 1) ≡ d
  deep = omega (arith, shallow s callee_at)

  module _ {callee : Node} {after : ℕ} (c : Behind bs i callee after) where
    pub call_operand : (callee.kind ≡ 21 → ⊥) → Operand bs i d
    unfolding checks
    call_operand z = record {
      rule = λ Γ. rw deep at (call_other (sound_nested s) (names_of bs) Γ (d - 1) i call_inside kind (λ e. z (rw c.read e)));
    }

    pub name_there : callee.kind ≡ 21 → callee.arg < name_count bs
    unfolding arg_below choose test◌then◌else◌
    name_there e =
        let w = (node_stands_lem (sound_nested s) (suc i) (rw (nodes_many bs) callee_there)).arg in
        rw (← c.read, e) at w

    pub call_whole : (Γ : Frames) {n : ℕ} → callee.kind ≡ 21 → n ≡ node.children - 1
        → check_form (names_of bs) Γ i (form_at (nodes_of bs) (λ j. expr_at (nodes_of bs) d j) i)
        ≡ name_rule i (name_of (names_of bs) callee.arg) (name_of (names_of bs) callee.arg).role (checks bs Γ d n after)
    unfolding checks stop_of
    call_whole Γ {n} e m =
        rw (c.next, m, c.read, o.inner.read) (rw deep at (call_name (sound_nested s) (names_of bs) Γ (d - 1) i call_inside kind (rw c.read at e)))
