-- Calls: what the callee makes of them.
use mathlib.Core.Path.{◌≡◌, refl, ap, ◌∙◌}
use mathlib.Core.Bool.{Bool, true, false}
use mathlib.Core.List.{List, [], ◌∷◌}
use mathlib.Core.Option.{none, some}
use Prim.Native.Nat.{ℕ, suc, ◌-◌, ◌<◌}
use borrow.Author.Tests.{ne_eqb}
use lib.Dec.{eqb}
use lib.ListN.{length}
use Rattle.meaning.specs.Base.{choose, test◌then◌else◌}
use Rattle.meaning.specs.Types.{Ty, unknown}
use Rattle.meaning.specs.Image.{Name, name_of, Node, node_of}
use Rattle.meaning.specs.Tree.{Expr, Form, name_in, called}
use Rattle.meaning.specs.Decode.{stop_of, exprs_from, form_at, expr_at}
use Rattle.meaning.specs.Frames.{Frames}
use Rattle.meaning.specs.Operators.{ok}
use Rattle.meaning.specs.Rules.{each, each_then, name_rule, call_rule, check, check_form, check_all}
use Rattle.meaning.proofs.Nesting.{Nested}
use Rattle.meaning.proofs.Decoding.{expr_at_lem, call_at, variable_at, exprs_down}
use Rattle.nodes.specs.Operands.{operand_rule}
use Rattle.nodes.proofs.Operating.{call_node, bind_ext, each_const}

-- ---- the callee

row_none : (k j : ℕ) (f d : Form) (rs : List (ℕ × Form)) → name_in f ≡ none → name_in (choose k d rs) ≡ none → name_in (choose k d ((j, f) ∷ rs)) ≡ none
unfolding choose test◌then◌else◌
row_none k j f d rs p q = by (eqb k j)
  where
    by : (b : Bool) → name_in (test b then f else choose k d rs) ≡ none
    by true = p
    by false = q

row_not : (k j : ℕ) (f d : Form) (rs : List (ℕ × Form)) → (k ≡ j → ⊥) → name_in (choose k d rs) ≡ none → name_in (choose k d ((j, f) ∷ rs)) ≡ none
unfolding choose test◌then◌else◌
row_not k j f d rs n q = rw (ne_eqb k j n) q

no_row : (k : ℕ) (d : Form) → name_in d ≡ none → name_in (choose k d []) ≡ none
unfolding choose
no_row k d p = p

-- only a Variable is a name
no_name : (ds : List Node) (e : ℕ → Expr) (j : ℕ) → ((node_of ds j).kind ≡ 21 → ⊥) → name_in (form_at ds e j) ≡ none
unfolding form_at name_in
no_name ds e j n =
    row_none _ 20 _ _ _ refl
    (row_not _ 21 _ _ _ n
    (row_none _ 22 _ _ _ refl
    (row_none _ 23 _ _ _ refl
    (row_none _ 24 _ _ _ refl
    (row_none _ 25 _ _ _ refl
    (row_none _ 26 _ _ _ refl
    (row_none _ 27 _ _ _ refl
    (row_none _ 28 _ _ _ refl
    (row_none _ 29 _ _ _ refl
    (row_none _ 30 _ _ _ refl
    (row_none _ 31 _ _ _ refl (no_row _ _ refl))))))))))))

called_none : (ds : List Node) (d j : ℕ) → ((node_of ds j).kind ≡ 21 → ⊥) → called (expr_at ds (suc d) j) ≡ none
unfolding called
called_none ds d j n = ap called (expr_at_lem ds d j) ∙ no_name ds (λ i. expr_at ds d i) j n

called_some : (ds : List Node) (d j : ℕ) → (node_of ds j).kind ≡ 21 → called (expr_at ds (suc d) j) ≡ some (node_of ds j).arg
unfolding called name_in
called_some ds d j k = ap called (expr_at_lem ds d j) ∙ ap name_in (variable_at ds (λ i. expr_at ds d i) j k)

other_unknown : (a n m o : ℕ) (us : List Ty) → ok unknown ≡ operand_rule 24 a n m o us
unfolding operand_rule choose test◌then◌else◌
other_unknown a n m o us = refl

module _ {N : ℕ} {ds : List Node} (s : Nested N ds) (ws : List Name) (Γ : Frames) (d i : ℕ) (h : i < length ds) (k : (node_of ds i).kind ≡ 24) where
  -- a callee that is no name is checked before the arguments
  pub call_other : ((node_of ds (suc i)).kind ≡ 21 → ⊥) → check_form ws Γ i (form_at ds (λ j. expr_at ds (suc d) j) i)
      ≡ each (check_all ws Γ (exprs_from ds (λ j. expr_at ds (suc d) j) (node_of ds i).children (suc i)))
      (operand_rule (node_of ds i).kind (node_of ds i).arg i (suc i) (stop_of ds (suc i))) []
  unfolding check_form check_all call_rule each_then each
  call_other n =
      rw (
        call_at ds (λ j. expr_at ds (suc d) j) i k,
        called_none ds d (suc i) n,
        exprs_down ds (λ j. expr_at ds (suc d) j) (node_of ds i).children (suc i) (call_node s i h k),
        k,
      )
      (bind_ext (check ws Γ (expr_at ds (suc d) (suc i))) _ _
      (λ t. each_const (check_all ws Γ (exprs_from ds (λ j. expr_at ds (suc d) j) ((node_of ds i).children - 1) (stop_of ds (suc i)))) _ _ _ _
      (λ xs ys. other_unknown _ _ _ _ ys)))

  -- a name goes by its role
  pub call_name : (node_of ds (suc i)).kind ≡ 21 → check_form ws Γ i (form_at ds (λ j. expr_at ds (suc d) j) i)
      ≡ name_rule i (name_of ws (node_of ds (suc i)).arg) (name_of ws (node_of ds (suc i)).arg).role
      (check_all ws Γ (exprs_from ds (λ j. expr_at ds (suc d) j) ((node_of ds i).children - 1) (stop_of ds (suc i))))
  unfolding check_form call_rule
  call_name v = rw (call_at ds (λ j. expr_at ds (suc d) j) i k, called_some ds d (suc i) v)
