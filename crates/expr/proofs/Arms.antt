-- The arms of `expression` and `compound`.
use mathlib.Core.Path.{◌≡◌, sym, ap, ◌∙◌}
use mathlib.Core.List.{List}
use mathlib.Core.Bool.{false}
use mathlib.Core.Logic.{◌⊎◌, ⊎_elim}
use lib.Dec.{eqb}
use Prim.Native.Nat.{ℕ, zero, suc, ◌-◌, ◌≤◌, ◌<◌}
use native.Mathlib.Numerals.{sub-one}
use native.Mathlib.Omega.{arith}
use borrow.Author.Tests.{ne_eqb}
use lib.ListN.{length}
use Rattle.meaning.specs.Base.{choose, test◌then◌else◌}
use Rattle.meaning.specs.Types.{Ty, function, plain}
use Rattle.meaning.specs.Tree.{Expr, lambda}
use Rattle.meaning.specs.Image.{Name, Node, node_count, nodes_of, node_of, names_of, name_count, arg_below}
use Rattle.meaning.specs.Decode.{expr_at, form_at, stop_of, literal_type}
use Rattle.meaning.specs.Frames.{Frames, lookup}
use Rattle.meaning.specs.Operators.{ok}
use Rattle.meaning.specs.Rules.{check, check_form}
use Rattle.meaning.proofs.Faults.{sizes}
use Rattle.meaning.proofs.Nesting.{sound_nested, nodes_many, node_stands_lem}
use Rattle.meaning.proofs.Decoding.{literal_at, variable_at}
use Rattle.types.specs.Table.{Tab, Means}
use Rattle.types.proofs.Laws.{plain_number}
use Rattle.frames.specs.Env.{Rows, frames_of, Looked}
use Rattle.frames.specs.declared.Binding.{Binding as Found}
use Rattle.frames.proofs.Laws.{looked_type}
use Rattle.nodes.specs.Operands.{literal_number}
use Rattle.nodes.proofs.Laws.{literal_means}
use Rattle.expr.specs.Contract.{Ready, At, Done}
use Rattle.expr.proofs.Rows.{ends_after, shallow}
use Rattle.expr.proofs.Leaving.{fine_none, fine_wider}
use Rattle.expr.proofs.Telling.{told_well, done_as}

expr_form : (ws : List Name) (Γ : Frames) (ds : List Node) (d i : ℕ) → 0 < d
    → check ws Γ (expr_at ds d i) ≡ check_form ws Γ i (form_at ds (λ j. expr_at ds (d - 1) j) i)
unfolding check expr_at
expr_form ws Γ ds zero i h = absurd (omega arith)
expr_form ws Γ ds (suc d) i h = rw sub-one

not_in : (k m : ℕ) → (k < 20) ⊎ (31 < k) → 20 ≤ m → m ≤ 31 → eqb k m ≡ false
not_in k m h a b = ⊎_elim (λ l. ne_eqb k m (λ e. absurd (omega arith))) (λ l. ne_eqb k m (λ e. absurd (omega arith))) h

-- every other kind
no_other : (ds : List Node) (e : ℕ → Expr) (i : ℕ) → ((node_of ds i).kind < 20) ⊎ (31 < (node_of ds i).kind) → form_at ds e i ≡ lambda
unfolding form_at choose test◌then◌else◌
no_other ds e i h =
    let k = (node_of ds i).kind in
    rw (
      not_in k 20 h (omega arith) (omega arith),
      not_in k 21 h (omega arith) (omega arith),
      not_in k 22 h (omega arith) (omega arith),
      not_in k 23 h (omega arith) (omega arith),
      not_in k 24 h (omega arith) (omega arith),
      not_in k 25 h (omega arith) (omega arith),
      not_in k 26 h (omega arith) (omega arith),
      not_in k 27 h (omega arith) (omega arith),
      not_in k 28 h (omega arith) (omega arith),
      not_in k 29 h (omega arith) (omega arith),
      not_in k 30 h (omega arith) (omega arith),
      not_in k 31 h (omega arith) (omega arith),
    )

module _ {bs : List ℕ} {nodes : ℕ} {fs : Rows} {top : ℕ} {t : Tab} {st : List ℕ} {sp i d : ℕ} {node : Node}
    (r : Ready bs nodes fs top t st sp i (stop_of (nodes_of bs) i)) (h : At bs i d) (o : node ≡ node_of (nodes_of bs) i) where
  -- what the form gives, the expression gives
  pub expr_done : {u : Tab} {su : List ℕ} {code place number a b : ℕ}
      → Done (names_of bs) (check_form (names_of bs) (frames_of t fs top) i (form_at (nodes_of bs) (λ j. expr_at (nodes_of bs) (d - 1) j) i)) t u st su sp i
      (stop_of (nodes_of bs) i) (node_count bs) code place number a b
      → Done (names_of bs) (check (names_of bs) (frames_of t fs top) (expr_at (nodes_of bs) d i)) t u st su sp i (stop_of (nodes_of bs) i) (node_count bs) code place number a b
  expr_done x = done_as (expr_form (names_of bs) (frames_of t fs top) (nodes_of bs) d i (shallow r.sound h)) x

  inside : i < length (nodes_of bs)
  inside = rw (nodes_many bs) h.there

  -- a node without children
  leaf_done : (ty : Ty) {code place number a b : ℕ} → code ≡ 0 → Means t number ty
      → check_form (names_of bs) (frames_of t fs top) i (form_at (nodes_of bs) (λ j. expr_at (nodes_of bs) (d - 1) j) i) ≡ ok ty
      → Done (names_of bs) (check (names_of bs) (frames_of t fs top) (expr_at (nodes_of bs) d i)) t t st st sp i (stop_of (nodes_of bs) i) (node_count bs) code place number a b
  leaf_done ty z m e =
      expr_done record {
        told = told_well z (e ∙ ap ok (sym m.means));
        below = λ w. m.below;
        fine = fine_wider (stop_of (nodes_of bs) i) 1 (omega (arith, ends_after r.sound h.there)) (fine_none sp i r.wf r.stack);
      }

  pub literal_done : {code place number a b : ℕ} → node.kind ≡ 20 → code ≡ 0 → number ≡ literal_number node.arg
      → Done (names_of bs) (check (names_of bs) (frames_of t fs top) (expr_at (nodes_of bs) d i)) t t st st sp i (stop_of (nodes_of bs) i) (node_count bs) code place number a b
  unfolding check_form arg_below choose test◌then◌else◌
  literal_done k z e =
      let w : (node_of (nodes_of bs) i).kind ≡ 20 = rw o at k in
      let q : (node_of (nodes_of bs) i).arg < 5 = rw w at (node_stands_lem (sound_nested r.sound) i inside).arg in
      leaf_done (literal_type (node_of (nodes_of bs) i).arg) z (rw (e, o) (literal_means r.wf (node_of (nodes_of bs) i).arg q))
      (rw (literal_at (nodes_of bs) (λ j. expr_at (nodes_of bs) (d - 1) j) i w))

  pub variable_there : {x : ℕ} → node.kind ≡ 21 → x ≡ node.arg → (top < 8) × (x < 128)
  unfolding arg_below choose test◌then◌else◌
  variable_there k e =
      let w : (node_of (nodes_of bs) i).kind ≡ 21 = rw o at k in
      let q : (node_of (nodes_of bs) i).arg < name_count bs = rw w at (node_stands_lem (sound_nested r.sound) i inside).arg in
      (r.fit.high, rw (e, o) (omega (arith, q, (sizes r.sound.headed).names)))

  pub variable_done : {x code place number a b : ℕ} {v : Found} → node.kind ≡ 21 → x ≡ node.arg → code ≡ 0 → number ≡ v.ty → Looked fs top x v
      → Done (names_of bs) (check (names_of bs) (frames_of t fs top) (expr_at (nodes_of bs) d i)) t t st st sp i (stop_of (nodes_of bs) i) (node_count bs) code place number a b
  unfolding check_form
  variable_done {x} k e z n w =
      leaf_done (lookup (frames_of t fs top) x).type z (rw n (looked_type w r.wf r.fit))
      (rw (variable_at (nodes_of bs) (λ j. expr_at (nodes_of bs) (d - 1) j) i (rw o at k), e, o))

  pub lambda_done : {code place number a b : ℕ} → (node.kind < 20) ⊎ (31 < node.kind) → code ≡ 0 → number ≡ 7
      → Done (names_of bs) (check (names_of bs) (frames_of t fs top) (expr_at (nodes_of bs) d i)) t t st st sp i (stop_of (nodes_of bs) i) (node_count bs) code place number a b
  unfolding check_form plain
  lambda_done k z n =
      leaf_done function z (rw n record { below = omega (arith, r.wf.base); means = plain_number r.wf 7 (omega arith) })
      (rw (no_other (nodes_of bs) (λ j. expr_at (nodes_of bs) (d - 1) j) i (rw o at k)))
