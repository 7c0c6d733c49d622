-- What a node decodes to, one law for each kind, so that nobody has to unfold decoding. e and b read a child as an expression or a Block.
use mathlib.Core.Path.{◌≡◌, refl}
use mathlib.Core.List.{List, [], ◌∷◌}
use Prim.Native.Nat.{ℕ, zero, suc, ◌-◌, ◌<◌}
use native.Mathlib.Numerals.{sub-one}
use native.Mathlib.Omega.{arith}
use Rattle.meaning.specs.Base.{test◌then◌else◌, choose}
use Rattle.meaning.specs.Tree.{Expr, at, literal, variable, unary, binary, call, attribute, list_of, dict_of, tuple_of, set_of, index, lambda, no_exprs, ◌also◌, Stmt, line, break, continue, pass, class, assign, expr, return, if_then, while, for, def, Stmts, no_stmts, ◌next◌, no_arms, ◌else_arms◌, on, otherwise}
use Rattle.meaning.specs.Image.{Node, node_of}
use Rattle.meaning.specs.Decode.{stop_of, past, exprs_from, stmts_from, params_from, arms_from, literal_type, unary_of, binary_of, form_at, expr_at, act_at, stmt_at, block_at}

-- ---- an expression, a statement and a Block, at most d deep

module _ (ds : List Node) (d i : ℕ) where
  pub expr_at_lem : expr_at ds (suc d) i ≡ at i (form_at ds (λ j. expr_at ds d j) i)
  unfolding expr_at
  expr_at_lem = refl

  pub stmt_at_lem : stmt_at ds (suc d) i ≡ line i (act_at ds (λ j. expr_at ds d j) (λ j. block_at ds d j) i)
  unfolding stmt_at
  stmt_at_lem = refl

  pub block_at_lem : block_at ds (suc d) i ≡ stmts_from ds (λ j. stmt_at ds d j) (node_of ds i).children (suc i)
  unfolding stmt_at
  block_at_lem = refl

-- ---- expressions

module _ (ds : List Node) (e : ℕ → Expr) (i : ℕ) where
  pub literal_at : (node_of ds i).kind ≡ 20 → form_at ds e i ≡ literal (literal_type (node_of ds i).arg)
  unfolding form_at choose test◌then◌else◌
  literal_at k = rw k

  pub variable_at : (node_of ds i).kind ≡ 21 → form_at ds e i ≡ variable (node_of ds i).arg
  unfolding form_at choose test◌then◌else◌
  variable_at k = rw k

  pub unary_at : (node_of ds i).kind ≡ 22 → form_at ds e i ≡ unary (unary_of (node_of ds i).arg) (e (suc i))
  unfolding form_at choose test◌then◌else◌
  unary_at k = rw k

  pub binary_at : (node_of ds i).kind ≡ 23 → form_at ds e i ≡ binary (binary_of (node_of ds i).arg) (e (suc i)) (e (stop_of ds (suc i)))
  unfolding form_at choose test◌then◌else◌
  binary_at k = rw k

  pub call_at : (node_of ds i).kind ≡ 24 → form_at ds e i ≡ call (e (suc i)) (exprs_from ds e ((node_of ds i).children - 1) (stop_of ds (suc i)))
  unfolding form_at choose test◌then◌else◌
  call_at k = rw k

  pub attribute_at : (node_of ds i).kind ≡ 25 → form_at ds e i ≡ attribute (e (suc i))
  unfolding form_at choose test◌then◌else◌
  attribute_at k = rw k

  pub list_at : (node_of ds i).kind ≡ 26 → form_at ds e i ≡ list_of (exprs_from ds e (node_of ds i).children (suc i))
  unfolding form_at choose test◌then◌else◌
  list_at k = rw k

  pub dict_at : (node_of ds i).kind ≡ 27 → form_at ds e i ≡ dict_of (exprs_from ds e (node_of ds i).children (suc i))
  unfolding form_at choose test◌then◌else◌
  dict_at k = rw k

  pub tuple_at : (node_of ds i).kind ≡ 28 → form_at ds e i ≡ tuple_of (exprs_from ds e (node_of ds i).children (suc i))
  unfolding form_at choose test◌then◌else◌
  tuple_at k = rw k

  pub set_at : (node_of ds i).kind ≡ 29 → form_at ds e i ≡ set_of (exprs_from ds e (node_of ds i).children (suc i))
  unfolding form_at choose test◌then◌else◌
  set_at k = rw k

  pub tree_set_at : (node_of ds i).kind ≡ 30 → form_at ds e i ≡ set_of (exprs_from ds e (node_of ds i).children (suc i))
  unfolding form_at choose test◌then◌else◌
  tree_set_at k = rw k

  pub index_at : (node_of ds i).kind ≡ 31 → form_at ds e i ≡ index (e (suc i)) (e (stop_of ds (suc i)))
  unfolding form_at choose test◌then◌else◌
  index_at k = rw k

  pub lambda_at : (node_of ds i).kind ≡ 32 → form_at ds e i ≡ lambda
  unfolding form_at choose test◌then◌else◌
  lambda_at k = rw k

-- ---- statements

module _ (ds : List Node) (e : ℕ → Expr) (b : ℕ → Stmts) (i : ℕ) where
  pub break_at : (node_of ds i).kind ≡ 1 → act_at ds e b i ≡ break
  unfolding act_at choose test◌then◌else◌
  break_at k = rw k

  pub continue_at : (node_of ds i).kind ≡ 2 → act_at ds e b i ≡ continue
  unfolding act_at choose test◌then◌else◌
  continue_at k = rw k

  pub pass_at : (node_of ds i).kind ≡ 3 → act_at ds e b i ≡ pass
  unfolding act_at choose test◌then◌else◌
  pass_at k = rw k

  pub class_at : (node_of ds i).kind ≡ 4 → act_at ds e b i ≡ class
  unfolding act_at choose test◌then◌else◌
  class_at k = rw k

  pub assign_at : (node_of ds i).kind ≡ 5 → act_at ds e b i ≡ assign (e (suc i)) (e (stop_of ds (suc i)))
  unfolding act_at choose test◌then◌else◌
  assign_at k = rw k

  pub expression_at : (node_of ds i).kind ≡ 6 → act_at ds e b i ≡ expr (e (suc i))
  unfolding act_at choose test◌then◌else◌
  expression_at k = rw k

  pub return_at : (node_of ds i).kind ≡ 7 → act_at ds e b i ≡ return (e (suc i))
  unfolding act_at choose test◌then◌else◌
  return_at k = rw k

  pub if_at : (node_of ds i).kind ≡ 8 → act_at ds e b i ≡ if_then (arms_from ds e b (node_of ds i).children (suc i))
  unfolding act_at choose test◌then◌else◌
  if_at k = rw k

  pub while_at : (node_of ds i).kind ≡ 9 → act_at ds e b i ≡ while (e (suc i)) (b (stop_of ds (suc i)))
  unfolding act_at choose test◌then◌else◌
  while_at k = rw k

  pub for_at : (node_of ds i).kind ≡ 10 → act_at ds e b i ≡ for (node_of ds i).arg (e (suc i)) (b (stop_of ds (suc i)))
  unfolding act_at choose test◌then◌else◌
  for_at k = rw k

  pub def_at : (node_of ds i).kind ≡ 11
      → act_at ds e b i ≡ def (params_from ds ((node_of ds i).children - 1) (suc i)) (b (past ds ((node_of ds i).children - 1) (suc i)))
  unfolding act_at choose test◌then◌else◌
  def_at k = rw k

-- ---- lists of children: none, and one more, by a count that goes down

module _ (ds : List Node) where
  pub exprs_none : (f : ℕ → Expr) (i : ℕ) → exprs_from ds f 0 i ≡ no_exprs
  unfolding exprs_from
  exprs_none f i = refl

  pub exprs_down : (f : ℕ → Expr) (n i : ℕ) → 0 < n → exprs_from ds f n i ≡ f i also exprs_from ds f (n - 1) (stop_of ds i)
  unfolding exprs_from
  exprs_down f zero i h = absurd (omega arith)
  exprs_down f (suc n) i h = rw sub-one

  pub stmts_none : (f : ℕ → Stmt) (i : ℕ) → stmts_from ds f 0 i ≡ no_stmts
  unfolding stmts_from
  stmts_none f i = refl

  pub stmts_down : (f : ℕ → Stmt) (n i : ℕ) → 0 < n → stmts_from ds f n i ≡ f i next stmts_from ds f (n - 1) (stop_of ds i)
  unfolding stmts_from
  stmts_down f zero i h = absurd (omega arith)
  stmts_down f (suc n) i h = rw sub-one

  pub params_none : (i : ℕ) → params_from ds 0 i ≡ []
  unfolding params_from
  params_none i = refl

  pub params_down : (n i : ℕ) → 0 < n → params_from ds n i ≡ (node_of ds i).arg ∷ params_from ds (n - 1) (stop_of ds i)
  unfolding params_from
  params_down zero i h = absurd (omega arith)
  params_down (suc n) i h = rw sub-one

  pub past_none : (i : ℕ) → past ds 0 i ≡ i
  unfolding past
  past_none i = refl

  pub past_down : (n i : ℕ) → 0 < n → past ds n i ≡ past ds (n - 1) (stop_of ds i)
  unfolding past
  past_down zero i h = absurd (omega arith)
  past_down (suc n) i h = rw sub-one

  pub arms_none : (e : ℕ → Expr) (b : ℕ → Stmts) (i : ℕ) → arms_from ds e b 0 i ≡ no_arms
  unfolding arms_from
  arms_none e b i = refl

  pub arms_last : (e : ℕ → Expr) (b : ℕ → Stmts) (i : ℕ) → arms_from ds e b 1 i ≡ otherwise (b i) else_arms no_arms
  unfolding arms_from
  arms_last e b i = refl

  pub arms_down : (e : ℕ → Expr) (b : ℕ → Stmts) (n i : ℕ) → 1 < n
      → arms_from ds e b n i ≡ on (e i) (b (stop_of ds i)) else_arms arms_from ds e b (n - 2) (stop_of ds (stop_of ds i))
  unfolding arms_from
  arms_down e b zero i h = absurd (omega arith)
  arms_down e b (suc zero) i h = absurd (omega arith)
  arms_down e b (suc (suc n)) i h = let m : suc (suc n) - 2 ≡ n = omega arith in rw m
