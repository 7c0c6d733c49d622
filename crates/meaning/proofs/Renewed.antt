-- Nodes whose TreeSets are made Sets: they have the same faults and spell the same tree.
use mathlib.Core.Path.{◌≡◌, refl, ◌∙◌, ap, sym, fun_ext}
use mathlib.Core.Bool.{Bool, true, false}
use mathlib.Core.List.{List, [], ◌∷◌, map}
use Prim.Native.Nat.{ℕ, zero, suc, ◌-◌}
use borrow.Author.Tests.{eqb-true}
use lib.Dec.{eqb}
use lib.ListN.{length-map, get_or-map}
use Rattle.meaning.specs.Limits.{deepest}
use Rattle.meaning.specs.Base.{◌and◌, ◌or◌, test◌then◌else◌, choose}
use Rattle.meaning.specs.Tree.{Expr, at, lambda, Stmt, Stmts, line, pass}
use Rattle.meaning.specs.Image.{Node, node_of, is_tree_set, is_statement, is_spanless, is_expression, arg_below, count_stands, node_stands, belongs, lands, nests, depth, first_not}
use Rattle.meaning.specs.Decode.{stop_of, past, exprs_from, stmts_from, params_from, arms_from, form_at, expr_at, act_at, stmt_at, block_at, tree_of}

unfoldable pub renewed : Node → Node
renewed d =
    record {
      kind = test is_tree_set d then 29 else d.kind;
      arg = d.arg;
      children = d.children;
      stop = d.stop;
      span_start = d.span_start;
      span_end = d.span_end;
    }

-- whoever treats 29 and 30 alike finds no difference
alike : {A : Type 0} (f : ℕ → A) → f 29 ≡ f 30 → (d : Node) → f (renewed d).kind ≡ f d.kind
unfolding renewed is_tree_set test◌then◌else◌
alike f e d = by (eqb d.kind 30) refl
  where
    by : (b : Bool) → eqb d.kind 30 ≡ b → f (test b then 29 else d.kind) ≡ f d.kind
    by true h = e ∙ ap f (sym (eqb-true d.kind 30 h))
    by false h = refl

choose_alike : {A : Type 0} (d : Node) (x : A) (rows : List (ℕ × A)) → choose 29 x rows ≡ choose 30 x rows
    → choose (renewed d).kind x rows ≡ choose d.kind x rows
choose_alike d x rows e = alike (λ k. choose k x rows) e d

-- the rows of an expression's form, and those of a statement's
sets_alike : {A : Type 0} (x a b c d e f g h i s j : A)
    → choose 29 x
    ((20, a) ∷ (21, b) ∷ (22, c) ∷ (23, d) ∷ (24, e) ∷ (25, f) ∷ (26, g) ∷ (27, h) ∷ (28, i) ∷ (29, s) ∷ (30, s) ∷ (31, j) ∷ [])
    ≡ choose 30 x
    ((20, a) ∷ (21, b) ∷ (22, c) ∷ (23, d) ∷ (24, e) ∷ (25, f) ∷ (26, g) ∷ (27, h) ∷ (28, i) ∷ (29, s) ∷ (30, s) ∷ (31, j) ∷ [])
unfolding choose test◌then◌else◌
sets_alike x a b c d e f g h i s j = refl

acts_alike : {A : Type 0} (x a b c d e f g h i j k : A)
    → choose 29 x ((1, a) ∷ (2, b) ∷ (3, c) ∷ (4, d) ∷ (5, e) ∷ (6, f) ∷ (7, g) ∷ (8, h) ∷ (9, i) ∷ (10, j) ∷ (11, k) ∷ [])
    ≡ choose 30 x ((1, a) ∷ (2, b) ∷ (3, c) ∷ (4, d) ∷ (5, e) ∷ (6, f) ∷ (7, g) ∷ (8, h) ∷ (9, i) ∷ (10, j) ∷ (11, k) ∷ [])
unfolding choose test◌then◌else◌
acts_alike x a b c d e f g h i j k = refl

pub never_tree_set : (d : Node) → is_tree_set (renewed d) ≡ false
unfolding renewed is_tree_set test◌then◌else◌
never_tree_set d = by (eqb d.kind 30) refl
  where
    by : (b : Bool) → eqb d.kind 30 ≡ b → eqb (test b then 29 else d.kind) 30 ≡ false
    by true h = refl
    by false h = h

node_of_renewed : (ds : List Node) (i : ℕ) → node_of (map renewed ds) i ≡ renewed (node_of ds i)
unfolding node_of renewed is_tree_set test◌then◌else◌
node_of_renewed ds i = get_or-map renewed ds i _

pub span_alike : (ds : List Node) (i : ℕ) → ((node_of (map renewed ds) i).span_start ≡ (node_of ds i).span_start) × ((node_of (map renewed ds) i).span_end ≡ (node_of ds i).span_end)
unfolding renewed
span_alike ds i = (ap (λ (d : Node). d.span_start) (node_of_renewed ds i), ap (λ (d : Node). d.span_end) (node_of_renewed ds i))

-- ---- faults

pub stands_alike : (N M i : ℕ) (d : Node) → node_stands N M i (renewed d) ≡ node_stands N M i d
unfolding renewed node_stands is_statement is_spanless is_expression arg_below count_stands choose test◌then◌else◌ ◌and◌ ◌or◌
stands_alike N M i d =
    alike
    (λ k. node_stands N M i
    (record { kind = k; arg = d.arg; children = d.children; stop = d.stop; span_start = d.span_start; span_end = d.span_end }))
    refl d

belongs_alike : (p d : Node) (c j : ℕ) → belongs (renewed p).kind c j (renewed d).kind ≡ belongs p.kind c j d.kind
unfolding belongs is_statement is_expression choose test◌then◌else◌ ◌and◌
belongs_alike p d c j =
    alike (λ k. belongs k c j (renewed d).kind) refl p ∙ alike (λ k. belongs p.kind c j k) refl d

lands_alike : (ds : List Node) (d : Node) (i left : ℕ) → lands (map renewed ds) (renewed d) i left ≡ lands ds d i left
unfolding lands renewed
lands_alike ds d i zero = refl
lands_alike ds d i (suc left) =
    rw (node_of_renewed ds i, belongs_alike d (node_of ds i), lands_alike ds d (node_of ds i).stop left)

pub nests_alike : (ds : List Node) (i : ℕ) (d : Node) → nests (map renewed ds) i (renewed d) ≡ nests ds i d
unfolding nests renewed
nests_alike ds i d = rw (lands_alike ds d, length-map ds renewed, alike (λ k. eqb k 12) refl d)

pub depth_alike : (i j : ℕ) (ds : List Node) → depth i j (map renewed ds) ≡ depth i j ds
unfolding depth renewed
depth_alike i j [] = refl
depth_alike i j (d ∷ ds) = rw (depth_alike i (suc j) ds)

pub search_alike : (f g : ℕ → Node → Bool) (i : ℕ) (ds : List Node) → ((j : ℕ) (d : Node) → f j (renewed d) ≡ g j d)
    → first_not f i (map renewed ds) ≡ first_not g i ds
unfolding first_not
search_alike f g i [] h = refl
search_alike f g i (d ∷ ds) h = rw (h i d, search_alike f g (suc i) ds h)

-- ---- the tree

module _ (ds : List Node) where
  stop_alike : (i : ℕ) → stop_of (map renewed ds) i ≡ stop_of ds i
  unfolding stop_of renewed
  stop_alike i = ap (λ d. d.stop) (node_of_renewed ds i)

  children_alike : (i : ℕ) → (node_of (map renewed ds) i).children ≡ (node_of ds i).children
  unfolding renewed
  children_alike i = ap (λ d. d.children) (node_of_renewed ds i)

  past_alike : (n i : ℕ) → past (map renewed ds) n i ≡ past ds n i
  unfolding past
  past_alike zero i = refl
  past_alike (suc n) i = rw (stop_alike i) (past_alike n (stop_of ds i))

  exprs_alike : (f : ℕ → Expr) (n i : ℕ) → exprs_from (map renewed ds) f n i ≡ exprs_from ds f n i
  unfolding exprs_from
  exprs_alike f zero i = refl
  exprs_alike f (suc n) i = rw (stop_alike i, exprs_alike f n (stop_of ds i))

  stmts_alike : (f : ℕ → Stmt) (n i : ℕ) → stmts_from (map renewed ds) f n i ≡ stmts_from ds f n i
  unfolding stmts_from
  stmts_alike f zero i = refl
  stmts_alike f (suc n) i = rw (stop_alike i, stmts_alike f n (stop_of ds i))

  params_alike : (n i : ℕ) → params_from (map renewed ds) n i ≡ params_from ds n i
  unfolding params_from renewed
  params_alike zero i = refl
  params_alike (suc n) i = rw (stop_alike i, node_of_renewed ds i, params_alike n (stop_of ds i))

  arms_alike : (e : ℕ → Expr) (b : ℕ → Stmts) (n i : ℕ) → arms_from (map renewed ds) e b n i ≡ arms_from ds e b n i
  unfolding arms_from
  arms_alike e b zero i = refl
  arms_alike e b (suc zero) i = refl
  arms_alike e b (suc (suc n)) i = rw (stop_alike i, stop_alike (stop_of ds i), arms_alike e b n (stop_of ds (stop_of ds i)))

  form_alike : (f : ℕ → Expr) (i : ℕ) → form_at (map renewed ds) f i ≡ form_at ds f i
  unfolding form_at renewed
  form_alike f i =
      rw (stop_alike (suc i), node_of_renewed ds i, exprs_alike f ((node_of ds i).children - 1) (stop_of ds (suc i)), exprs_alike f (node_of ds i).children (suc i))
      (choose_alike (node_of ds i) lambda _ (sets_alike _ _ _ _ _ _ _ _ _ _ _ _))

  pub expr_alike : (d i : ℕ) → expr_at (map renewed ds) d i ≡ expr_at ds d i
  unfolding expr_at
  expr_alike zero i = refl
  expr_alike (suc d) i = ap (at i) (form_alike _ i ∙ ap (λ f. form_at ds f i) (fun_ext (expr_alike d)))

  act_alike : (e : ℕ → Expr) (b : ℕ → Stmts) (i : ℕ) → act_at (map renewed ds) e b i ≡ act_at ds e b i
  unfolding act_at renewed
  act_alike e b i =
      rw (
        stop_alike (suc i),
        node_of_renewed ds i,
        arms_alike e b (node_of ds i).children (suc i),
        params_alike ((node_of ds i).children - 1) (suc i),
        past_alike ((node_of ds i).children - 1) (suc i),
      )
      (choose_alike (node_of ds i) pass _ (acts_alike _ _ _ _ _ _ _ _ _ _ _ _))

  mutual
    unfolding stmt_at block_at

    stmt_alike : (d i : ℕ) → stmt_at (map renewed ds) d i ≡ stmt_at ds d i
    stmt_alike zero i = refl
    stmt_alike (suc d) i =
        ap (line i)
        (act_alike _ _ i ∙ ap (λ f. act_at ds f (λ j. block_at (map renewed ds) d j) i) (fun_ext (expr_alike d))
        ∙ ap (λ f. act_at ds (λ j. expr_at ds d j) f i) (fun_ext (λ j. block_alike d j)))

    block_alike : (d i : ℕ) → block_at (map renewed ds) d i ≡ block_at ds d i
    block_alike zero i = refl
    block_alike (suc d) i =
        ap (λ n. stmts_from (map renewed ds) (λ j. stmt_at (map renewed ds) d j) n (suc i)) (children_alike i)
        ∙ stmts_alike _ _ (suc i) ∙ ap (λ f. stmts_from ds f (node_of ds i).children (suc i)) (fun_ext (λ j. stmt_alike d j))

  -- both spell one tree
  pub tree_alike : tree_of (map renewed ds) ≡ tree_of ds
  unfolding tree_of
  tree_alike = block_alike deepest 0
