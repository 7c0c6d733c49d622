-- The tree that an image's nodes spell: "Nodes stand in preorder; the first child is the next node, each further child starts at the
-- previous child's end."
use Rattle.std.specs.Prelude.{List, [], ◌∷◌, ℕ, zero, suc, ◌-◌, get_or}
use Rattle.meaning.specs.Limits.{deepest}
use Rattle.meaning.specs.Base.{choose}
use Rattle.meaning.specs.Types.{Ty, unknown, int, bool, string, float, nonetype}
use Rattle.meaning.specs.Tree.{UnaryOp, not_op, negate, pos, BinaryOp, add, subtract, multiply, divide, floor_divide, modulo, equal, not_equal, less, less_equal, greater, greater_equal, and_op, or_op, Expr, at, Form, literal, variable, unary, binary, call, attribute, list_of, dict_of, tuple_of, set_of, index, lambda, Exprs, no_exprs, ◌also◌, Stmt, line, Act, break, continue, pass, class, assign, expr, return, if_then, while, for, def, Stmts, no_stmts, ◌next◌, Arms, no_arms, ◌else_arms◌, on, otherwise}
use Rattle.meaning.specs.Image.{Node, node_of}

-- ---- children

unfoldable pub stop_of : List Node → ℕ → ℕ
stop_of ds i = (node_of ds i).stop

-- where the child after n children starts, the first of them at i
unfoldable pub past : List Node → ℕ → ℕ → ℕ
past ds zero i = i
past ds (suc n) i = past ds n (stop_of ds i)

-- n expressions, the first at i; f reads one
unfoldable pub exprs_from : List Node → (ℕ → Expr) → ℕ → ℕ → Exprs
exprs_from ds f zero i = no_exprs
exprs_from ds f (suc n) i = f i also exprs_from ds f n (stop_of ds i)

unfoldable pub stmts_from : List Node → (ℕ → Stmt) → ℕ → ℕ → Stmts
stmts_from ds f zero i = no_stmts
stmts_from ds f (suc n) i = f i next stmts_from ds f n (stop_of ds i)

-- the names of n Params
unfoldable pub params_from : List Node → ℕ → ℕ → List ℕ
params_from ds zero i = []
params_from ds (suc n) i = (node_of ds i).arg ∷ params_from ds n (stop_of ds i)

-- "If (condition, Block, then pairs for elif, then perhaps an else Block)"; e reads an expression and b a Block
unfoldable pub arms_from : List Node → (ℕ → Expr) → (ℕ → Stmts) → ℕ → ℕ → Arms
arms_from ds e b zero i = no_arms
arms_from ds e b (suc zero) i = otherwise (b i) else_arms no_arms
arms_from ds e b (suc (suc n)) i = on (e i) (b (stop_of ds i)) else_arms arms_from ds e b n (stop_of ds (stop_of ds i))

-- ---- expressions

-- "Literal (arg 0..4 Bool, Int, String, Float, None)"
unfoldable pub literal_type : ℕ → Ty
literal_type a = get_or (bool ∷ int ∷ string ∷ float ∷ nonetype ∷ []) a unknown

unfoldable pub unary_of : ℕ → UnaryOp
unary_of a = get_or (not_op ∷ negate ∷ pos ∷ []) a not_op

unfoldable pub binary_of : ℕ → BinaryOp
binary_of a =
    get_or
    (add ∷ subtract ∷ multiply ∷ divide ∷ floor_divide ∷ modulo ∷ equal ∷ not_equal ∷ less ∷ less_equal ∷ greater ∷ greater_equal ∷ and_op ∷ or_op ∷ [])
    a add

-- the form at node i, f reading its children
unfoldable pub form_at : List Node → (ℕ → Expr) → ℕ → Form
form_at ds f i =
    let a : ℕ = (node_of ds i).arg in
    let c : ℕ = (node_of ds i).children in
    let from₂ : ℕ = stop_of ds (suc i) in
    let first : Expr = f (suc i) in
    let second : Expr = f from₂ in
    let every : Exprs = exprs_from ds f c (suc i) in
    let rest : Exprs = exprs_from ds f (c - 1) from₂ in
    choose (node_of ds i).kind lambda
    ((20, literal (literal_type a))
    ∷ (21, variable a)
    ∷ (22, unary (unary_of a) first)
    ∷ (23, binary (binary_of a) first second)
    ∷ (24, call first rest)
    ∷ (25, attribute first)
    ∷ (26, list_of every)
    ∷ (27, dict_of every)
    ∷ (28, tuple_of every)
    ∷ (29, set_of every)
    ∷ (30, set_of every)
    ∷ (31, index first second)
    ∷ [])

-- the expression at node i, at most d deep
unfoldable pub expr_at : List Node → ℕ → ℕ → Expr
expr_at ds zero i = at i lambda
expr_at ds (suc d) i = at i (form_at ds (λ j. expr_at ds d j) i)

-- ---- statements

unfoldable pub act_at : List Node → (ℕ → Expr) → (ℕ → Stmts) → ℕ → Act
act_at ds e b i =
    let a : ℕ = (node_of ds i).arg in
    let c : ℕ = (node_of ds i).children in
    let from₂ : ℕ = stop_of ds (suc i) in
    let first : Expr = e (suc i) in
    let second : Expr = e from₂ in
    let block : Stmts = b from₂ in
    let arms : Arms = arms_from ds e b c (suc i) in
    let params : List ℕ = params_from ds (c - 1) (suc i) in
    let last : Stmts = b (past ds (c - 1) (suc i)) in
    choose (node_of ds i).kind pass
    ((1, break)
    ∷ (2, continue)
    ∷ (3, pass)
    ∷ (4, class)
    ∷ (5, assign first second)
    ∷ (6, expr first)
    ∷ (7, return first)
    ∷ (8, if_then arms)
    ∷ (9, while first block)
    ∷ (10, for a first block)
    ∷ (11, def params last)
    ∷ [])

unfoldable mutual
  -- the statement at node i, at most d deep
  pub stmt_at : List Node → ℕ → ℕ → Stmt
  stmt_at ds zero i = line i pass
  stmt_at ds (suc d) i = line i (act_at ds (λ j. expr_at ds d j) (λ j. block_at ds d j) i)

  pub block_at : List Node → ℕ → ℕ → Stmts
  block_at ds zero i = no_stmts
  block_at ds (suc d) i = stmts_from ds (λ j. stmt_at ds d j) (node_of ds i).children (suc i)

-- "Node 0 is a Block", and no node lies deeper than 64
unfoldable pub tree_of : List Node → Stmts
tree_of ds = block_at ds deepest 0

unfoldable pub decode_open : Unit {0}
unfolding stop_of past exprs_from stmts_from params_from arms_from literal_type unary_of binary_of form_at expr_at act_at stmt_at tree_of
decode_open = tt
