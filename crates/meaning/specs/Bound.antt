-- What a module may bind, by form: "each name that an Assign or a For at module level may bind, through If, While and For bodies at any
-- depth, but not inside Def or Class". The names stand in program order, each as often as something may bind it.
use Rattle.std.specs.Prelude.{List, [], ◌∷◌, ◌++◌, ℕ}
use Rattle.meaning.specs.Tree.{Expr, at, Form, literal, variable, unary, binary, call, attribute, list_of, dict_of, tuple_of, set_of, index, lambda, Exprs, no_exprs, ◌also◌, Stmt, line, Act, break, continue, pass, class, assign, expr, return, if_then, while, for, def, Stmts, no_stmts, ◌next◌, Arms, no_arms, ◌else_arms◌, Arm, on, otherwise}

-- "An Assign may bind the Variables that are its target or lie within it through Tuples alone, by form, even where an error keeps one
-- from being bound."
unfoldable mutual
  pub targets : Expr → List ℕ
  targets (at n f) = targets_in f

  pub targets_in : Form → List ℕ
  targets_in (literal t) = []
  targets_in (variable x) = x ∷ []
  targets_in (unary o e) = []
  targets_in (binary o l r) = []
  targets_in (call f es) = []
  targets_in (attribute e) = []
  targets_in (list_of es) = []
  targets_in (dict_of es) = []
  targets_in (tuple_of es) = targets_among es
  targets_in (set_of es) = []
  targets_in (index o i) = []
  targets_in lambda = []

  pub targets_among : Exprs → List ℕ
  targets_among no_exprs = []
  targets_among (e also es) = targets e ++ targets_among es

unfoldable mutual
  -- a module's, or a body's
  pub may_bind : Stmts → List ℕ
  may_bind no_stmts = []
  may_bind (a next as') = binds_by a ++ may_bind as'

  pub binds_by : Stmt → List ℕ
  binds_by (line n a) = binds_in a

  pub binds_in : Act → List ℕ
  binds_in break = []
  binds_in continue = []
  binds_in pass = []
  binds_in class = []
  binds_in (assign e v) = targets e
  binds_in (expr e) = []
  binds_in (return e) = []
  binds_in (if_then arms) = binds_among arms
  binds_in (while c b) = may_bind b
  binds_in (for x e b) = x ∷ may_bind b
  binds_in (def xs b) = []

  pub binds_among : Arms → List ℕ
  binds_among no_arms = []
  binds_among (a else_arms rest) = binds_under a ++ binds_among rest

  pub binds_under : Arm → List ℕ
  binds_under (on c b) = may_bind b
  binds_under (otherwise b) = may_bind b

unfoldable pub bound_open : Unit {0}
unfolding targets may_bind
bound_open = tt
