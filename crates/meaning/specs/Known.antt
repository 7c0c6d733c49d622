-- Known stays known (document 02, request Ten): "no Def anywhere inside an If", whether an image has that, and where the walk stands "after
-- each accepted module statement".
use Rattle.std.specs.Prelude.{◌≡◌, Bool, true, false, List, [], ◌∷◌, ◌++◌, ℕ, zero, suc}
use Rattle.meaning.specs.Base.{test◌then◌else◌, if_some}
use Rattle.meaning.specs.Tree.{Stmt, line, Act, break, continue, pass, class, assign, expr, return, if_then, while, for, def, Stmts, no_stmts, ◌next◌, Arms, no_arms, ◌else_arms◌, Arm, on, otherwise}
use Rattle.meaning.specs.Image.{Fault, image_fault, Name, Node, node_of, nodes_of}
use Rattle.meaning.specs.Decode.{tree_of}
use Rattle.meaning.specs.Walk.{Setting, End, program, start}

-- ---- "no Def anywhere inside an If"

-- The Defs that stand anywhere inside an If, as nodes in program order: at any depth, through loops and Defs, in any of its Blocks. `inside`
-- tells whether what is looked at stands inside an If already; a Def that holds an If is none of them.
unfoldable mutual
  pub defs_in : Bool → Stmts → List ℕ
  defs_in inside no_stmts = []
  defs_in inside (a next as') = defs_by inside a ++ defs_in inside as'

  pub defs_by : Bool → Stmt → List ℕ
  defs_by inside (line n a) = defs_of inside n a

  pub defs_of : Bool → ℕ → Act → List ℕ
  defs_of inside n break = []
  defs_of inside n continue = []
  defs_of inside n pass = []
  defs_of inside n class = []
  defs_of inside n (assign e v) = []
  defs_of inside n (expr e) = []
  defs_of inside n (return e) = []
  defs_of inside n (if_then arms) = defs_among arms
  defs_of inside n (while c b) = defs_in inside b
  defs_of inside n (for x e b) = defs_in inside b
  defs_of inside n (def xs b) = (test inside then n ∷ [] else []) ++ defs_in inside b

  pub defs_among : Arms → List ℕ
  defs_among no_arms = []
  defs_among (a else_arms rest) = defs_under a ++ defs_among rest

  pub defs_under : Arm → List ℕ
  defs_under (on c b) = defs_in true b
  defs_under (otherwise b) = defs_in true b

unfoldable pub defs_in_ifs : Stmts → List ℕ
defs_in_ifs b = defs_in false b

-- "programs with no Def anywhere inside an If"
abbrev pub NoDefInIf : Stmts → Type 0
NoDefInIf b = defs_in_ifs b ≡ []

-- ---- whether an image has it, of any byte string

-- it has; it has not, and this is the first Def inside an If, with its span; or the bytes are no image, by the codes 1 to 8
pub data Steadiness : Type 0 where
  steady : Steadiness
  def_in_if : ℕ → ℕ → ℕ → Steadiness
  faulty : Fault → Steadiness

unfoldable pub steady_by : List Node → List ℕ → Steadiness
steady_by ds [] = steady
steady_by ds (n ∷ ns) = def_in_if n (node_of ds n).span_start (node_of ds n).span_end

unfoldable pub steadiness : List ℕ → Steadiness
steadiness bs =
    let sound : Steadiness = steady_by (nodes_of bs) (defs_in_ifs (tree_of (nodes_of bs))) in
    if_some (image_fault bs) (λ f. faulty f) sound

-- ---- "after each accepted module statement"

-- the module's first k statements
unfoldable pub up_to : ℕ → Stmts → Stmts
up_to zero b = no_stmts
up_to (suc k) no_stmts = no_stmts
up_to (suc k) (a next as') = a next up_to k as'

-- where the walk stands behind them, if all of them are accepted; the program may be refused later
unfoldable pub after_first : ℕ → List Name → Setting → Stmts → End
after_first k ws setting b = program ws setting (up_to k b) start

unfoldable pub known_open : Unit {0}
unfolding defs_in defs_in_ifs steady_by steadiness up_to after_first
known_open = tt
