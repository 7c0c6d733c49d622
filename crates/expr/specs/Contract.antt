-- What checking an expression asks, and what it leaves.
use Rattle.std.specs.Prelude.{◌≡◌, Bool, true, false, List, [], ◌++◌, map, ℕ, suc, ◌+◌, ◌≤◌, ◌<◌, length, get_or, take, drop}
use Rattle.meaning.specs.Limits.{most_nodes, deepest}
use Rattle.meaning.specs.Types.{Ty, unknown, map_iter, filter_iter}
use Rattle.meaning.specs.Image.{Name, node_count, nodes_from, nodes_of, node_of, names_of, depth}
use Rattle.meaning.specs.Image.{Node as ImageNode}
use Rattle.meaning.specs.Decode.{expr_at, exprs_from, form_at, stop_of}
use Rattle.meaning.specs.Frames.{Frames}
use Rattle.meaning.specs.Operators.{Checked, ok}
use Rattle.meaning.specs.Rules.{Children, each, check_all, check_form, stream_rule}
use Rattle.meaning.proofs.Faults.{Sound}
use Rattle.meaning.proofs.Nesting.{Children as ChildrenOf}
use Rattle.types.specs.Table.{Tab, capacity, Wf, Grown, denote}
use Rattle.frames.specs.Env.{Rows, Fit}
use Rattle.state.specs.Giving.{Told}
use Rattle.nodes.specs.Operands.{operand_rule}

-- ---- what is asked

-- a sound image, a sound table, frames within it, and room for a type, an element and a place on the stack for each node from i to e
pub record Ready (bs : List ℕ) (nodes : ℕ) (fs : Rows) (top : ℕ) (t : Tab) (st : List ℕ) (sp i e : ℕ) : Type 0 where
  pub sound : Sound bs
  pub nodes_at : nodes ≡ nodes_from bs
  pub wf : Wf t
  pub fit : Fit t fs top
  pub stack : length st ≡ most_nodes
  pub types_room : t.n + e ≤ capacity t.cells + i
  pub elements_room : t.m + e ≤ capacity t.cells + i
  pub stack_room : sp + e ≤ most_nodes + i

-- node i is there, and d levels from it on are enough
pub record At (bs : List ℕ) (i d : ℕ) : Type 0 where
  pub there : i < node_count bs
  pub deep : suc deepest ≤ depth i 0 (nodes_of bs) + d

-- node i is there and is what was read, and d levels are enough for each of its children
pub record Inner (bs : List ℕ) (i d : ℕ) (node : ImageNode) : Type 0 where
  pub there : i < node_count bs
  pub deep : deepest ≤ depth i 0 (nodes_of bs) + d
  pub read : node ≡ node_of (nodes_of bs) i

-- n children of some node start at i, perhaps with more behind them, and d levels are enough for each
pub record Row (bs : List ℕ) (i n d : ℕ) : Type 0 where
  pub parent : ℕ
  pub more : ℕ
  pub there : parent < node_count bs
  pub behind : parent < i
  pub children : ChildrenOf (nodes_of bs) (node_of (nodes_of bs) parent) i (n + more)
  pub deep : deepest ≤ depth parent 0 (nodes_of bs) + d

-- ---- what is left, whether it ended well or not

-- of the table t and the stack st, after the nodes from i to e: at most one type for each, at most one element for each but x of them,
-- and the stack below sp as it was
pub record Fine (t u : Tab) (st su : List ℕ) (sp i e x : ℕ) : Type 0 where
  pub grown : Grown t u
  pub types_spent : u.n + i ≤ t.n + e
  pub elements_spent : u.m + i + x ≤ t.m + e
  pub stack : length su ≡ most_nodes
  pub kept : (j : ℕ) → j < sp → get_or su j 0 ≡ get_or st j 0

-- r is the type of a number of the table u, or a refusal
pub record Done (ws : List Name) (r : Checked) (t u : Tab) (st su : List ℕ) (sp i e M code place number a b : ℕ) : Type 0 where
  pub told : Told ws r (ok (denote u number)) u M code place a b
  pub below : code ≡ 0 → number < u.n
  pub fine : Fine t u st su sp i e 1

-- ---- lists of expressions

-- n expressions from i on, each at most d deep, over the frames Γ
unfoldable pub checks : List ℕ → Frames → ℕ → ℕ → ℕ → Children
checks bs Γ d n i = check_all (names_of bs) Γ (exprs_from (nodes_of bs) (λ j. expr_at (nodes_of bs) d j) n i)

-- the children cs were checked up to the first refusal, the types of n of them on the stack from sp on if there was none
pub record Values (ws : List Name) (cs : Children) (t u : Tab) (st su : List ℕ) (sp n i e M code place a b : ℕ) : Type 0 where
  pub told : (k : List Ty → Checked) (ts : List Ty)
      → Told ws (each cs k ts) (k (ts ++ map (denote u) (take n (drop sp su)))) u M code place a b
  pub known : code ≡ 0 → (j : ℕ) → j < n → get_or su (sp + j) 0 < u.n
  pub fine : Fine t u st su sp i e n

-- node i's children are all checked before its rule looks at them
pub record Operand (bs : List ℕ) (i d : ℕ) : Type 0 where
  pub rule : (Γ : Frames) → let node = node_of (nodes_of bs) i in
      check_form (names_of bs) Γ i (form_at (nodes_of bs) (λ j. expr_at (nodes_of bs) d j) i)
      ≡ each (checks bs Γ d node.children (suc i)) (operand_rule node.kind node.arg i (suc i) (stop_of (nodes_of bs) (suc i))) []

-- ---- calls of names

-- the code that refuses the first argument of map, or of filter
unfoldable pub first_code : Bool → ℕ
first_code true = 44
first_code false = 42

-- map, or filter
unfoldable pub stream_of : Bool → Children → Checked
stream_of true cs = stream_rule 44 filter_iter cs
stream_of false cs = stream_rule 42 (λ t. map_iter unknown) cs
