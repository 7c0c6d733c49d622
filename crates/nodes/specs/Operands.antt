-- Nodes whose children are all checked before their rule looks at them: what the children's types give.
use Rattle.std.specs.Prelude.{◌≡◌, List, [], ◌∷◌, ℕ, suc, ◌<◌, length, get_or}
use Rattle.meaning.specs.Limits.{most_nodes}
use Rattle.meaning.specs.Base.{choose}
use Rattle.meaning.specs.Types.{Ty, unknown, tuple, tys}
use Rattle.meaning.specs.Image.{Name, node_count, nodes_from, nodes_of, node_of}
use Rattle.meaning.specs.Image.{Node as ImageNode}
use Rattle.meaning.specs.Decode.{unary_of, binary_of, stop_of}
use Rattle.meaning.specs.Operators.{Checked, ok, unary_rule, binary_rule}
use Rattle.meaning.specs.Rules.{index_rule}
use Rattle.meaning.proofs.Faults.{Headed}
use Rattle.types.specs.Table.{Tab, Wf}
use Rattle.types.specs.Steps.{Listed}
use Rattle.rules.specs.Leaves.{Asks}
use Rattle.image.specs.declared.Cursor.{Cursor}
use Rattle.state.specs.Giving.{Given}

-- the number of a Literal's type
unfoldable pub literal_number : ℕ → ℕ
literal_number a = get_or (2 ∷ 1 ∷ 3 ∷ 4 ∷ 5 ∷ []) a 0

-- node n of kind k and arg a, whose first children are at m and o: Unary, Binary, Tuple and Index go by their children's types; what is
-- left is Unknown (Attribute, Set, TreeSet, and a Call of what is no name)
unfoldable pub operand_rule : ℕ → ℕ → ℕ → ℕ → ℕ → List Ty → Checked
operand_rule k a n m o ts =
    choose k (ok unknown)
    ((22, unary_rule n (unary_of a) (get_or ts 0 unknown))
    ∷ (23, binary_rule n (binary_of a) (get_or ts 0 unknown) (get_or ts 1 unknown))
    ∷ (28, ok (tuple (tys ts)))
    ∷ (31, index_rule m (get_or ts 0 unknown) o (get_or ts 1 unknown))
    ∷ [])

-- the types of the children of the cursor's node d stand on the stack from sp on
pub record Decidable (bs : List ℕ) (c : Cursor) (t : Tab) (st : List ℕ) (sp : ℕ) (d : ImageNode) : Type 0 where
  pub headed : Headed bs
  pub nodes_at : c.nodes ≡ nodes_from bs
  pub there : c.at < node_count bs
  pub node : d ≡ node_of (nodes_of bs) c.at
  pub listed : Listed t st sp d.children
  pub stack : length st ≡ most_nodes
  pub unary : d.kind ≡ 22 → (d.arg < 3) × (d.children ≡ 1)
  pub index : d.kind ≡ 31 → (d.children ≡ 2) × (suc c.at < node_count bs) × (stop_of (nodes_of bs) (suc c.at) < node_count bs)

-- ---- rules that look at one or two types

-- a Binary at node n, by the types of its operands
pub record Operable (t : Tab) (left right n arg : ℕ) : Type 0 where
  pub wf : Wf t
  pub first : left < t.n
  pub second : right < t.n
  pub node : n < most_nodes
  pub operator : arg < 14

-- an argument's type i, judged at node n
pub record Judges (t : Tab) (i n : ℕ) : Type 0 where
  pub wf : Wf t
  pub below : i < t.n
  pub node : n < most_nodes

-- the same, and there is room for the type that it makes
pub record Streamable (t : Tab) (i n : ℕ) : Type 0 where
  pub asks : Asks t i
  pub node : n < most_nodes

-- what `rule` gives at node n, whatever the names and the number of nodes
pub record Ruled (t u : Tab) (rule : Checked) (n code place number a b : ℕ) : Type 0 where
  pub says : (ws : List Name) (M : ℕ) → n < M → Given ws rule t u 0 M code place number a b
