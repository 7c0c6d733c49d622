-- What the parts of an assignment tell: a name written, a type spread over the targets of a Tuple, and those targets one after the other.
use Rattle.std.specs.Prelude.{◌≡◌, List, [], ◌⊎◌, ℕ, ◌+◌, ◌≤◌, ◌<◌, length, get_or}
use Rattle.meaning.specs.Limits.{deepest}
use Rattle.meaning.specs.Base.{or_else}
use Rattle.meaning.specs.Types.{Ty, unknown, kind, parts}
use Rattle.meaning.specs.Image.{Name, node_count, nodes_of, node_of, depth}
use Rattle.meaning.specs.Message.{refusal}
use Rattle.meaning.specs.Walk.{State, state, End, wrong, assign_name, unpacked, unpack_into}
use Rattle.types.specs.Table.{Tab, Wf, Means, denote}
use Rattle.frames.specs.Env.{Rows, frames_of, Fit}
use Rattle.rules.specs.Outcome.{pieces}
use Rattle.state.specs.Notes.{Places}
use Rattle.targets.specs.Ending.{Alone, ended, Named}

-- ---- a name

-- gs is fs after the type i is assigned to x at a place, whatever the table
pub record Written (fs gs : Rows) (top : ℕ) (place : Places) (x i code a b : ℕ) : Type 0 where
  pub says : (ws : List Name) (t : Tab) (y : Ty) → Wf t → Fit t fs top → i < t.n
      → assign_name place.here x (denote t i) (state (frames_of t fs top) y) ≡ ended ws t gs top y code place a b
  pub fit : (t : Tab) → Wf t → Fit t fs top → i < t.n → Fit t gs top
  pub named : (t : Tab) → Wf t → Fit t fs top → i < t.n → (M : ℕ) → place.here < M → Named t M code place a b
  pub typing : code ≡ 9 → ⊥

-- ---- a Tuple of targets

-- the types that k targets get
unfoldable pub spread : ℕ → Ty → List Ty
spread k t = or_else (unpacked k t) []

-- type i can be unpacked into k targets
pub record Spreads (t : Tab) (i k : ℕ) : Type 0 where
  pub kinds : (kind (denote t i) ≡ 0) ⊎ ((kind (denote t i) ≡ 8) ⊎ (kind (denote t i) ≡ 10))
  pub many : kind (denote t i) ≡ 10 → length (parts (denote t i)) ≡ k

-- code 0 and the type can be unpacked, or 26 or 27; whatever the counts of the table that the cells cs hold
pub record Unpacks (cs : List ℕ) (i k code a b : ℕ) : Type 0 where
  pub well : code ≡ 0 → (t : Tab) → t.cells ≡ cs → Wf t → i < t.n → Spreads t i k
  pub ill : (code ≡ 0 → ⊥) → (t : Tab) → t.cells ≡ cs → Wf t → i < t.n → (ws : List Name) (n : ℕ) (s : State) (go : List Ty → End)
      → unpack_into n k (denote t i) s go ≡ wrong (refusal code n (pieces ws t code a b)) s
  pub named : (t : Tab) → t.cells ≡ cs → Wf t → i < t.n → (M : ℕ) (place : Places) → place.here < M → Named t M code place a b
  pub typing : code ≡ 9 → ⊥
  pub alone : Alone code

-- some table has these cells, and there type i can be unpacked into more than j targets
pub record Sharing (cs : List ℕ) (i j : ℕ) : Type 0 where
  pub table : Tab
  pub cells : table.cells ≡ cs
  pub wf : Wf table
  pub below : i < table.n
  pub count : ℕ
  pub spreads : Spreads table i count
  pub within : j < count

-- r is the type that target j gets of type i
pub record Share (cs : List ℕ) (i j r : ℕ) : Type 0 where
  pub says : (t : Tab) (k : ℕ) → t.cells ≡ cs → Wf t → i < t.n → Spreads t i k → j < k → Means t r (get_or (spread k (denote t i)) j unknown)

-- node i is there, has n children, and d levels are enough for each of them
pub record Within (bs : List ℕ) (i n d : ℕ) : Type 0 where
  pub there : i < node_count bs
  pub many : n ≡ (node_of (nodes_of bs) i).children
  pub deep : deepest ≤ depth i 0 (nodes_of bs) + d
