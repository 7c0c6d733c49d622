-- What the walk over the statements asks, and how it ends.
use Rattle.std.specs.Prelude.{◌≡◌, Bool, List, [], ◌∷◌, ℕ, ◌+◌, ◌≤◌, ◌<◌, ltb, Result, Ok, Err}
use Rattle.meaning.specs.Limits.{deepest}
use Rattle.meaning.specs.Base.{test◌then◌else◌}
use Rattle.meaning.specs.Types.{Ty}
use Rattle.meaning.specs.Tree.{place, on, otherwise}
use Rattle.meaning.specs.Image.{Name, node_count, nodes_of, node_of, names_of, depth}
use Rattle.meaning.specs.Decode.{stop_of, expr_at, act_at, stmt_at, block_at}
use Rattle.meaning.specs.Frames.{Frame, Frames, empty}
use Rattle.meaning.specs.Walk.{Setting, plain, strict, State, state, End, checked, condition, assign_to, return_rule, over_elements, with_params, walk, act, body, arm}
use Rattle.meaning.specs.Answer.{walked}
use Rattle.meaning.proofs.Faults.{Sound}
use Rattle.meaning.proofs.Nesting.{Children}
use Rattle.types.specs.Table.{Tab, capacity, Wf, Grown, denote}
use Rattle.frames.specs.Env.{Rows, frames_of, Fit}
use Rattle.state.specs.Notes.{Places}
use Rattle.expr.specs.Contract.{Ready, At}
use Rattle.targets.specs.Ending.{ended, Named, Left}
use Rattle.stmt.specs.declared.Stop.{Stop}
use Rattle.stmt.specs.declared.Stop.TheVariants.{Wrong, TooDeep}

-- the state that rows and a return type's number stand for
abbrev pub state_of : Tab → Rows → ℕ → ℕ → State
state_of t fs top ret = state (frames_of t fs top) (denote t ret)

-- the setting, which code tells by whether it is plain
abbrev pub setting_if : Bool → Setting
setting_if b = test b then plain else strict

-- ---- the parts of the walk, by node

-- the statement at node i, its children at most d deep
unfoldable pub acted : List ℕ → Setting → Bool → ℕ → ℕ → State → End
acted bs setting loop d i s =
    act (names_of bs) setting loop i (act_at (nodes_of bs) (λ j. expr_at (nodes_of bs) d j) (λ j. block_at (nodes_of bs) d j) i) s

-- the statement at node i, at most d deep
unfoldable pub walked_at : List ℕ → Setting → Bool → ℕ → ℕ → State → End
walked_at bs setting loop d i s = walk (names_of bs) setting loop (stmt_at (nodes_of bs) d i) s

-- the Block at node i, at most d deep
unfoldable pub body_at : List ℕ → Setting → Bool → Bool → ℕ → ℕ → State → End
body_at bs setting loop drops d i s = body (names_of bs) setting loop drops (block_at (nodes_of bs) d i) s

unfoldable pub condition_at : List ℕ → ℕ → ℕ → State → End
condition_at bs d i s = condition (names_of bs) (expr_at (nodes_of bs) d i) s

-- the Assign at node i: its value is the second child, and is checked first
unfoldable pub assigned_at : List ℕ → ℕ → ℕ → State → End
assigned_at bs d i s =
    checked (names_of bs) (expr_at (nodes_of bs) d (stop_of (nodes_of bs) (i + 1))) s
    λ t. assign_to (names_of bs) (expr_at (nodes_of bs) d (i + 1)) t s

-- a Return of the value at node i
unfoldable pub returned_at : List ℕ → ℕ → ℕ → State → End
returned_at bs d i s =
    checked (names_of bs) (expr_at (nodes_of bs) d i) s λ t. return_rule (place (expr_at (nodes_of bs) d i)) t s

-- of the n nodes of an If from i on, the first branch's Block: after its condition, or itself where it is the last
unfoldable pub arm_block : List ℕ → ℕ → ℕ → ℕ
arm_block bs n i = test ltb 1 n then stop_of (nodes_of bs) i else i

-- and that branch
unfoldable pub armed_at : List ℕ → Setting → Bool → ℕ → ℕ → ℕ → State → End
armed_at bs setting loop d n i s =
    arm (names_of bs) setting loop
    (test ltb 1 n
    then on (expr_at (nodes_of bs) d i) (block_at (nodes_of bs) d (stop_of (nodes_of bs) i))
    else otherwise (block_at (nodes_of bs) d i)) s

-- ---- the walk's answers, and the notes

-- how a statement ended, as the code has it
abbrev pub Answer : Type 0
Answer = Result (Unit {0}) Stop

-- an answer in the scope's numbers: 0, the code that is noted, or 9
abbrev pub end_code : Answer → ℕ → ℕ
end_code (Ok _) code = 0
end_code (Err Wrong) code = code
end_code (Err TooDeep) code = 9

-- if there is a typing refusal, it has a code, and not that of a ninth frame
pub record Tells (code : ℕ) (refused : Type 0) : Type 0 where
  pub coded : refused → code ≡ 0 → ⊥
  pub typing : refused → code ≡ 9 → ⊥

abbrev pub Refuses : Answer → ℕ → Type 0
Refuses e code = Tells code (e ≡ Err Wrong)

-- ---- what is asked

-- all that an expression asks, and the return type so far is a number of the table
pub record Standing (bs : List ℕ) (nodes : ℕ) (fs : Rows) (top : ℕ) (t : Tab) (st : List ℕ) (ret i e : ℕ) : Type 0 where
  pub ready : Ready bs nodes fs top t st 0 i e
  pub kept : ret < t.n

-- no kind of a statement with a body
pub record Bodiless (k : ℕ) : Type 0 where
  pub no_if : k ≡ 8 → ⊥
  pub no_while : k ≡ 9 → ⊥
  pub no_for : k ≡ 10 → ⊥
  pub no_def : k ≡ 11 → ⊥

-- node i is a statement of kind k, and d levels are enough for each of its children
pub record Stmt (bs : List ℕ) (i d k : ℕ) : Type 0 where
  pub there : i < node_count bs
  pub deep : deepest ≤ depth i 0 (nodes_of bs) + d
  pub kind : (node_of (nodes_of bs) i).kind ≡ k

-- node i has two children
pub record Pair (bs : List ℕ) (i d : ℕ) : Type 0 where
  pub there : i < node_count bs
  pub first : At bs (i + 1) d
  pub second : At bs (stop_of (nodes_of bs) (i + 1)) d
  pub last : stop_of (nodes_of bs) (stop_of (nodes_of bs) (i + 1)) ≡ stop_of (nodes_of bs) i

-- at node i starts a branch, of n nodes of an If
pub record Branch (bs : List ℕ) (i n d : ℕ) : Type 0 where
  pub first : At bs i d
  pub block : At bs (arm_block bs n i) d

-- the last n children of node i start at j
pub record Within (bs : List ℕ) (i j n : ℕ) : Type 0 where
  pub there : i < node_count bs
  pub behind : i < j
  pub children : Children (nodes_of bs) (node_of (nodes_of bs) i) j n

-- n Params of a Def start at j, and its Block stands behind them
pub record Params (bs : List ℕ) (j n : ℕ) : Type 0 where
  pub parent : ℕ
  pub within : Within bs parent j (n + 1)

-- ---- what is left, unless a Def needed a ninth frame

-- no frame below `top` is gone, and the return type is a number of the table
pub record Fine (t u : Tab) (gs : Rows) (top high ret : ℕ) (su : List ℕ) (i e : ℕ) : Type 0 where
  pub left : Left t u gs high su i e
  pub kept : ret < u.n
  pub raised : top ≤ high

-- a Def, at this place of M nodes, needed a ninth frame: of the table no more was spent than of any walk
pub record Deep (t u : Tab) (i e M place : ℕ) : Type 0 where
  pub grown : Grown t u
  pub types_spent : u.n + i ≤ t.n + e
  pub placed : place < M

pub record Done (ws : List Name) (r : End) (t u : Tab) (gs : Rows) (top high ret : ℕ) (su : List ℕ) (i e M code : ℕ) (place : Places) (a b : ℕ) : Type 0 where
  pub says : r ≡ ended ws u gs high (denote u ret) code place a b
  pub fine : (code ≡ 9 → ⊥) → Fine t u gs top high ret su i e
  pub named : (code ≡ 9 → ⊥) → Named u M code place a b
  pub deep : code ≡ 9 → Deep t u i e M place.here

-- gs is fs with the names xs in the row `top` as Unknown, whatever the table
pub record Entered (fs gs : Rows) (top : ℕ) (xs : List ℕ) : Type 0 where
  pub says : (t : Tab) (f : Frame) (Γ : Frames) → Wf t → Fit t fs top → frames_of t fs top ≡ f ∷ Γ → frames_of t gs top ≡ with_params xs f ∷ Γ
  pub fit : (t : Tab) → Wf t → Fit t fs top → Fit t gs top

-- the value at node i was checked, and what a walk over it gives is the type of a number
pub record Iterated (bs : List ℕ) (d : ℕ) (t u : Tab) (fs : Rows) (top : ℕ) (su : List ℕ) (i e M code : ℕ) (place' : Places) (number a b : ℕ) : Type 0 where
  pub well : code ≡ 0 → (y : Ty) (k : Ty → End)
      → checked (names_of bs) (expr_at (nodes_of bs) d i) (state (frames_of t fs top) y)
      (λ x. over_elements (place (expr_at (nodes_of bs) d i)) x (state (frames_of t fs top) y) k)
      ≡ k (denote u number)
  pub ill : (code ≡ 0 → ⊥) → (y : Ty) (k : Ty → End)
      → checked (names_of bs) (expr_at (nodes_of bs) d i) (state (frames_of t fs top) y)
      (λ x. over_elements (place (expr_at (nodes_of bs) d i)) x (state (frames_of t fs top) y) k)
      ≡ ended (names_of bs) u fs top y code place' a b
  pub below : code ≡ 0 → number < u.n
  pub named : Named u M code place' a b
  pub left : Left t u fs top su i e
  pub typing : code ≡ 9 → ⊥

-- ---- the program

-- a sound image, a table of the plain types with room for its nodes, and an empty module frame
pub record Started (bs : List ℕ) (fs : Rows) (t : Tab) : Type 0 where
  pub sound : Sound bs
  pub wf : Wf t
  pub types : t.n ≡ 8
  pub elements : t.m ≡ 0
  pub fit : Fit t fs 0
  pub module_frame : frames_of t fs 0 ≡ empty ∷ []
  pub room : node_count bs + 8 ≤ capacity t.cells

-- how the whole walk ended, and the return type and the stack where it stood; node 0, the module's Block, forms no type
pub record Ran (bs : List ℕ) (setting : Setting) (t u : Tab) (gs : Rows) (top code : ℕ) (place : Places) (a b : ℕ) : Type 0 where
  pub returns : Ty
  pub stack : List ℕ
  pub says : walked setting bs ≡ ended (names_of bs) u gs top returns code place a b
  pub named : (code ≡ 9 → ⊥) → Named u (node_count bs) code place a b
  pub left : (code ≡ 9 → ⊥) → Left t u gs top stack 1 (node_count bs)
  pub deep : code ≡ 9 → Deep t u 1 (node_count bs) (node_count bs) place.here
