-- How a part of the walk over the statements ended, by a code, where it points and two numbers; and what it leaves.
use Rattle.std.specs.Prelude.{◌≡◌, List, ℕ, ◌+◌, ◌≤◌, ◌<◌, eqb, length}
use Rattle.std.proofs.Math.Option.{Option, none}
use Rattle.meaning.specs.Limits.{most_nodes}
use Rattle.meaning.specs.Base.{◌or◌, test◌then◌else◌}
use Rattle.meaning.specs.Types.{Ty}
use Rattle.meaning.specs.Image.{Name}
use Rattle.meaning.specs.Message.{conflict}
use Rattle.meaning.specs.Walk.{State, state, End, done, wrong, too_deep}
use Rattle.types.specs.Table.{Tab, Grown}
use Rattle.frames.specs.Env.{Rows, First, first_node, frames_of, Fit}
use Rattle.rules.specs.Outcome.{types_named, pieces}
use Rattle.state.specs.Notes.{Places}

-- 25 and 23 "point at the first place too", and no other code does; m is the first node as it is noted
unfoldable pub first_at : ℕ → First → Option ℕ
first_at code m = test eqb code 23 or eqb code 25 then first_node m else none

abbrev pub Alone : ℕ → Type 0
Alone code = (code ≡ 23 → ⊥) × (code ≡ 25 → ⊥)

-- code 0 is all well, 9 a Def that needs a ninth frame, and every other a typing refusal; y is the return type so far
unfoldable pub ended : List Name → Tab → Rows → ℕ → Ty → ℕ → Places → ℕ → ℕ → End
ended ws t fs top y code place a b =
    let s : State = state (frames_of t fs top) y in
    test eqb code 0 then done s else test eqb code 9 then too_deep place.here
    else wrong (conflict code place.here (first_at code place.since) (pieces ws t code a b)) s

-- what a message names is within the table, and its counts fit a word; the place is one of M nodes
pub record Named (u : Tab) (M code : ℕ) (place : Places) (a b : ℕ) : Type 0 where
  pub first : 1 ≤ types_named code → a < u.n
  pub second : 2 ≤ types_named code → b < u.n
  pub small : (code ≡ 0 → ⊥) → types_named code ≡ 0 → (a < 4294967296) × (b < 4294967296)
  pub placed : (code ≡ 0 → ⊥) → place.here < M

-- what the nodes from i to e leave of the table t, the rows and the stack, whether it ended well or with a typing refusal
pub record Left (t u : Tab) (gs : Rows) (high : ℕ) (su : List ℕ) (i e : ℕ) : Type 0 where
  pub grown : Grown t u
  pub fit : Fit u gs high
  pub stack : length su ≡ most_nodes
  pub types_spent : u.n + i ≤ t.n + e
  pub elements_spent : u.m + i ≤ t.m + e

-- a target: r y is how it ended, whatever the return type y; it never needs a frame
pub record Assigned (ws : List Name) (r : Ty → End) (t u : Tab) (gs : Rows) (top : ℕ) (su : List ℕ) (i e M code : ℕ) (place : Places) (a b : ℕ) : Type 0 where
  pub says : (y : Ty) → r y ≡ ended ws u gs top y code place a b
  pub named : Named u M code place a b
  pub left : Left t u gs top su i e
  pub typing : code ≡ 9 → ⊥
