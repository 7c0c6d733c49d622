-- What the functions of this crate ask of what they are lent, w, and what they leave of it, v. They stand at a cursor c of the image bs, and
-- the newest frame is the row `top`.
use Rattle.std.specs.Prelude.{List, ℕ, suc, ◌<◌, IsErr}
use Rattle.meaning.specs.Types.{Ty}
use Rattle.meaning.specs.Image.{node_count, nodes_of, names_of}
use Rattle.meaning.specs.Decode.{stop_of, exprs_from, expr_at}
use Rattle.meaning.specs.Walk.{End, assign_to, assign_each}
use Rattle.types.specs.Table.{denote}
use Rattle.frames.specs.Env.{Rows}
use Rattle.image.specs.declared.Cursor.{Cursor}
use Rattle.state.specs.Notes.{types_in, since_in, places, places_in, first_in, second_in, Kept}
use Rattle.state.specs.Answer.{Outcome, code_of, Settled}
use Rattle.state.specs.declared.Notes.{Notes}
use Rattle.state.specs.Lent.{Lent, table_of, state_in}
use Rattle.expr.specs.Contract.{At}
use Rattle.expr.specs.Clauses.{Asked}
use Rattle.targets.specs.Ending.{Assigned}
use Rattle.targets.specs.Spreading.{Written, spread, Spreads, Unpacks, Within}

-- ---- what is asked

-- what an expression asks of room, from the cursor's node to its end and with the whole stack free; and more
abbrev pub Room : List ℕ → Cursor → ℕ → Lent → Type 0 → Type 0
Room bs c top w more = Asked bs c.nodes top 0 c.at (stop_of (nodes_of bs) c.at) w more

-- a target, at most d deep, for a value of type ty
abbrev pub Assignable : List ℕ → Cursor → ℕ → ℕ → ℕ → Lent → Type 0
Assignable bs c top ty d w = Room bs c top w (At bs c.at d × (ty < types_in w.notes))

-- the n targets of a Tuple, each at most d deep, for a value of type ty that can be unpacked into them
abbrev pub Spreadable : List ℕ → Cursor → ℕ → ℕ → ℕ → ℕ → Lent → Type 0
Spreadable bs c top n ty d w =
    Room bs c top w (Within bs c.at n d × ((ty < types_in w.notes) × Spreads (table_of w) ty n))

-- ---- what is left

-- type ty is assigned to name x at node n, and o is the answer
pub record AssignsName (top n x ty : ℕ) (o : Outcome) (fs gs : Rows) (ns ms : Notes) : Type 0 where
  pub code : ℕ
  pub a : ℕ
  pub b : ℕ
  pub written : Written fs gs top (places n (since_in ms)) x ty code a b
  pub settled : Settled ns ms o tt code n a b

-- type ty can be unpacked into the k targets of the Tuple at node n, or not, and o is the answer
pub record UnpacksInto (n k ty : ℕ) (o : Outcome) (cs : List ℕ) (ns ms : Notes) : Type 0 where
  pub code : ℕ
  pub a : ℕ
  pub b : ℕ
  pub unpacks : Unpacks cs ty k code a b
  pub settled : Settled ns ms o tt code n a b

-- the nodes from the cursor's to its end ended as r says, whatever the return type so far, and o is the answer
abbrev pub Ends : List ℕ → Cursor → ℕ → Outcome → Lent → Lent → (Ty → End) → Type 0
Ends bs c top o w v r =
    Assigned (names_of bs) r (table_of w) (table_of v) v.rows top v.stack c.at (stop_of (nodes_of bs) c.at) (node_count bs)
    (code_of o v.notes) (places_in v.notes) (first_in v.notes) (second_in v.notes)
    × Kept w.notes v.notes (IsErr o)

abbrev pub Assigns : List ℕ → Cursor → ℕ → ℕ → ℕ → Outcome → Lent → Lent → Type 0
Assigns bs c top ty d o w v = Ends bs c top o w v λ y.
    assign_to (names_of bs) (expr_at (nodes_of bs) d c.at) (denote (table_of w) ty) (state_in w top y)

abbrev pub AssignsEach : List ℕ → Cursor → ℕ → ℕ → ℕ → ℕ → Outcome → Lent → Lent → Type 0
AssignsEach bs c top n ty d o w v = Ends bs c top o w v λ y.
    assign_each (names_of bs) (exprs_from (nodes_of bs) (λ j. expr_at (nodes_of bs) d j) n (suc c.at)) (spread n (denote (table_of w) ty)) (state_in w top y)
