-- What the walk is lent and may change, at one moment: the frames' rows, the cells of the type table, the notes and the stack. A contract
-- names two moments, before and after, and says the rest through these.
use Rattle.std.specs.Prelude.{List, ℕ}
use Rattle.meaning.specs.Types.{Ty}
use Rattle.meaning.specs.Walk.{State, state}
use Rattle.types.specs.Table.{Tab}
use Rattle.frames.specs.Env.{Rows, frames_of}
use Rattle.state.specs.Notes.{tab_in}
use Rattle.state.specs.declared.Notes.{Notes}
use Rattle.state.specs.declared.Walk.{Walk}

pub record Lent : Type 0 where
  pub rows : Rows
  pub cells : List ℕ
  pub notes : Notes
  pub stack : List ℕ

abbrev pub lent : Rows → List ℕ → Walk → Lent
lent rows cells w = record { rows = rows; cells = cells; notes = w.notes; stack = w.stack }

-- the type table
abbrev pub table_of : Lent → Tab
table_of w = tab_in w.cells w.notes

-- the state of the definitions: the frames up to the row `top`, and y, the return type so far
abbrev pub state_in : Lent → ℕ → Ty → State
state_in w top y = state (frames_of (table_of w) w.rows top) y
