-- The names that the sheet of an accepted program lists, with their types, as the sheet's writer takes them.
use Rattle.std.specs.Prelude.{◌≡◌, Bool, List, ℕ}
use Rattle.meaning.specs.Image.{names_of, nodes_of}
use Rattle.meaning.specs.Decode.{tree_of}
use Rattle.meaning.specs.Frames.{newest, slot_in}
use Rattle.meaning.specs.Sheet.{listed_slot, listing}
use Rattle.types.specs.Table.{Tab, Wf}
use Rattle.frames.specs.Env.{Rows, Held, frames_of, slot_type, held_type, HeldBelow, cell_room, Fit}
use Rattle.sheet.specs.declared.list.ListedName.{ListedName}
use Rattle.sheet.specs.Listing.{Listing, listed}

-- h is what the sheet tells of name x, by whether the module may bind it, whatever the table
pub record ToldOf (fs : Rows) (top x : ℕ) (bound : Bool) (h : Held) : Type 0 where
  pub says : (t : Tab) → Wf t → slot_type (listed_slot bound (slot_in (frames_of t fs top) x)) ≡ held_type t h
  pub known : (t : Tab) → Wf t → Fit t fs top → HeldBelow (t.n) h
  pub small : HeldBelow cell_room h

-- n names are listed: those of the newest frame and those that the module may bind, whatever the table
pub record Names (bs : List ℕ) (fs : Rows) (top : ℕ) (cells : List ListedName) (n : ℕ) : Type 0 where
  pub stands : (t : Tab) → Wf t → Fit t fs top → Listing bs t cells n
  pub listed_is : (t : Tab) → Wf t → Fit t fs top
      → listed bs t cells n ≡ listing (names_of bs) (tree_of (nodes_of bs)) (newest (frames_of t fs top))
