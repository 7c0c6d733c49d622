-- Frames, the newest first: "Lookup goes from the newest frame down; absent is Unknown; assignment writes the newest frame."
use Rattle.std.specs.Prelude.{List, [], ◌∷◌, ℕ, get_or, set, replicate}
use Rattle.std.proofs.Math.Option.{Option, none, some}
use Rattle.meaning.specs.Limits.{most_names}
use Rattle.meaning.specs.Base.{test◌then◌else◌, if_some, or_else}
use Rattle.meaning.specs.Types.{Ty, unknown, same}

-- A type, and "the node that first made it known: the Variable assigned, or the iterable for a loop name. Unknown has none".
pub record Binding : Type 0 where
  pub type : Ty
  pub first : Option ℕ

abbrev pub binding : Ty → Option ℕ → Binding
binding t m = record { type = t; first = m }

-- what a name has that nothing is known of
abbrev pub blank : Binding
blank = binding unknown none

-- t, known since the old node, or since n where there is none: "an equal or Unknown assignment keeps the old node"
unfoldable pub since : Option ℕ → ℕ → Ty → Binding
since old n t = binding t (if_some old some (test same t unknown then none else some n))

-- A frame has a slot for each name that an image can have. Names are numbered in byte order, and so are the slots.
abbrev pub Frame : Type 0
Frame = List (Option Binding)

abbrev pub Frames : Type 0
Frames = List Frame

unfoldable pub empty : Frame
empty = replicate most_names none

unfoldable pub newest : Frames → Frame
newest [] = []
newest (f ∷ fs) = f

-- the newest frame's own slot
unfoldable pub slot_in : Frames → ℕ → Option Binding
slot_in Γ x = get_or (newest Γ) x none

unfoldable pub find : Frames → ℕ → Option Binding
find [] x = none
find (f ∷ fs) x = if_some (get_or f x none) some (find fs x)

-- "A lookup shall give the type and the node that first made it known"
unfoldable pub lookup : Frames → ℕ → Binding
lookup Γ x = or_else (find Γ x) blank

unfoldable pub write : ℕ → Binding → Frames → Frames
write x b [] = []
write x b (f ∷ fs) = set f x (some b) ∷ fs

unfoldable pub frames_open : Unit {0}
unfolding since empty newest slot_in find lookup write
frames_open = tt
