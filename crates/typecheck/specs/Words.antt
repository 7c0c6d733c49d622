-- What the program's arguments decide: the setting, and the line that it prints for an input. They are Line's `setting_told` and `printed`, of
-- the words behind the program's name.
use Rattle.std.specs.Prelude.{◌≡◌, List, [], ◌∷◌, ℕ, ◌+◌, ◌<◌}
use Rattle.meaning.specs.Limits.{sheet_buffer, message_buffer}
use Rattle.meaning.specs.Answer.{answer}
use Rattle.meaning.specs.Line.{setting_told, printed}
use Rattle.line.specs.Printing.{Fronted}

-- there are so many arguments, the program's name among them, and w is the first behind it, if there is one
pub record Told (arguments : ℕ) (w : List ℕ) (setting : ℕ) : Type 0 where
  pub none : arguments < 2 → setting ≡ setting_told []
  pub one : arguments ≡ 2 → setting ≡ setting_told (w ∷ [])
  pub more : 2 < arguments → (v : List ℕ) (vs : List (List ℕ)) → setting ≡ setting_told (w ∷ v ∷ vs)

-- what stands around a message has fewer than 64 bytes
abbrev pub line_room : ℕ
line_room = 64 + message_buffer

-- the line for these words and this input stands at the front of a buffer; size is its length. It is no 10: ruled out is a sheet buffer that
-- some program's sheet does not fit
pub record Shown (words : List (List ℕ)) (input old new : List ℕ) (size : ℕ) : Type 0 where
  pub front : Fronted (printed words input) old new size
  pub never_ten : (answer (setting_told words) input sheet_buffer message_buffer).code ≡ 10 → ⊥

-- the same by the arguments
pub record Shows (arguments : ℕ) (w input old new : List ℕ) (size : ℕ) : Type 0 where
  pub none : arguments < 2 → Shown [] input old new size
  pub one : arguments ≡ 2 → Shown (w ∷ []) input old new size
  pub more : 2 < arguments → (v : List ℕ) (vs : List (List ℕ)) → Shown (w ∷ v ∷ vs) input old new size
