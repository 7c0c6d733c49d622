-- What the message of a refusal leaves in a buffer of some room, and what its writer needs to know.
use Rattle.std.specs.Prelude.{◌≡◌, List, ℕ, ◌<◌, ◌≤◌, length}
use Rattle.meaning.specs.Answer.{fitting}
use Rattle.meaning.specs.Image.{names_of}
use Rattle.meaning.specs.Base.{bytes}
use Rattle.meaning.specs.Message.{refusal, template, message}
use Rattle.types.specs.Table.{Tab, Wf}
use Rattle.rules.specs.Outcome.{types_named, pieces}
use Rattle.message.specs.Pieces.{put_in}
use Rattle.message.specs.declared.Piece.{Piece}

-- T's format string of a code
abbrev pub format_of : ℕ → List ℕ
format_of code = bytes (template code)

-- what a format string with its pieces put in leaves in the buffer `out`: nothing, if it does not fit
abbrev pub laid_out : List ℕ → List ℕ → List Piece → List ℕ → List ℕ → List ℕ
laid_out bs cs ps format out = fitting (length out) (put_in bs cs ps format)

-- a message does not look at the refusal's node
unfoldable pub told : List ℕ → Tab → ℕ → ℕ → ℕ → ℕ → List ℕ
told bs t code a b room = fitting room (message (refusal code 0 (pieces (names_of bs) t code a b)))

-- the types that the message names are numbers of the table, and its counts fit a word
pub record Tells (t : Tab) (code a b : ℕ) : Type 0 where
  pub wf : Wf t
  pub first : 1 ≤ types_named code → a < t.n
  pub second : 2 ≤ types_named code → b < t.n
  pub small : (code ≡ 0 → ⊥) → types_named code ≡ 0 → (a < 4294967296) × (b < 4294967296)
