-- What the functions that tell a sheet in words need and leave.
use mathlib.Core.HLevel.{hedberg}
use Rattle.std.proofs.Props.{props}
use Rattle.std.specs.Prelude.{◌≡◌, List, [], ◌∷◌, ◌++◌, ℕ, ◌+◌, ◌-◌, ◌*◌, ◌<◌, ◌≤◌, length, get_or, drop, Some, Result, Ok, Err}
use Rattle.meaning.specs.Limits.{most_names, longest_name, largest_sheet}
use Rattle.meaning.specs.Base.{bytes}
use Rattle.meaning.specs.Types.{Ty, Ty-discrete, unknown}
use Rattle.meaning.specs.Sheet.{Entry}
use Rattle.meaning.specs.Read.{entries_in}
use Rattle.meaning.specs.Answer.{overlaid}
use Rattle.meaning.specs.Show.{Change, came, went, turned, change_text, changes_text, retyped, changes, InWords}
use Rattle.words.specs.Words.{Wrote}
use Rattle.types.specs.Table.{Chained}
use Rattle.sheet.specs.Reading.{Reads}
use Rattle.sheet.specs.declared.list.ListedName.{ListedName}
use Rattle.sheet.specs.declared.reader.ReadSheet.{ReadSheet}
use Rattle.show.specs.declared.Next.{Next}
use Rattle.show.specs.declared.Next.TheVariants.{Came, Went, Both}
use Rattle.show.specs.declared.Place.{Place}
use Rattle.show.specs.declared.Untold.{Untold}
use Rattle.show.specs.declared.Untold.TheVariants.{NoRoom, NoSheet}

-- ---- a sheet that was read into a table and a list of names

-- that it was is so in one way only: a ghost field asks it
pub Reads-prop : {bs cs : List ℕ} {s : ReadSheet} {cells : List ListedName} → IsProp (Reads bs (Some s) cs cells)
unfolding Chained
Reads-prop = Prim.hlevel (hedberg Ty-discrete, props)

abbrev pub entry_at : List Entry → ℕ → Entry
entry_at es k = get_or es k ([], unknown)

-- its name k, with its type
abbrev pub entry_of : List ℕ → ℕ → Entry
entry_of bs k = entry_at (entries_in bs) k

-- the largest sheet of one name: the largest of all without the records and texts of the other names
abbrev pub largest_alone : ℕ
largest_alone = largest_sheet - (most_names - 1) * (12 + longest_name)

-- ---- how far the changes are told

-- the line of a name that has another type
unfoldable pub retold : Entry → Ty → List ℕ
retold e u = change_text (turned e.0 e.1 u) ++ bytes "\n"

-- what is left to tell behind i old names and j new ones
abbrev pub left_from : List Entry → List Entry → ℕ → ℕ → List Change
left_from olds news i j = changes (drop i olds) (drop j news)

-- which of them comes first
abbrev pub Follows : List Entry → List Entry → ℕ → ℕ → Next → Type 0
Follows olds news i j Came = (j < length news) × (left_from olds news i j ≡ came (entry_at news j) ∷ left_from olds news i (j + 1))
Follows olds news i j Went = (i < length olds) × (left_from olds news i j ≡ went (entry_at olds i) ∷ left_from olds news (i + 1) j)
Follows olds news i j Both =
    (i < length olds) × (j < length news) × ((entry_at olds i).0 ≡ (entry_at news j).0)
    × (left_from olds news i j ≡ retyped (entry_at olds i).0 (entry_at olds i).1 (entry_at news j).1 (left_from olds news (i + 1) (j + 1)))

-- names are left, and room for what is left to tell
pub record Ahead (olds news : List Entry) (p : Place) (d : List ℕ) : Type 0 where
  pub olds_in : p.old ≤ length olds
  pub news_in : p.new ≤ length news
  pub some_left : p.old + p.new < length olds + length news
  pub room : p.at + length (changes_text (left_from olds news p.old p.new)) ≤ length d

-- a line was written, or nothing, and the rest is left to tell
pub record Stepped (olds news : List Entry) (p q : Place) (d e : List ℕ) : Type 0 where
  pub line : List ℕ
  pub left : changes_text (left_from olds news p.old p.new) ≡ line ++ changes_text (left_from olds news q.old q.new)
  pub wrote : Wrote d p.at line e q.at
  pub on : p.old + p.new < q.old + q.new
  pub olds_in : q.old ≤ length olds
  pub news_in : q.new ≤ length news

-- ---- the answers, by their numbers, and what is left of the buffer

-- the length of the text that was told, or why none was
abbrev pub Telling : Type 0
Telling = Result ℕ Untold

abbrev pub telling_code : Telling → ℕ
telling_code (Ok n) = 0
telling_code (Err NoRoom) = 10
telling_code (Err NoSheet) = 12

abbrev pub telling_length : Telling → ℕ
telling_length (Ok n) = n
telling_length (Err e) = 0

pub record Tells (a : InWords) (code size : ℕ) (old new : List ℕ) : Type 0 where
  pub code_is : code ≡ a.code
  pub length_is : size ≡ length a.text
  pub out_is : new ≡ overlaid a.text old
