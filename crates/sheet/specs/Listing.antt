-- Names with their types, as the writer takes them and the reader gives them: name k is a text of a source (start, length) and a type's
-- number.
use Rattle.std.specs.Prelude.{◌≡◌, List, Option, is_some, unwrap_or, map, ℕ, ◌+◌, ◌≤◌, ◌<◌, leb, length, get_or, take, drop}
use Rattle.meaning.specs.Limits.{most_names, longest_name}
use Rattle.meaning.specs.Base.{count}
use Rattle.meaning.specs.Sheet.{Entry, sheet_of}
use Rattle.meaning.specs.Answer.{written, overlaid}
use Rattle.sheet.specs.declared.list.ListedName.{ListedName}
use Rattle.types.specs.Table.{Tab, Wf, denote}

-- what no name is listed as
abbrev pub no_name : ListedName
no_name = record { start = 0; len = 0; ty = 0 }

abbrev pub start_at : List ListedName → ℕ → ℕ
start_at cells k = (get_or cells k no_name).start

abbrev pub length_at : List ListedName → ℕ → ℕ
length_at cells k = (get_or cells k no_name).len

abbrev pub type_at : List ListedName → ℕ → ℕ
type_at cells k = (get_or cells k no_name).ty

-- name j is the same in both
pub record SameName (cs ds : List ListedName) (j : ℕ) : Type 0 where
  pub start : start_at ds j ≡ start_at cs j
  pub size : length_at ds j ≡ length_at cs j
  pub type : type_at ds j ≡ type_at cs j

-- ds is cs with name k written, and those before it are the same
pub record PutName (cs ds : List ListedName) (k start size ty : ℕ) : Type 0 where
  pub long : length ds ≡ length cs
  pub start_is : start_at ds k ≡ start
  pub length_is : length_at ds k ≡ size
  pub type_is : type_at ds k ≡ ty
  pub before : (j : ℕ) → j < k → SameName cs ds j

-- the text and the type of a listed name
abbrev pub entry_of : List ℕ → Tab → ListedName → Entry
entry_of source t r = (take r.len (drop r.start source), denote t r.ty)

unfoldable pub entry_at : List ℕ → Tab → List ListedName → ℕ → Entry
entry_at source t cells k = entry_of source t (get_or cells k no_name)

-- names k to k + n - 1
unfoldable pub listed_from : List ℕ → Tab → List ListedName → ℕ → ℕ → List Entry
listed_from source t cells k n = map (entry_at source t cells) (count k n)

-- the first n names
unfoldable pub listed : List ℕ → Tab → List ListedName → ℕ → List Entry
listed source t cells n = listed_from source t cells 0 n

-- n names that lie in the source and have types of the table
pub record Listing (source : List ℕ) (t : Tab) (cells : List ListedName) (n : ℕ) : Type 0 where
  pub wf : Wf t
  pub few : n ≤ most_names
  pub inside : (k : ℕ) → k < n → start_at cells k + length_at cells k ≤ length source
  pub short : (k : ℕ) → k < n → length_at cells k ≤ longest_name
  pub known : (k : ℕ) → k < n → type_at cells k < t.n

-- the sheet of es was written at the front of old if it fits, and nothing if not: r is its length if it fits
pub record Wrote (es : List Entry) (r : Option ℕ) (old new : List ℕ) : Type 0 where
  pub fits_is : is_some r ≡ leb (length (sheet_of es)) (length old)
  pub length_is : unwrap_or r 0 ≡ length (written (length old) (sheet_of es)).sheet
  pub out_is : new ≡ overlaid (written (length old) (sheet_of es)).sheet old
