-- A sheet in words, for the people who approve it: its names with their types, and what changed between two sheets, a line for each name in
-- byte order. (Ours; in no document.)
use Rattle.std.specs.Prelude.{List, [], ◌∷◌, ◌++◌, ℕ, leb, length}
use Rattle.std.proofs.Math.Option.{Option, none, some}
use Rattle.meaning.specs.Limits.{longest_shown}
use Rattle.meaning.specs.Base.{test◌then◌else◌, choose, if_some, bytes, before}
use Rattle.meaning.specs.Types.{Ty, same, kind, text}
use Rattle.meaning.specs.Sheet.{Entry}
use Rattle.meaning.specs.Read.{read_sheet}

-- ---- a type: in Rust's Debug form, and where that is longer than 200 bytes its outermost kind with dots, `Tuple(..)`

-- of a kind: no other has a text so long
unfoldable pub dotted : ℕ → List ℕ
dotted k = bytes (choose k "" ((8, "List(..)") ∷ (9, "Dict(..)") ∷ (10, "Tuple(..)") ∷ (11, "MapIter(..)") ∷ (12, "FilterIter(..)") ∷ []))

unfoldable pub shown : Ty → List ℕ
shown t = test leb (length (text t)) longest_shown then text t else dotted (kind t)

-- ---- entries: `step: Int`

unfoldable pub entry_text : Entry → List ℕ
entry_text e = e.0 ++ bytes ": " ++ shown e.1

unfoldable pub entries_text : List Entry → List ℕ
entries_text [] = []
entries_text (e ∷ es) = entry_text e ++ bytes "\n" ++ entries_text es

-- ---- what changed: a name came, went, or has another type

pub data Change : Type 0 where
  came went : Entry → Change
  turned : List ℕ → Ty → Ty → Change

-- `+ mode: String`, `- laps: List(Int)`, `~ step: Int -> Float`
unfoldable pub change_text : Change → List ℕ
change_text (came e) = bytes "+ " ++ entry_text e
change_text (went e) = bytes "- " ++ entry_text e
change_text (turned s t u) = bytes "~ " ++ entry_text (s, t) ++ bytes " -> " ++ shown u

unfoldable pub changes_text : List Change → List ℕ
changes_text [] = []
changes_text (c ∷ cs) = change_text c ++ bytes "\n" ++ changes_text cs

-- two types of one name
unfoldable pub retyped : List ℕ → Ty → Ty → List Change → List Change
retyped s t u cs = test same t u then cs else turned s t u ∷ cs

-- the entries of a new sheet against the old entry o and those behind it, of which `later` tells: the names of both ascend, so what comes
-- before o's name is new, and what comes after it leaves o behind
unfoldable pub against : Entry → (List Entry → List Change) → List Entry → List Change
against o later [] = went o ∷ later []
against o later (n ∷ ns) =
    let rest : List Change = against o later ns in
    let gone : List Change = later (n ∷ ns) in
    let both : List Change = later ns in
    test before n.0 o.0 then came n ∷ rest else test before o.0 n.0 then went o ∷ gone else retyped o.0 o.1 n.1 both

unfoldable pub all_came : List Entry → List Change
all_came [] = []
all_came (n ∷ ns) = came n ∷ all_came ns

-- what changed from the old entries to the new ones
unfoldable pub changes : List Entry → List Entry → List Change
changes [] news = all_came news
changes (o ∷ olds) news = against o (λ ns. changes olds ns) news

-- ---- the answers: code 0 with the text, 10 if that does not fit, 12 for what is no sheet

-- text is what is written at the front of the buffer
pub record InWords : Type 0 where
  pub code : ℕ
  pub text : List ℕ

unfoldable pub in_words : ℕ → List ℕ → InWords
in_words room s = test leb (length s) room then record { code = 0; text = s } else record { code = 10; text = [] }

abbrev pub no_sheet : InWords
no_sheet = record { code = 12; text = [] }

-- a byte string's names, in so much room
unfoldable pub show_answer : List ℕ → ℕ → InWords
show_answer bs room = if_some (read_sheet bs) (λ es. in_words room (entries_text es)) no_sheet

-- what changed between two byte strings, if both are sheets
unfoldable pub compared : List ℕ → List ℕ → Option (List Change)
compared old new = if_some (read_sheet old) (λ es. if_some (read_sheet new) (λ fs. some (changes es fs)) none) none

unfoldable pub changes_answer : List ℕ → List ℕ → ℕ → InWords
changes_answer old new room = if_some (compared old new) (λ cs. in_words room (changes_text cs)) no_sheet

unfoldable pub show_open : Unit {0}
unfolding dotted shown entry_text entries_text change_text changes_text retyped against all_came changes in_words show_answer compared changes_answer
show_open = tt
