-- The line that the program `typecheck` prints.
use Rattle.std.specs.Prelude.{List, [], ◌∷◌, ◌++◌, ℕ, eqb, length, take}
use Rattle.meaning.specs.Limits.{sheet_buffer, message_buffer, read_at_most}
use Rattle.meaning.specs.Base.{test◌then◌else◌, bytes, same_text, decimal, word}
use Rattle.meaning.specs.Answer.{Answer, answer}

-- numbers, each after a space
unfoldable pub spaced : List ℕ → List ℕ
spaced [] = []
spaced (n ∷ ns) = bytes " " ++ decimal n ++ spaced ns

-- "names, structured types, bytes": the sheet's own words say them
unfoldable pub accepted_line : List ℕ → List ℕ
accepted_line sheet = bytes "accepted" ++ spaced (word sheet 20 ∷ word sheet 4 ∷ length sheet ∷ []) ++ bytes "\n"

-- "code, place, span start, span end, message or `-`"
unfoldable pub refused_line : Answer → List ℕ
refused_line a =
    bytes "refused" ++ spaced (a.code ∷ a.place ∷ a.span_start ∷ a.span_end ∷ []) ++ bytes " "
    ++ (test eqb (length a.message) 0 then bytes "-" else a.message)
    ++ bytes "\n"

unfoldable pub line_of : Answer → List ℕ
line_of a = test eqb a.code 0 then accepted_line a.sheet else refused_line a

-- the setting's number by the words behind the program's name: no word is plain, `plain` and `strict` name their own, anything else is none
-- of the two
unfoldable pub setting_told : List (List ℕ) → ℕ
setting_told [] = 0
setting_told (w ∷ []) = test same_text w (bytes "plain") then 0 else test same_text w (bytes "strict") then 1 else 2
setting_told (w ∷ v ∷ ws) = 2

-- what is printed for the words and for what stands on standard input: "it reads at most 59,937 bytes and judges those"
unfoldable pub printed : List (List ℕ) → List ℕ → List ℕ
printed ws input = line_of (answer (setting_told ws) (take read_at_most input) sheet_buffer message_buffer)

unfoldable pub line_open : Unit {0}
unfolding spaced accepted_line refused_line line_of setting_told printed
line_open = tt
