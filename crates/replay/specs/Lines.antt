-- The lines of the oracle's batch form: "document 01's printed line, and behind it what that does not tell": of an accepted program the
-- checksum of its sheet, and of 25 and 23 the second span.
use Rattle.std.specs.Prelude.{ℕ, ◌+◌, ◌-◌, ◌*◌, ◌%◌, ◌^◌, List, [], ◌∷◌, ◌++◌, length, take, ◌==◌, bit_xor}
use Rattle.io.specs.Digits.{last_digits}
use Rattle.meaning.specs.Base.{test◌then◌else◌, choose, bytes, decimal, word}
use Rattle.meaning.specs.Limits.{largest_sheet, sheet_buffer, message_buffer}
use Rattle.meaning.specs.Answer.{Answer, answer}
use Rattle.meaning.specs.Line.{spaced, line_of}
use Rattle.checker.specs.Answers.{rewritten}
use Rattle.replay.specs.declared.Task.{Task}
use Rattle.replay.specs.declared.Task.TheVariants.{Images, Strict, Tight, Sheets}

-- ---- FNV-1a 64: "start with 0xcbf29ce484222325; for each byte xor it in, then multiply by 0x100000001b3 modulo 2^64"

abbrev pub fnv_start : ℕ
fnv_start = 0xcbf29ce484222325

abbrev pub fnv_prime : ℕ
fnv_prime = 0x100000001b3

unfoldable pub fnv_from : ℕ → List ℕ → ℕ
fnv_from h [] = h
fnv_from h (b ∷ bs) = fnv_from (bit_xor h b * fnv_prime % 2 ^ 64) bs

unfoldable pub fnv_of : List ℕ → ℕ
fnv_of bs = fnv_from fnv_start bs

-- ---- "a space, `#` and FNV-1a 64 of the sheet's bytes as 16 lower-case hexadecimal digits", and the line's end

unfoldable pub hex_of : ℕ → List ℕ
hex_of n = last_digits 16 16 n

unfoldable pub checksum : List ℕ → List ℕ
checksum sheet = bytes " #" ++ hex_of (fnv_of sheet) ++ bytes "\n"

-- ---- "For 25 and 23 a space, `@`, the second span's start, a comma and its end, in decimal", and the line's end

unfoldable pub second_span : ℕ → ℕ → List ℕ
second_span start end = bytes " @" ++ decimal start ++ bytes "," ++ decimal end ++ bytes "\n"

-- what stands around a message has fewer than 128 bytes
abbrev pub line_room : ℕ
line_room = message_buffer + 128

-- ---- the line of an image: what the printed line does not tell takes the place of its end

-- the second span stands "also where they are 0,0, and also where the message has no room"
unfoldable pub behind : Answer → List ℕ
behind a =
    let second = second_span a.second_start a.second_end in
    choose a.code (bytes "\n") ((0, checksum a.sheet) ∷ (25, second) ∷ (23, second) ∷ [])

unfoldable pub summed_line : Answer → List ℕ
summed_line a = take (length (line_of a) - 1) (line_of a) ++ behind a

unfoldable pub checked_line : ℕ → List ℕ → ℕ → ℕ → List ℕ
checked_line setting image sheet_room message_room = summed_line (answer setting image sheet_room message_room)

-- ---- the line of a sheet: "`read`, how many names and structured types it has, and `#` and FNV-1a 64 of what writing it again must
-- give"; or the one refusal

unfoldable pub read_line : List ℕ → List ℕ
read_line sheet = bytes "read" ++ spaced (word sheet 20 ∷ word sheet 4 ∷ []) ++ checksum sheet

unfoldable pub rewritten_line : Answer → List ℕ
rewritten_line a = test a.code == 0 then read_line a.sheet else line_of a

unfoldable pub sheet_line : List ℕ → List ℕ
sheet_line sheet = rewritten_line (rewritten sheet largest_sheet)

-- ---- what a batch holds, the setting and the rooms

unfoldable pub line_for : Task → List ℕ → List ℕ
line_for Images image = checked_line 0 image sheet_buffer message_buffer
line_for Strict image = checked_line 1 image sheet_buffer message_buffer
line_for Tight image = checked_line 0 image 98 69
line_for Sheets sheet = sheet_line sheet
