-- The refused lines that oracle/README.md shows, by computing: a second span behind a message, behind `-`, and at 0,0; and none behind
-- another code. Assumes nothing.
use Rattle.std.proofs.Common.{◌≡◌, ℕ, List, [], refl}
use Rattle.meaning.specs.Base.{bytes, base_open}
use Rattle.meaning.specs.Answer.{Answer}
use Rattle.meaning.specs.Line.{line_open}
use Rattle.replay.specs.Lines.{second_span, behind, summed_line}

-- a refusal's answer: its numbers, and its message where that has room
abbrev refusal : ℕ → ℕ → ℕ → ℕ → ℕ → ℕ → List ℕ → Answer
refusal code place begins ends start end message =
    record { code = code; place = place; span_start = begins; span_end = ends; second_start = start; second_end = end; sheet = []; message = message }

shown : (summed_line (refusal 25 5 6 7 0 1 (bytes "TypeError: cannot assign value of type String to variable of type Int"))
    ≡ bytes "refused 25 5 6 7 TypeError: cannot assign value of type String to variable of type Int @0,1\n")
    × (summed_line (refusal 25 5 6 7 0 1 []) ≡ bytes "refused 25 5 6 7 - @0,1\n")
    × (summed_line (refusal 23 5 6 7 0 0 []) ≡ bytes "refused 23 5 6 7 - @0,0\n")
    × (summed_line (refusal 29 2 0 7 0 0 (bytes "TypeError: unsupported operand types for +: Int and String"))
    ≡ bytes "refused 29 2 0 7 TypeError: unsupported operand types for +: Int and String\n")
unfolding base_open line_open second_span behind summed_line
shown = (refl, refl, refl, refl)
