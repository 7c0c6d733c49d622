-- One run of `check` or of its C twin: "A sheet never exceeds 42,532 bytes", what is written is a sheet, and a message is ASCII with no 0.
use mathlib.Core.Path.{◌≡◌, sym, ap, ◌∙◌}
use mathlib.Core.Bool.{true}
use mathlib.Core.List.{List}
use Prim.Native.Nat.{ℕ, ◌≤◌}
use native.Mathlib.Omega.{arith}
use lib.ListN.{length, take, drop}
use lib.Seq.{take-append_seam}
use Rattle.meaning.specs.Limits.{largest_sheet}
use Rattle.meaning.specs.Base.{all}
use Rattle.meaning.specs.Read.{is_sheet}
use Rattle.meaning.specs.Answer.{Answer as Meant, bare, answer, read_answer, overlaid}
use Rattle.checker.specs.Answers.{Numbers, numbers_in, reading_numbers, readable, Replies}
use Rattle.checker.specs.Module.{sheet_in}
use Rattle.std.specs.Prelude.{Ok}
use Rattle.checker.proofs.Sheets.{Reading}
use Rattle.checker.proofs.Demand.{reply_most, sheet_there}
use Rattle.checker.proofs.Exactly.{read_yes, read_number, read_answer_lem}

module _ (setting : ℕ) (image : List ℕ) (room told : ℕ) {n : Numbers} {old new old_message new_message : List ℕ}
    (x : Replies (answer setting image room told) n old new old_message new_message) where
  -- Whoever lends 42,532 bytes or more for the sheet never gets 10. (False of a checker that writes out each name's type whole: with a tuple of
  -- two, a tuple of two of these, and so on, the lengths double.)
  pub never_ten : largest_sheet ≤ length old → n.code ≡ 10 → ⊥
  never_ten l e = x.roomy l (sym (ap (λ (k : Numbers). k.code) x.numbers) ∙ e)

  -- and no longer sheet is ever told
  pub never_longer : n.sheet ≤ largest_sheet
  never_longer =
      let e : n.sheet ≡ length (answer setting image room told).sheet = ap (λ (k : Numbers). k.sheet) x.numbers in
      omega (arith, e, reply_most setting image room told x)

  -- Each byte of the message, so many as are told at the front of its buffer, is an ASCII character to be read, and no 0. (False of a checker that
  -- ends a message with a 0, of one that tells the buffer's length where the message is shorter, and of one that takes names of any bytes.)
  pub message_readable : all readable (take n.message new_message) ≡ true
  unfolding overlaid
  message_readable =
      let m : List ℕ = (answer setting image room told).message in
      let e : n.message ≡ length m = ap (λ (k : Numbers). k.message) x.numbers in
      rw (e, x.message, take-append_seam m (drop (length m) old_message)) x.legible

  -- What an accepted program's run leaves is a sheet: the reader takes it. (False of a checker that numbers types as they
  -- were formed, of one whose elements can outgrow the reader's limit, and of one that tells another length than it wrote.)
  module _ (c : n.code ≡ 0) where
    writes_form : is_sheet (sheet_in n new) ≡ true
    writes_form = rw (sheet_there setting image room told x) (x.form (sym (ap (λ (k : Numbers). k.code) x.numbers) ∙ c))

    pub writes_a_sheet : read_answer (sheet_in n new) ≡ bare 0 0
    writes_a_sheet = read_yes (sheet_in n new) writes_form

    -- so every run of `read_sheet` on these bytes, and of its C twin
    pub read_as_sheet : (r : Reading) → reading_numbers r ≡ numbers_in (read_answer (sheet_in n new)) → r ≡ Ok tt
    read_as_sheet r e = (read_answer_lem r).0.0 (read_number (sheet_in n new) r e ∙ ap (λ (a : Meant). a.code) writes_a_sheet)

    pub read_as_zero : (k : ℕ) → k ≡ (read_answer (sheet_in n new)).code → k ≡ 0
    read_as_zero k e = e ∙ ap (λ (a : Meant). a.code) writes_a_sheet
