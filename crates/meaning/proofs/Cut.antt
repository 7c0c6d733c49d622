-- What is cut behind 59,937 bytes gets the answer of the whole. So a program may stop reading there, and must not stop one byte earlier: an
-- image of 59,936 bytes may stand, and with one byte more it gets 3.
use mathlib.Core.Path.{◌≡◌, refl, ◌∙◌, ap, sym}
use mathlib.Core.Bool.{Bool, true, false}
use mathlib.Core.Option.{Option, none, some}
use mathlib.Core.List.{List}
use Prim.Native.Nat.{ℕ, ◌+◌, ◌≤◌, ◌<◌}
use native.Mathlib.Decide.{dec_lt}
use native.Mathlib.Omega.{arith}
use borrow.Author.Tests.{le-leb}
use lib.ListN.{length, take}
use lib.Seq.{get_or-take, length-take-le, take_all}
use Rattle.meaning.specs.Base.{test◌then◌else◌, if_some, word}
use Rattle.meaning.specs.Limits.{largest_image, largest_sheet, sheet_buffer, message_buffer, read_at_most}
use Rattle.meaning.specs.Image.{Fault, version, name_count, node_count, text_count, names_from, head_stands, counts_stand, offsets_stand, image_fault}
use Rattle.meaning.specs.Read.{is_sheet, read_sheet}
use Rattle.meaning.specs.Walk.{Setting}
use Rattle.meaning.specs.Answer.{bare, answer_under, setting_of, answer, read_answer}
use Rattle.meaning.specs.Convert.{convert_answer}
use Rattle.meaning.specs.Known.{steadiness}
use Rattle.meaning.specs.Line.{line_of, setting_told, printed}
use Rattle.meaning.proofs.Choices.{not_so}
use Rattle.meaning.proofs.Faults.{fault, fault_1, fault_2, fault_3, image_length}
use Rattle.meaning.proofs.Answers.{fault_first}
use Rattle.meaning.proofs.SheetForm.{sheet_is, sheet_length}

-- ---- what is longer than every image, and than every sheet

-- where the counts stand, they do not give this length
too_long : (bs : List ℕ) → head_stands bs ≡ true → counts_stand bs ≡ true → largest_image < length bs → offsets_stand bs ≡ false
too_long bs h c l = not_so _ (λ o. omega (arith, l, image_length {bs = bs} (record { head = h; counts = c; offsets = o })))

no_sheet : (bs : List ℕ) → largest_sheet < length bs → is_sheet bs ≡ false
no_sheet bs l = not_so _ (λ e. let s = sheet_is bs e in omega (arith, l, ap length s.written, sheet_length _ s.limits))

-- ---- a cut behind n bytes

word_cut : (n : ℕ) (bs : List ℕ) (k : ℕ) → k + 4 ≤ n → word (take n bs) k ≡ word bs k
word_cut n bs k h =
    rw (get_or-take n bs k 0 (omega arith), get_or-take n bs (k + 1) 0 (omega arith), get_or-take n bs (k + 2) 0 (omega arith), get_or-take n bs (k + 3) 0 (omega arith)) refl

module _ (n : ℕ) (bs : List ℕ) (least : largest_image < n) (more : n < length bs) where
  cut_long : length (take n bs) ≡ n
  cut_long = length-take-le n bs (omega arith)

  head_cut : head_stands (take n bs) ≡ head_stands bs
  unfolding head_stands version
  head_cut =
      rw (le-leb names_from (length (take n bs)) (omega (arith, cut_long)), le-leb names_from (length bs) (omega arith), word_cut n bs 0 (omega arith)) refl

  counts_cut : counts_stand (take n bs) ≡ counts_stand bs
  unfolding counts_stand name_count node_count text_count
  counts_cut = rw (word_cut n bs 4 (omega arith), word_cut n bs 12 (omega arith), word_cut n bs 20 (omega arith)) refl

  -- 1 and 2 are decided by the first 32 bytes, and where they find nothing, both get 3
  fault_cut : (f : Fault) × (image_fault (take n bs) ≡ some f) × (image_fault bs ≡ some f)
  fault_cut = by (head_stands bs) (counts_stand bs) refl refl
    where
      by : (h c : Bool) → head_stands bs ≡ h → counts_stand bs ≡ c → (f : Fault) × (image_fault (take n bs) ≡ some f) × (image_fault bs ≡ some f)
      by false c p q = (fault 1 0, fault_1 (take n bs) (head_cut ∙ p), fault_1 bs p)
      by true false p q = (fault 2 0, fault_2 (take n bs) (head_cut ∙ p) (counts_cut ∙ q), fault_2 bs p q)
      by true true p q = (
        fault 3 0,
        fault_3 (take n bs) (head_cut ∙ p) (counts_cut ∙ q) (too_long (take n bs) (head_cut ∙ p) (counts_cut ∙ q) (omega (arith, cut_long))),
        fault_3 bs p q (too_long bs p q (omega arith)),
      )

  under_cut : (setting : Setting) (x y : ℕ) → answer_under setting (take n bs) x y ≡ answer_under setting bs x y
  under_cut setting x y = fault_first setting (take n bs) x y _ fault_cut.1 ∙ sym (fault_first setting bs x y _ fault_cut.2)

  chosen_cut : (o : Option Setting) (x y : ℕ)
      → if_some o (λ setting. answer_under setting (take n bs) x y) (bare 13 0) ≡ if_some o (λ setting. answer_under setting bs x y) (bare 13 0)
  unfolding if_some
  chosen_cut none x y = refl
  chosen_cut (some setting) x y = under_cut setting x y

  steady_long_cut : steadiness (take n bs) ≡ steadiness bs
  unfolding steadiness if_some
  steady_long_cut = rw (fault_cut.1, fault_cut.2) refl

  convert_long_cut : (room : ℕ) → convert_answer (take n bs) room ≡ convert_answer bs room
  unfolding convert_answer if_some
  convert_long_cut room = rw (fault_cut.1, fault_cut.2) refl

  sheet_cut : is_sheet (take n bs) ≡ is_sheet bs
  sheet_cut = no_sheet (take n bs) (omega (arith, cut_long)) ∙ sym (no_sheet bs (omega arith))

  read_cut : read_sheet (take n bs) ≡ read_sheet bs
  unfolding read_sheet test◌then◌else◌
  read_cut = rw (no_sheet (take n bs) (omega (arith, cut_long)), no_sheet bs (omega arith)) refl

-- ---- of any length

module _ (n : ℕ) (bs : List ℕ) (least : largest_image < n) where
  -- a law of what is longer holds of everything: what is not is its own cut
  whole : {A : Type 0} (f : List ℕ → A) → (n < length bs → f (take n bs) ≡ f bs) → f (take n bs) ≡ f bs
  whole f h =
      elim (dec_lt n (length bs)) [
        | yes m ↦ h m
        | no m ↦ ap f (take_all n bs (omega (arith, m)))
      ]

  pub answer_any_cut : (setting x y : ℕ) → answer setting (take n bs) x y ≡ answer setting bs x y
  unfolding answer
  answer_any_cut setting x y = whole (λ s. answer setting s x y) (λ m. chosen_cut n bs least m (setting_of setting) x y)

  pub steady_any_cut : steadiness (take n bs) ≡ steadiness bs
  steady_any_cut = whole steadiness (λ m. steady_long_cut n bs least m)

  pub convert_any_cut : (room : ℕ) → convert_answer (take n bs) room ≡ convert_answer bs room
  convert_any_cut room = whole (λ s. convert_answer s room) (λ m. convert_long_cut n bs least m room)

  pub is_sheet_any_cut : is_sheet (take n bs) ≡ is_sheet bs
  is_sheet_any_cut = whole is_sheet (λ m. sheet_cut n bs least m)

  pub read_any_cut : read_sheet (take n bs) ≡ read_sheet bs
  read_any_cut = whole read_sheet (λ m. read_cut n bs least m)

-- ---- at 59,937 bytes

module _ (bs : List ℕ) where
  -- ruled out: a count of text bytes that is not looked at, so that an image of 59,938 bytes is accepted whole and gets 3 when it is cut
  pub answer_cut : (setting x y : ℕ) → answer setting (take read_at_most bs) x y ≡ answer setting bs x y
  answer_cut setting x y = answer_any_cut read_at_most bs (omega arith) setting x y

  pub steady_cut : steadiness (take read_at_most bs) ≡ steadiness bs
  steady_cut = steady_any_cut read_at_most bs (omega arith)

  -- ruled out: a converter that copies what it was given without judging it, and so hands out the front of a longer file
  pub convert_cut : (room : ℕ) → convert_answer (take read_at_most bs) room ≡ convert_answer bs room
  convert_cut room = convert_any_cut read_at_most bs (omega arith) room

  -- ruled out: a reader without a limit of names, which takes a sheet of 59,938 bytes and refuses it when it is cut
  pub is_sheet_cut : is_sheet (take read_at_most bs) ≡ is_sheet bs
  is_sheet_cut = is_sheet_any_cut read_at_most bs (omega arith)

  pub read_sheet_cut : read_sheet (take read_at_most bs) ≡ read_sheet bs
  read_sheet_cut = read_any_cut read_at_most bs (omega arith)

  pub read_answer_cut : read_answer (take read_at_most bs) ≡ read_answer bs
  unfolding read_answer
  read_answer_cut = rw read_sheet_cut refl

  -- the line of the whole input, however long it is: ruled out is a line that is judged by 59,936 bytes
  pub printed_whole : (ws : List (List ℕ)) → printed ws bs ≡ line_of (answer (setting_told ws) bs sheet_buffer message_buffer)
  unfolding printed
  printed_whole ws = ap line_of (answer_cut (setting_told ws) sheet_buffer message_buffer)
