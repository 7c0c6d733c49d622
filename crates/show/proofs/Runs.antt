-- What a run of `show` or of `changes` tells, from its promise; a run is told by its code, its length and the buffer (`Tells`), so all holds of
-- the C twins too.
use mathlib.Core.Path.{◌≡◌, refl, sym, ap, ◌∙◌}
use mathlib.Core.Bool.{Bool, true, false}
use mathlib.Core.Logic.{◌↔◌, ◌⊎◌, inl, inr, ⊎_elim}
use mathlib.Core.Option.{none, some}
use mathlib.Core.List.{List, Memᴰ}
use Prim.Native.Nat.{ℕ, ◌≤◌}
use native.Mathlib.Omega.{arith}
use lib.ListN.{length, take}
use Rattle.meaning.specs.Limits.{largest_show, largest_changes}
use Rattle.meaning.specs.Read.{entries_in, is_sheet}
use Rattle.meaning.specs.Show.{entries_text, Change, changes_text, changes, InWords, in_words, show_answer, changes_answer}
use Rattle.meaning.proofs.SheetForm.{sheet_is, read_yes, read_no}
use Rattle.meaning.proofs.Answers.{overlaid_front}
use Rattle.meaning.proofs.Changed.{type_in, change_of, change_for, about, limits_texts, line_exactly, no_line, sheets_unchanged, no_words}
use Rattle.meaning.proofs.InWords.{words_told, show_some, show_none, show_whole, changes_none, changes_both, changes_whole}
use Rattle.show.specs.Words.{Tells}

-- ---- an answer in words

-- what is told is told whole, and is no 12
whole : (room : ℕ) (s : List ℕ) → (in_words room s).code ≡ 0 → (in_words room s).text ≡ s
whole room s e =
    ⊎_elim (λ p. ap (λ (a : InWords). a.text) p) (λ q. absurd (omega (arith, e, ap (λ (a : InWords). a.code) q))) (words_told room s)

no_twelve : (room : ℕ) (s : List ℕ) → (in_words room s).code ≡ 12 → ⊥
no_twelve room s e =
    ⊎_elim (λ p. omega (arith, e, ap (λ (a : InWords). a.code) p)) (λ q. omega (arith, e, ap (λ (a : InWords). a.code) q)) (words_told room s)

module _ {a : InWords} {code size : ℕ} {old new : List ℕ} (x : Tells a code size old new) where
  code_of : {b : InWords} → a ≡ b → code ≡ b.code
  code_of e = x.code_is ∙ ap (λ (b : InWords). b.code) e

  -- what stands at the front of the buffer
  told : take size new ≡ a.text
  told = rw (x.length_is, x.out_is) (overlaid_front a.text old)

sheet_or_not : (bs : List ℕ) → (is_sheet bs ≡ true) ⊎ (is_sheet bs ≡ false)
sheet_or_not bs = by (is_sheet bs) refl
  where
    by : (b : Bool) → is_sheet bs ≡ b → (is_sheet bs ≡ true) ⊎ (is_sheet bs ≡ false)
    by true e = inl e
    by false e = inr e

-- ---- a sheet shown

module _ (bs : List ℕ) (room : ℕ) {out new : List ℕ} {code size : ℕ} (x : Tells (show_answer bs room) code size out new) where
  -- (false of a program that shows what is no sheet, as far as it goes)
  pub not_shown_exactly : (code ≡ 12) ↔ (is_sheet bs ≡ false)
  not_shown_exactly = (
    λ e. ⊎_elim (λ y. absurd (no_twelve room (entries_text (entries_in bs)) (sym (code_of x (show_some bs room (read_yes bs y))) ∙ e))) (λ n. n)
        (sheet_or_not bs),
    λ n. code_of x (show_none bs room (read_no bs n)),
  )

  pub shown_sheet : code ≡ 0 → is_sheet bs ≡ true
  shown_sheet e = ⊎_elim (λ y. y) (λ n. absurd (omega (arith, e, not_shown_exactly.1 n))) (sheet_or_not bs)

  -- all its names are shown: (false of one that stops at the buffer's end)
  pub shown_text : code ≡ 0 → take size new ≡ entries_text (entries_in bs)
  shown_text e =
      let s = show_some bs room (read_yes bs (shown_sheet e)) in
      told x ∙ ap (λ (a : InWords). a.text) s ∙ whole room (entries_text (entries_in bs)) (sym (code_of x s) ∙ e)

  -- "34,176 bytes are always enough"
  pub always_shown : largest_show ≤ room → is_sheet bs ≡ true → code ≡ 0
  always_shown h y = code_of x (show_whole bs room (read_yes bs y) h)

-- ---- two sheets compared

abbrev pub between : List ℕ → List ℕ → List Change
between old new = changes (entries_in old) (entries_in new)

module _ (old new : List ℕ) (room : ℕ) {out after : List ℕ} {code size : ℕ} (x : Tells (changes_answer old new room) code size out after) where
  -- "12: one of them is no sheet"
  none_compared : (is_sheet old ≡ false) ⊎ (is_sheet new ≡ false) → code ≡ 12
  none_compared w = code_of x (changes_none old new room (⊎_elim (λ n. inl (read_no old n)) (λ n. inr (read_no new n)) w))

  both_compared : is_sheet old ≡ true → is_sheet new ≡ true → changes_answer old new room ≡ in_words room (changes_text (between old new))
  both_compared y z = changes_both old new room (read_yes old y) (read_yes new z)

  both_or_not : ((is_sheet old ≡ true) × (is_sheet new ≡ true)) ⊎ ((is_sheet old ≡ false) ⊎ (is_sheet new ≡ false))
  both_or_not = ⊎_elim (λ y. ⊎_elim (λ z. inl (y, z)) (λ n. inr (inr n)) (sheet_or_not new)) (λ n. inr (inl n)) (sheet_or_not old)

  pub both_sheets : code ≡ 0 → (is_sheet old ≡ true) × (is_sheet new ≡ true)
  both_sheets e = ⊎_elim (λ y. y) (λ n. absurd (omega (arith, e, none_compared n))) both_or_not

  pub not_compared_exactly : (code ≡ 12) ↔ ((is_sheet old ≡ false) ⊎ (is_sheet new ≡ false))
  not_compared_exactly = (
    λ e. ⊎_elim (λ y. absurd (no_twelve room (changes_text (between old new)) (sym (code_of x (both_compared y.0 y.1)) ∙ e))) (λ n. n) both_or_not,
    none_compared,
  )

  module _ (e : code ≡ 0) where
    compared_so : changes_answer old new room ≡ in_words room (changes_text (between old new))
    compared_so = both_compared (both_sheets e).0 (both_sheets e).1

    all_told : (changes_answer old new room).text ≡ changes_text (between old new)
    all_told = ap (λ (a : InWords). a.text) compared_so ∙ whole room (changes_text (between old new)) (sym (code_of x compared_so) ∙ e)

    -- the lines of all changes are told
    pub told_text : take size after ≡ changes_text (between old new)
    told_text = told x ∙ all_told

    -- nothing is told exactly when the sheets are equal byte for byte: (false of a program that compares lengths, or the shown texts alone)
    pub nothing_exactly : (size ≡ 0) ↔ (old ≡ new)
    nothing_exactly =
        let u = sheets_unchanged (sheet_is old (both_sheets e).0) (sheet_is new (both_sheets e).1) in
        let w = no_words (between old new) in
        let z : size ≡ length (changes_text (between old new)) = x.length_is ∙ ap length all_told in
        (λ s. u.0 (w.0 (sym z ∙ s)), λ p. z ∙ w.1 (u.1 p))

    -- a line is there exactly when it is what the two sheets' types of its name make: it came, it went, it has another type
    pub line_for : (c : Change) → Memᴰ c (between old new) ↔ (change_of (about c) (type_in (entries_in old) (about c)) (type_in (entries_in new) (about c)) ≡ some c)
    line_for c =
        line_exactly (entries_in old) (entries_in new) (limits_texts (entries_in old) (sheet_is old (both_sheets e).0).limits)
        (limits_texts (entries_in new) (sheet_is new (both_sheets e).1).limits) c

    -- and none is about a name exactly when both have it with one type, or neither has it
    pub no_line_for : (s : List ℕ) → (change_for (between old new) s ≡ none) ↔ (type_in (entries_in old) s ≡ type_in (entries_in new) s)
    no_line_for s =
        no_line (entries_in old) (entries_in new) (limits_texts (entries_in old) (sheet_is old (both_sheets e).0).limits)
        (limits_texts (entries_in new) (sheet_is new (both_sheets e).1).limits) s

  -- "68,864 bytes are always enough"
  pub always_compared : largest_changes ≤ room → is_sheet old ≡ true → is_sheet new ≡ true → code ≡ 0
  always_compared h y z = code_of x (changes_whole old new room (read_yes old y) (read_yes new z) h)
