-- What `show` and `changes` answer, by what the reader makes of the bytes. Whoever asks after an answer in words cites these laws.
use mathlib.Core.Path.{◌≡◌, refl, ◌∙◌}
use mathlib.Core.Bool.{Bool, true, false}
use mathlib.Core.Logic.{◌⊎◌, inl, inr, ⊎_elim}
use mathlib.Core.Option.{Option, none, some}
use mathlib.Core.List.{List, []}
use Prim.Native.Nat.{ℕ, ◌<◌, ◌≤◌}
use native.Mathlib.Omega.{arith}
use borrow.Author.Tests.{le-leb, lt-leb}
use lib.Dec.{leb}
use lib.ListN.{length}
use Rattle.meaning.specs.Limits.{largest_show, largest_changes}
use Rattle.meaning.specs.Base.{test◌then◌else◌, if_some}
use Rattle.meaning.specs.Sheet.{Entry}
use Rattle.meaning.specs.Read.{read_sheet}
use Rattle.meaning.specs.Show.{entries_text, changes_text, changes, InWords, in_words, no_sheet, show_answer, compared, changes_answer}
use Rattle.meaning.proofs.SheetForm.{read_some}
use Rattle.meaning.proofs.Shown.{entries_size, changes_size}

-- ---- a text, told whole or not at all

abbrev whole : List ℕ → InWords
whole s = record { code = 0; text = s }

abbrev no_room : InWords
no_room = record { code = 10; text = [] }

module _ (room : ℕ) (s : List ℕ) where
  pub words_fit : length s ≤ room → in_words room s ≡ whole s
  unfolding in_words test◌then◌else◌
  words_fit h = rw (le-leb (length s) room h)

  pub words_too_long : room < length s → in_words room s ≡ no_room
  unfolding in_words test◌then◌else◌
  words_too_long h = rw (lt-leb (length s) room h)

  pub words_told : (in_words room s ≡ whole s) ⊎ (in_words room s ≡ no_room)
  unfolding in_words test◌then◌else◌
  words_told = by (leb (length s) room) refl
    where
      by : (b : Bool) → leb (length s) room ≡ b → (in_words room s ≡ whole s) ⊎ (in_words room s ≡ no_room)
      by true e = inl (rw e)
      by false e = inr (rw e)

-- ---- a sheet shown, or what is none

module _ (bs : List ℕ) (room : ℕ) where
  pub show_none : read_sheet bs ≡ none → show_answer bs room ≡ no_sheet
  unfolding show_answer if_some
  show_none e = rw e

  module _ {es : List Entry} (e : read_sheet bs ≡ some es) where
    pub show_some : show_answer bs room ≡ in_words room (entries_text es)
    unfolding show_answer if_some
    show_some = rw e

    pub show_whole : largest_show ≤ room → show_answer bs room ≡ whole (entries_text es)
    show_whole h = show_some ∙ words_fit room (entries_text es) (omega (arith, h, entries_size es ((read_some bs es).0 e).limits))

-- ---- two sheets compared, or what is none

module _ (old new : List ℕ) where
  pub compared_none : (read_sheet old ≡ none) ⊎ (read_sheet new ≡ none) → compared old new ≡ none
  unfolding compared if_some
  compared_none h = ⊎_elim (λ e. rw e) (λ f. by (read_sheet old) refl f) h
    where
      by : (o : Option (List Entry)) → read_sheet old ≡ o → read_sheet new ≡ none → compared old new ≡ none
      by none e f = rw e
      by (some es) e f = rw (e, f)

  pub compared_both : {es fs : List Entry} → read_sheet old ≡ some es → read_sheet new ≡ some fs → compared old new ≡ some (changes es fs)
  unfolding compared if_some
  compared_both e f = rw (e, f)

  module _ (room : ℕ) where
    pub changes_none : (read_sheet old ≡ none) ⊎ (read_sheet new ≡ none) → changes_answer old new room ≡ no_sheet
    unfolding changes_answer if_some
    changes_none h = rw (compared_none h)

    module _ {es fs : List Entry} (e : read_sheet old ≡ some es) (f : read_sheet new ≡ some fs) where
      pub changes_both : changes_answer old new room ≡ in_words room (changes_text (changes es fs))
      unfolding changes_answer if_some
      changes_both = rw (compared_both e f)

      pub changes_whole : largest_changes ≤ room → changes_answer old new room ≡ whole (changes_text (changes es fs))
      changes_whole h =
          changes_both
          ∙ words_fit room (changes_text (changes es fs)) (omega (arith, h, changes_size es fs ((read_some old es).0 e).limits ((read_some new fs).0 f).limits))
