-- What `show` and `changes` promise, from their parts; and that no second outcome fits.
use mathlib.Core.Path.{◌≡◌, refl, sym, ap, ◌∙◌}
use mathlib.Core.Logic.{inl, inr}
use mathlib.Core.List.{List, [], ◌∷◌}
use mathlib.Core.Option.{none, some}
use Prim.Native.Nat.{ℕ, ◌+◌, ◌<◌, ◌≤◌}
use native.Mathlib.Omega.{arith}
use lib.ListN.{length, take}
use lib.Seq.{length-take-le}
use Rattle.meaning.specs.Limits.{largest_show, largest_changes}
use Rattle.meaning.specs.Base.{test◌then◌else◌, choose}
use Rattle.meaning.specs.Read.{entries_in, read_sheet, SheetOf}
use Rattle.meaning.specs.Show.{entries_text, changes_text, changes, InWords, in_words, show_answer, changes_answer}
use Rattle.meaning.proofs.Answers.{overlaid_front, overlaid_none}
use Rattle.meaning.proofs.SheetForm.{sheet_is, read_some, read_no}
use Rattle.meaning.proofs.Shown.{entries_size, changes_size}
use Rattle.meaning.proofs.InWords.{words_fit, words_too_long, show_some, show_none, changes_none, changes_both}
use Rattle.words.specs.Words.{put_at, Wrote}
use Rattle.words.proofs.Laws.{put_overlaid}
use Rattle.sheet.specs.Reading.{Reads}
use Rattle.std.specs.Prelude.{Some, None, Ok, Err}
use Rattle.show.specs.Words.{Tells, Telling, telling_code, telling_length}
use Rattle.show.specs.declared.Untold.TheVariants.{NoRoom, NoSheet}
use Rattle.sheet.specs.declared.list.ListedName.{ListedName}
use Rattle.sheet.specs.declared.reader.ReadSheet.{ReadSheet}

-- ---- a text is handed out

-- nothing was written
refused : (code : ℕ) (out : List ℕ) → Tells (record { code = code; text = [] }) code 0 out out
refused code out = record { code_is = refl; length_is = refl; out_is = sym (overlaid_none out) }

module _ (room n : ℕ) (s out : List ℕ) (h : n ≤ length s) where
  pub no_room : length out ≡ room → room < n → Tells (in_words room (take n s)) 10 0 out out
  no_room e l = rw (words_too_long room (take n s) (omega (arith, l, length-take-le n s h))) (refused 10 out)

  pub handed_out : {new : List ℕ} {r : ℕ} → length out ≡ room → n ≤ room → new ≡ put_at out 0 (take n s) → r ≡ 0 + length (take n s) → Tells (in_words room (take n s)) 0 r out new
  handed_out e l w p =
      rw (words_fit room (take n s) (omega (arith, l, length-take-le n s h)))
      record { code_is = refl; length_is = omega (arith, p); out_is = w ∙ put_overlaid out (take n s) }

-- what stands at the front of a buffer
pub front_is : {d s e : List ℕ} {n : ℕ} → Wrote d 0 s e n → take n e ≡ s
front_is {d} {s} {e} {n} p =
    let z : n ≡ length s = omega (arith, p.ends) in
    rw (z, p.same, put_overlaid d s) (overlaid_front s d)

-- ---- a sheet, or none

module _ {bs cs : List ℕ} {cells : List ListedName} (r : Reads bs None cs cells) where
  none_read : read_sheet bs ≡ none
  none_read = read_no bs (sym r.stands_is)

  pub not_shown : (room : ℕ) (out : List ℕ) → Tells (show_answer bs room) 12 0 out out
  not_shown room out = rw (show_none bs room none_read) (refused 12 out)

  pub old_none : (new : List ℕ) (room : ℕ) (out : List ℕ) → Tells (changes_answer bs new room) 12 0 out out
  old_none new room out = rw (changes_none bs new room (inl none_read)) (refused 12 out)

  pub new_none : (old : List ℕ) (room : ℕ) (out : List ℕ) → Tells (changes_answer old bs room) 12 0 out out
  new_none old room out = rw (changes_none old bs room (inr none_read)) (refused 12 out)

module _ {bs cs : List ℕ} {cells : List ListedName} {s : ReadSheet} (r : Reads bs (Some s) cs cells) where
  its_sheet : SheetOf bs (entries_in bs)
  its_sheet = sheet_is bs (sym r.stands_is)

  its_read : read_sheet bs ≡ some (entries_in bs)
  its_read = (read_some bs (entries_in bs)).1 its_sheet

  pub shown_room : length (entries_text (entries_in bs)) ≤ largest_show
  shown_room = entries_size (entries_in bs) its_sheet.limits

  pub shown_all : (room : ℕ) {t : List ℕ} → t ≡ entries_text (entries_in bs) → show_answer bs room ≡ in_words room t
  shown_all room e = rw e (show_some bs room its_read)

  module _ {bs₂ cs₂ : List ℕ} {cells₂ : List ListedName} {s₂ : ReadSheet} (r₂ : Reads bs₂ (Some s₂) cs₂ cells₂) where
    other_sheet : SheetOf bs₂ (entries_in bs₂)
    other_sheet = sheet_is bs₂ (sym r₂.stands_is)

    pub changes_room : length (changes_text (changes (entries_in bs) (entries_in bs₂))) ≤ largest_changes
    changes_room = changes_size (entries_in bs) (entries_in bs₂) its_sheet.limits other_sheet.limits

    pub changes_all : (room : ℕ) {t : List ℕ} → t ≡ changes_text (changes (entries_in bs) (entries_in bs₂)) → changes_answer bs bs₂ room ≡ in_words room t
    changes_all room e = rw e (changes_both bs bs₂ room its_read ((read_some bs₂ (entries_in bs₂)).1 other_sheet))

-- ---- no second outcome fits

unfoldable telling_from : ℕ → ℕ → Telling
telling_from code size = choose code (Err NoSheet) ((0, Ok size) ∷ (10, Err NoRoom) ∷ [])

telling_back : (r : Telling) → telling_from (telling_code r) (telling_length r) ≡ r
unfolding telling_from choose test◌then◌else◌
telling_back (Ok n) = refl
telling_back (Err NoRoom) = refl
telling_back (Err NoSheet) = refl

pub one_telling : (a : InWords) (r q : Telling) {old new₁ new₂ : List ℕ} → Tells a (telling_code r) (telling_length r) old new₁ → Tells a (telling_code q) (telling_length q) old new₂
    → (r ≡ q) × (new₁ ≡ new₂)
one_telling a r q x y = (
  sym (telling_back r) ∙ ap (λ (c : ℕ). telling_from c (telling_length r)) (x.code_is ∙ sym y.code_is) ∙ ap (telling_from (telling_code q)) (x.length_is ∙ sym y.length_is) ∙ telling_back q,
  x.out_is ∙ sym y.out_is,
)
