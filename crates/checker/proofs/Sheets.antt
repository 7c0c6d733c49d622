-- What the reader and the writer of sheets promise.
use mathlib.Core.Path.{◌≡◌, refl, sym, ap, ◌∙◌}
use mathlib.Core.Bool.{Bool, true, false}
use mathlib.Core.List.{List, [], ◌∷◌}
use Prim.Native.Nat.{ℕ}
use lib.ListN.{length}
use Rattle.std.specs.Prelude.{Option, Some, None, Result, Ok, Err, ok_or}
use Rattle.meaning.specs.Base.{test◌then◌else◌, if_some, choose}
use Rattle.meaning.specs.Sheet.{sheet_of}
use Rattle.meaning.specs.Read.{entries_in, read_sheet}
use Rattle.meaning.specs.Answer.{Answer as Meant, written, write_answer, read_answer}
use Rattle.meaning.proofs.Answers.{overlaid_none}
use Rattle.types.specs.Table.{Tab}
use Rattle.sheet.specs.Listing.{listed}
use Rattle.sheet.specs.Listing.{Wrote as Laid}
use Rattle.sheet.specs.Reading.{tab_read, Reads}
use Rattle.sheet.specs.declared.list.ListedName.{ListedName}
use Rattle.sheet.specs.declared.reader.ReadSheet.{ReadSheet}
use Rattle.checker.specs.Answers.{Numbers, numbers_in, no_sheet, reading_numbers, rewriting_numbers, rewritten, Relaid, reply_means}
use Rattle.checker.specs.declared.Reply.{Reply}
use Rattle.checker.specs.declared.NoSheet.{NoSheet}
use Rattle.checker.specs.declared.Unwritten.{Unwritten}
use Rattle.checker.specs.declared.Unwritten.TheVariants.{NoRoom, NotRead}
use Rattle.checker.proofs.Outcomes.{same_reply}

module _ {bs cs : List ℕ} {cells : List ListedName} where
  pub reading_yes : {r : ReadSheet} → Reads bs (Some r) cs cells → reading_numbers (Ok tt) ≡ numbers_in (read_answer bs)
  unfolding read_answer read_sheet if_some test◌then◌else◌
  reading_yes x = rw (sym x.stands_is)

  pub reading_no : Reads bs None cs cells → reading_numbers (Err no_sheet) ≡ numbers_in (read_answer bs)
  unfolding read_answer read_sheet if_some test◌then◌else◌
  reading_no x = rw (sym x.stands_is)

  pub not_read : {out : List ℕ} → Reads bs None cs cells → Relaid (rewritten bs (length out)) (rewriting_numbers (Err NotRead)) out out
  unfolding rewritten read_sheet if_some test◌then◌else◌
  not_read {out} x = rw (sym x.stands_is) record { numbers = refl; sheet = sym (overlaid_none out) }

  module _ {r : ReadSheet} (x : Reads bs (Some r) cs cells) where
    again : (room : ℕ) → rewritten bs room ≡ written room (sheet_of (entries_in bs))
    unfolding rewritten read_sheet write_answer if_some test◌then◌else◌
    again room = rw (sym x.stands_is)

    pub relaid_as : (o : Option ℕ) {old new : List ℕ} → Laid (listed bs (tab_read cs r) cells r.names) o old new
        → Relaid (rewritten bs (length old)) (rewriting_numbers (ok_or o NoRoom)) old new
    unfolding written test◌then◌else◌
    relaid_as (Some k) {old} w =
        rw (again (length old), ← x.listed_is) record { numbers = rw (w.length_is, sym w.fits_is); sheet = w.out_is }
    relaid_as None {old} w =
        rw (again (length old), ← x.listed_is) record { numbers = rw (sym w.fits_is); sheet = w.out_is }

-- ---- for other languages

pub read_code : (bs : List ℕ) (c : ℕ) → c ≡ (numbers_in (read_answer bs)).code → c ≡ (read_answer bs).code
read_code bs c e = e

pub relays : {a : Meant} {n k : Numbers} {old new : List ℕ} → n ≡ k → Relaid a k old new → Relaid a n old new
relays e w = record { numbers = e ∙ w.numbers; sheet = w.sheet }

-- ---- no second outcome fits

-- what `read_sheet` hands out
abbrev pub Reading : Type 0
Reading = Result (Unit {0}) NoSheet

unfoldable reading_from : Numbers → Reading
reading_from n = choose n.code (Err no_sheet) ((0, Ok tt) ∷ [])

reading_back : (r : Reading) → reading_from (reading_numbers r) ≡ r
unfolding reading_from choose test◌then◌else◌
reading_back (Ok tt) = refl
reading_back (Err e) = refl

pub one_reading : (a : Meant) {r q : Reading} → reading_numbers r ≡ numbers_in a → reading_numbers q ≡ numbers_in a → r ≡ q
one_reading a {r} {q} x y = sym (reading_back r) ∙ ap reading_from (x ∙ sym y) ∙ reading_back q

-- what `write_sheet` hands out
abbrev pub Rewriting : Type 0
Rewriting = Result ℕ Unwritten

unfoldable rewriting_from : Numbers → Rewriting
rewriting_from n = choose n.code (Err NotRead) ((0, Ok n.sheet) ∷ (10, Err NoRoom) ∷ [])

rewriting_back : (r : Rewriting) → rewriting_from (rewriting_numbers r) ≡ r
unfolding rewriting_from choose test◌then◌else◌
rewriting_back (Ok n) = refl
rewriting_back (Err NoRoom) = refl
rewriting_back (Err NotRead) = refl

pub same_rewriting : (r q : Rewriting) → rewriting_numbers r ≡ rewriting_numbers q → r ≡ q
same_rewriting r q e = sym (rewriting_back r) ∙ ap rewriting_from e ∙ rewriting_back q

pub one_rewriting : (a : Meant) (r q : Rewriting) {old new₁ new₂ : List ℕ} → Relaid a (rewriting_numbers r) old new₁
    → Relaid a (rewriting_numbers q) old new₂ → (r ≡ q) × (new₁ ≡ new₂)
one_rewriting a r q x y = (same_rewriting r q (x.numbers ∙ sym y.numbers), x.sheet ∙ sym y.sheet)

-- nor one of the C twins: every field and every byte
pub one_reading_told : (bs : List ℕ) {c d : ℕ} → c ≡ (read_answer bs).code → d ≡ (read_answer bs).code → c ≡ d
one_reading_told bs x y = x ∙ sym y

pub one_relaid : (a : Meant) (r q : Reply) {old new₁ new₂ : List ℕ} → Relaid a (reply_means r) old new₁ → Relaid a (reply_means q) old new₂
    → (r ≡ q) × (new₁ ≡ new₂)
one_relaid a r q x y = (same_reply r q (x.numbers ∙ sym y.numbers), x.sheet ∙ sym y.sheet)
