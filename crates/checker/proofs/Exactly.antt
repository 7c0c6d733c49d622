-- Demand 3 for the reader and the writer of sheets: what their runs do, and those of their C twins. A run of the reader is told by its number c,
-- which its promise fixes: for `read_sheet` by `read_number`. A run of the writer is told by its numbers and the buffer (`Relaid`).
use mathlib.Core.Path.{◌≡◌, refl, sym, ap, ◌∙◌, subst}
use mathlib.Core.Bool.{Bool, true, false, false≢true}
use mathlib.Core.Logic.{◌↔◌, ◌⊎◌, inl, inr}
use mathlib.Core.List.{List, [], ◌++◌, Memᴰ}
use Prim.Native.Nat.{ℕ, ◌≤◌, ◌<◌}
use native.Mathlib.Omega.{arith}
use lib.ListN.{length, drop}
use Rattle.meaning.specs.Base.{test◌then◌else◌, if_some}
use Rattle.meaning.specs.Types.{Ty}
use Rattle.meaning.specs.Sheet.{Entry, sheet_of, texts_stand, within_limits}
use Rattle.meaning.specs.Read.{entries_in, is_sheet, read_sheet, SheetOf}
use Rattle.meaning.specs.Answer.{Answer as Meant, bare, written, write_answer, read_answer, overlaid}
use Rattle.meaning.proofs.Choices.{and_left}
use Rattle.meaning.proofs.SheetForm.{sheet_is, is_sheet_lem}
use Rattle.meaning.proofs.SheetSame.{told_by_members}
use Rattle.std.specs.Prelude.{Ok, Err}
use Rattle.checker.specs.Answers.{Numbers, bare_numbers, sheet_numbers, numbers_in, reading_numbers, rewritten, Relaid, no_sheet}
use Rattle.checker.proofs.Sheets.{Reading}
use Rattle.checker.proofs.Written.{by_room}

-- the bytes are the sheet of some names with their types, within the limits
abbrev pub IsSheet : List ℕ → Type 0
IsSheet bs = (es : List Entry) × SheetOf bs es

-- ---- the definitions, by whether the bytes are a sheet

module _ (bs : List ℕ) where
  pub read_yes : is_sheet bs ≡ true → read_answer bs ≡ bare 0 0
  unfolding read_answer read_sheet if_some test◌then◌else◌
  read_yes e = rw e

  read_no : is_sheet bs ≡ false → read_answer bs ≡ bare 12 0
  unfolding read_answer read_sheet if_some test◌then◌else◌
  read_no e = rw e

  again_yes : is_sheet bs ≡ true → (room : ℕ) → rewritten bs room ≡ written room bs
  unfolding rewritten read_sheet write_answer if_some test◌then◌else◌
  again_yes e room = rw e (ap (written room) (sym (sheet_is bs e).written))

  again_no : is_sheet bs ≡ false → (room : ℕ) → rewritten bs room ≡ bare 12 0
  unfolding rewritten read_sheet if_some test◌then◌else◌
  again_no e room = rw e

  not_one : is_sheet bs ≡ false → IsSheet bs → ⊥
  not_one e s = false≢true (sym e ∙ is_sheet_lem bs s.0 s.1)

-- ---- reading

-- a run of `read_sheet`, by its number; and the answer of a number
pub read_number : (bs : List ℕ) (r : Reading) → reading_numbers r ≡ numbers_in (read_answer bs) → (reading_numbers r).code ≡ (read_answer bs).code
read_number bs r e = ap (λ (n : Numbers). n.code) e

pub read_answer_lem : (r : Reading) → (((reading_numbers r).code ≡ 0) ↔ (r ≡ Ok tt)) × (((reading_numbers r).code ≡ 12) ↔ (r ≡ Err no_sheet))
read_answer_lem (Ok tt) = ((λ e. refl, λ e. refl), (λ e. absurd (omega (arith, e)), λ e. ap (λ (r : Reading). (reading_numbers r).code) e))
read_answer_lem (Err u) = ((λ e. absurd (omega (arith, e)), λ e. ap (λ (r : Reading). (reading_numbers r).code) e), (λ e. refl, λ e. refl))

-- "it takes every sheet of this form, and gives one refusal, 12, .. for anything else". (False of a reader that refuses everything, and of one
-- that takes a type which no name reaches.)
pub record ReadsExactly (bs : List ℕ) (c : ℕ) : Type 0 where
  pub takes : (c ≡ 0) ↔ IsSheet bs
  pub refuses : (c ≡ 12) ↔ (IsSheet bs → ⊥)
  pub only : (c ≡ 0) ⊎ (c ≡ 12)

pub read_exactly : (bs : List ℕ) (c : ℕ) → c ≡ (read_answer bs).code → ReadsExactly bs c
read_exactly bs c x = by (is_sheet bs) refl
  where
    by : (b : Bool) → is_sheet bs ≡ b → ReadsExactly bs c
    by true e =
        let z : c ≡ 0 = x ∙ ap (λ (a : Meant). a.code) (read_yes bs e) in
        let s : IsSheet bs = (entries_in bs, sheet_is bs e) in
        record { takes = (λ p. s, λ p. z); refuses = (λ p. absurd (omega (arith, z, p)), λ n. absurd (n s)); only = inl z }
    by false e =
        let z : c ≡ 12 = x ∙ ap (λ (a : Meant). a.code) (read_no bs e) in
        let n = not_one bs e in
        record { takes = (λ p. absurd (omega (arith, z, p)), λ s. absurd (n s)); refuses = (λ p. n, λ p. z); only = inr z }

-- the same of the answer of `read_sheet`
module _ (bs : List ℕ) (r : Reading) (x : reading_numbers r ≡ numbers_in (read_answer bs)) where
  pub reads_sheet : (r ≡ Ok tt) ↔ IsSheet bs
  reads_sheet =
      let e = (read_exactly bs _ (read_number bs r x)).takes in
      let a = (read_answer_lem r).0 in
      (λ p. e.0 (a.1 p), λ s. a.0 (e.1 s))

  pub reads_none : (r ≡ Err no_sheet) ↔ (IsSheet bs → ⊥)
  reads_none =
      let e = (read_exactly bs _ (read_number bs r x)).refuses in
      let a = (read_answer_lem r).1 in
      (λ p. e.0 (a.1 p), λ n. a.0 (e.1 n))

-- ---- writing what was read

-- 0: the bytes are a sheet that fits, and stand at the front of the buffer; the rest is kept
pub record SameBytes (bs : List ℕ) (n : Numbers) (old new : List ℕ) : Type 0 where
  pub sheet : IsSheet bs
  pub fits : length bs ≤ length old
  pub numbers : n ≡ sheet_numbers (length bs)
  pub left : new ≡ bs ++ drop (length bs) old

-- 10: they are a sheet that does not fit, and no byte changes
pub record TooLong (bs : List ℕ) (n : Numbers) (old new : List ℕ) : Type 0 where
  pub sheet : IsSheet bs
  pub long : length old < length bs
  pub numbers : n ≡ bare_numbers 10 0
  pub left : new ≡ old

-- 12: they are no sheet, and no byte changes
pub record Unread (bs : List ℕ) (n : Numbers) (old new : List ℕ) : Type 0 where
  pub none : IsSheet bs → ⊥
  pub numbers : n ≡ bare_numbers 12 0
  pub left : new ≡ old

-- one of the three: "writing what it read gives the same bytes". The numbers tell the answer of `write_sheet` (`same_rewriting` in Sheets).
-- (False of a writer that leaves as much of a sheet as fits, of one that also clears what follows, and of one that tells the buffer's length.)
pub write_same : (bs : List ℕ) {n : Numbers} {old new : List ℕ} → Relaid (rewritten bs (length old)) n old new
    → SameBytes bs n old new ⊎ (TooLong bs n old new ⊎ Unread bs n old new)
unfolding overlaid
write_same bs {n} {old} {new} x = by (is_sheet bs) refl
  where
    by : (b : Bool) → is_sheet bs ≡ b → SameBytes bs n old new ⊎ (TooLong bs n old new ⊎ Unread bs n old new)
    by true e =
        let s : IsSheet bs = (entries_in bs, sheet_is bs e) in
        by_room (λ a. Relaid a n old new → SameBytes bs n old new ⊎ (TooLong bs n old new ⊎ Unread bs n old new)) (length old) bs
        (λ h w. inl (record { sheet = s; fits = h; numbers = w.numbers; left = w.sheet }))
        (λ h w. inr (inl (record { sheet = s; long = h; numbers = w.numbers; left = w.sheet })))
        (subst (λ (a : Meant). Relaid a n old new) (again_yes bs e (length old)) x)
    by false e =
        let w = subst (λ (a : Meant). Relaid a n old new) (again_no bs e (length old)) x in
        inr (inr (record { none = not_one bs e; numbers = w.numbers; left = w.sheet }))

-- ---- two sheets

-- the same names with the same types
pub record SameEntries (es fs : List Entry) : Type 0 where
  pub same : (name : List ℕ) (t : Ty) → Memᴰ (name, t) es ↔ Memᴰ (name, t) fs

texts_of : (es : List Entry) → within_limits es ≡ true → texts_stand [] es ≡ true
unfolding within_limits
texts_of es h = and_left _ _ (and_left _ _ (and_left _ _ h))

-- Two byte strings that the reader takes are equal exactly when they say the same names with the same types, be it as lists or one by one.
-- (False of a reader that takes bytes behind the texts, or types in another order: two byte strings would say the same.)
module _ (a b : List ℕ) {c d : ℕ} (x : c ≡ (read_answer a).code) (y : d ≡ (read_answer b).code) (z : c ≡ 0) (w : d ≡ 0) where
  is : (bs : List ℕ) (k : ℕ) → k ≡ (read_answer bs).code → k ≡ 0 → SheetOf bs (entries_in bs)
  is bs k e f = let s = (read_exactly bs k e).takes.0 f in sheet_is bs (is_sheet_lem bs s.0 s.1)

  pub equal_exactly : (a ≡ b) ↔ (entries_in a ≡ entries_in b)
  equal_exactly = (λ e. ap entries_in e, λ e. (is a c x z).written ∙ ap sheet_of e ∙ sym (is b d y w).written)

  pub equal_by_name : (a ≡ b) ↔ SameEntries (entries_in a) (entries_in b)
  equal_by_name = (
    λ e. record { same = λ name t. (subst (λ (s : List ℕ). Memᴰ (name, t) (entries_in s)) e, subst (λ (s : List ℕ). Memᴰ (name, t) (entries_in s)) (sym e)) },
    λ m. equal_exactly.1 (
        told_by_members [] [] (entries_in a) (entries_in b) (texts_of (entries_in a) (is a c x z).limits) (texts_of (entries_in b) (is b d y w).limits)
        (λ e i. (m.same e.0 e.1).0 i) (λ e i. (m.same e.0 e.1).1 i)
        ),
  )
