-- What follows for callers: writing what was read gives the same bytes, and bytes that are read stand for their names alone.
use mathlib.Core.Path.{◌≡◌, refl, sym, ap, ◌∙◌, subst}
use mathlib.Core.Bool.{true}
use mathlib.Core.List.{List}
use mathlib.Core.Option.{some}
use Prim.Native.Nat.{ℕ}
use lib.Dec.{leb}
use lib.ListN.{length}
use Rattle.meaning.specs.Sheet.{Entry, sheet_of}
use Rattle.meaning.specs.Read.{entries_in, read_sheet, SheetOf}
use Rattle.meaning.specs.Answer.{written, write_answer, overlaid}
use Rattle.meaning.proofs.Answers.{write_read}
use Rattle.meaning.proofs.SheetForm.{sheet_is, is_sheet_lem, sheet_one, read_some}
use Rattle.std.specs.Prelude.{Option, Some, None, is_some, IfSome, unwrap_or}
use Rattle.sheet.specs.declared.list.ListedName.{ListedName}
use Rattle.sheet.specs.declared.reader.ReadSheet.{ReadSheet}
use Rattle.sheet.specs.Listing.{listed, Wrote}
use Rattle.sheet.specs.Reading.{tab_read, Reads}

-- the names and types that were read
abbrev pub names_read : List ℕ → ReadSheet → List ℕ → List ListedName → List Entry
names_read bs s cs cells = listed bs (tab_read cs s) cells s.names

-- any sheet is taken, with the entries that it is the sheet of
pub read_takes : {bs cs : List ℕ} {cells : List ListedName} {o : Option ReadSheet} → Reads bs o cs cells → (es : List Entry) → SheetOf bs es
    → (is_some o ≡ true) × IfSome o (λ s. names_read bs s cs cells ≡ es)
read_takes {bs} {o = None} r es s = (r.stands_is ∙ is_sheet_lem bs es s, tt)
read_takes {bs} {o = Some x} r es s = (refl, r.listed_is ∙ sheet_one bs es s)

module _ {bs cs : List ℕ} {cells : List ListedName} {s : ReadSheet} (r : Reads bs (Some s) cs cells) where
  -- what was read is what the bytes are the sheet of
  pub read_sheet_lem : SheetOf bs (names_read bs s cs cells)
  read_sheet_lem = subst (SheetOf bs) (sym r.listed_is) (sheet_is bs (sym r.stands_is))

  pub read_gives : read_sheet bs ≡ some (names_read bs s cs cells)
  read_gives = (read_some bs (names_read bs s cs cells)).1 read_sheet_lem

  pub rewritten : sheet_of (names_read bs s cs cells) ≡ bs
  rewritten = sym read_sheet_lem.written

  pub rewritten_answer : (room : ℕ) → write_answer (names_read bs s cs cells) room ≡ written room bs
  rewritten_answer room = write_read bs (names_read bs s cs cells) room read_gives

  -- the writer's promise, of the bytes that were read
  pub rewritten_out : {o : Option ℕ} {old new : List ℕ} → Wrote (names_read bs s cs cells) o old new
      → (is_some o ≡ leb (length bs) (length old)) × (unwrap_or o 0 ≡ length (written (length old) bs).sheet) × (new ≡ overlaid (written (length old) bs).sheet old)
  rewritten_out {o} {old} {new} w =
      let e = rewritten in (
        w.fits_is ∙ ap (λ (l : List ℕ). leb (length l) (length old)) e,
        w.length_is ∙ ap (λ (l : List ℕ). length (written (length old) l).sheet) e,
        w.out_is ∙ ap (λ (l : List ℕ). overlaid (written (length old) l).sheet old) e,
      )

-- two byte strings that are both taken have the same entries exactly if they are the same
module _ {bs bs₂ cs cs₂ : List ℕ} {cells cells₂ : List ListedName} {s s₂ : ReadSheet} (r : Reads bs (Some s) cs cells) (r₂ : Reads bs₂ (Some s₂) cs₂ cells₂) where
  pub same_entries : names_read bs s cs cells ≡ names_read bs₂ s₂ cs₂ cells₂ → bs ≡ bs₂
  same_entries e = sym (rewritten r) ∙ ap sheet_of e ∙ rewritten r₂

  pub same_bytes : bs ≡ bs₂ → names_read bs s cs cells ≡ names_read bs₂ s₂ cs₂ cells₂
  same_bytes e = r.listed_is ∙ ap entries_in e ∙ sym r₂.listed_is
