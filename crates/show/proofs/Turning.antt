-- Whether a name's type turned: by the sheets of the name alone.
use mathlib.Core.Path.{◌≡◌, refl, sym, ap, ◌∙◌, subst}
use mathlib.Core.Bool.{true}
use mathlib.Core.List.{List, [], ◌∷◌, Memᴰ}
use Prim.Native.Nat.{ℕ, zero, suc, ◌<◌, ◌≤◌}
use native.Mathlib.Nat.{le_of_suc-le-suc}
use native.Mathlib.Omega.{arith}
use borrow.Author.Tests.{le-leb}
use lib.ListN.{length, get_or, take, drop, length-append}
use lib.Seq.{take-append_seam}
use Rattle.meaning.specs.Base.{test◌then◌else◌, count, same_text}
use Rattle.meaning.specs.Types.{Ty-discrete, same}
use Rattle.meaning.specs.Sheet.{Entry, sheet_of}
use Rattle.meaning.specs.Read.{entries_in}
use Rattle.meaning.specs.Answer.{written, overlaid}
use Rattle.meaning.proofs.Choices.{same_yes, same_no, same_text_lem, text_same, not_so}
use Rattle.meaning.proofs.SheetForm.{limits, sheet_size}
use Rattle.meaning.proofs.Alone.{alone_within, alone_same}
use Rattle.types.specs.Table.{tab}
use Rattle.sheet.specs.Listing.{no_name, start_at, length_at, type_at, listed, listed_from, Listing, Wrote}
use Rattle.sheet.specs.Listing.{entry_at as entry_in}
use Rattle.std.specs.Prelude.{Option, IsSome, unwrap_or}
use Rattle.show.specs.Words.{entry_at, entry_of, largest_alone}
use Rattle.sheet.specs.declared.list.ListedName.{ListedName}
use Rattle.show.specs.declared.Opened.{Opened}
use Rattle.show.proofs.Names.{its_names, its_sheet, names_many, entry_is, name_inside}

-- the entry at a place is one of the entries
entry_among : (es : List Entry) (k : ℕ) → k < length es → Memᴰ (entry_at es k) es
entry_among [] k h = absurd (omega arith)
entry_among (e ∷ es) zero h = Memᴰ.head refl
entry_among (e ∷ es) (suc k) h = Memᴰ.tail (entry_among es k (le_of_suc-le-suc h))

module _ (o : Opened) where
  module _ {k : ℕ} (h : k < o.read.names) where
    pub among : Memᴰ (entry_of o.sheet.now k) (entries_in o.sheet.now)
    among = entry_among (entries_in o.sheet.now) k (omega (arith, h, names_many o))

    pub name_short : length_at o.names.now k ≤ 64
    name_short = (its_names o).short k h

    -- a list of name k alone
    module _ (new : List ListedName) (p : get_or new 0 no_name ≡ get_or o.names.now k no_name) where
      starts : start_at new 0 ≡ start_at o.names.now k
      starts = ap (λ (e : ListedName). e.start) p

      sizes : length_at new 0 ≡ length_at o.names.now k
      sizes = ap (λ (e : ListedName). e.len) p

      types : type_at new 0 ≡ type_at o.names.now k
      types = ap (λ (e : ListedName). e.ty) p

      only : (j : ℕ) → j < 1 → j ≡ 0
      only j l = omega (arith, l)

      pub alone_listing : Listing o.sheet.now (tab o.table.now o.read.counts.types o.read.counts.elements) new 1
      alone_listing = record {
        wf = (its_names o).wf;
        few = omega arith;
        inside = λ j l. rw (only j l) (omega (arith, starts, sizes, name_inside o h));
        short = λ j l. rw (only j l) (omega (arith, sizes, name_short));
        known = λ j l. rw (only j l) (omega (arith, types, (its_names o).known k h));
      }

      alone_listed : listed o.sheet.now (tab o.table.now o.read.counts.types o.read.counts.elements) new 1 ≡ entry_of o.sheet.now k ∷ []
      unfolding listed listed_from entry_in count
      alone_listed = rw (starts, sizes, types, entry_is o h)

      alone_fits : length (sheet_of (entry_of o.sheet.now k ∷ [])) ≤ largest_alone
      alone_fits =
          let e = entry_of o.sheet.now k ∷ [] in
          omega (arith, sheet_size e, limits e (alone_within (entries_in o.sheet.now) (entry_of o.sheet.now k) (its_sheet o).limits among))

      -- so the writer never lacks room for it
      pub alone_there : {r : Option ℕ} {d e : List ℕ} → length d ≡ largest_alone → Wrote (listed o.sheet.now (tab o.table.now o.read.counts.types o.read.counts.elements) new 1) r d e
          → IsSome r
      alone_there {d = d} l x =
          let f : length (sheet_of (entry_of o.sheet.now k ∷ [])) ≤ length d = omega (arith, alone_fits, l) in
          x.fits_is ∙ rw alone_listed (le-leb _ _ f)

      pub alone_written : {r : Option ℕ} {d e : List ℕ} → length d ≡ largest_alone → Wrote (listed o.sheet.now (tab o.table.now o.read.counts.types o.read.counts.elements) new 1) r d e
          → (take (unwrap_or r 0) e ≡ sheet_of (entry_of o.sheet.now k ∷ [])) × (unwrap_or r 0 ≤ length e)
      unfolding written test◌then◌else◌ overlaid
      alone_written {r} {d} {e} l x =
          let s = sheet_of (entry_of o.sheet.now k ∷ []) in
          let f : length s ≤ length d = omega (arith, alone_fits, l) in
          let v : (written (length d) (sheet_of (listed o.sheet.now (tab o.table.now o.read.counts.types o.read.counts.elements) new 1))).sheet ≡ s = rw (alone_listed, le-leb (length s) (length d) f) in
          let z : unwrap_or r 0 ≡ length s = x.length_is ∙ ap length v in
          let y : e ≡ overlaid s d = x.out_is ∙ ap (λ (t : List ℕ). overlaid t d) v in
          (rw (z, y) (take-append_seam s (drop (length s) d)), rw y (omega (arith, z, length-append s (drop (length s) d))))

-- the sheets of the name alone are one exactly when its types are
pub turned_told : (o p : Opened) {i j : ℕ} (h : i < o.read.names) (k : j < p.read.names)
    → (entry_of o.sheet.now i).0 ≡ (entry_of p.sheet.now j).0 → {s t : List ℕ} → s ≡ sheet_of (entry_of o.sheet.now i ∷ []) → t ≡ sheet_of (entry_of p.sheet.now j ∷ [])
    → same_text s t ≡ same (entry_of o.sheet.now i).1 (entry_of p.sheet.now j).1
turned_told o p {i} {j} h k n {s} {t} a b =
    let d = entry_of o.sheet.now i in
    let e = entry_of p.sheet.now j in
    let f = alone_same (its_sheet o).limits (its_sheet p).limits (among o h) (among p k) n in
    elim (Ty-discrete d.1 e.1) [
      | yes y ↦ subst (λ (x : List ℕ). same_text s x ≡ true) (a ∙ f.1 y ∙ sym b) (text_same s) ∙ sym (same_yes d.1 e.1 y)
      | no x ↦ not_so (same_text s t) (λ z. x (f.0 (sym a ∙ same_text_lem s t z ∙ b))) ∙ sym (same_no d.1 e.1 x)
    ]
