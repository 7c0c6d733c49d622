-- The reader's end: the texts, the comparison with what the writer writes, and the answer.
use mathlib.Core.Path.{◌≡◌, refl, sym, ap, ◌∙◌, subst}
use mathlib.Core.Bool.{Bool, true, false, false≢true}
use mathlib.Core.List.{List, [], ◌++◌, map}
use Prim.Native.Nat.{ℕ, zero, suc, ◌+◌, ◌≤◌, ◌<◌}
use native.Mathlib.Omega.{arith}
use borrow.Author.Tests.{leb-true, leb-false, le-leb}
use lib.Dec.{leb}
use Rattle.std.specs.Prelude.{Some, None}
use Rattle.sheet.specs.declared.list.ListedName.{ListedName}
use Rattle.sheet.specs.declared.layout.Areas.{Areas}
use lib.ListN.{length, take, drop, length-append, length-take}
use lib.Seq.{take-append_seam, get_or-take}
use Rattle.meaning.specs.Base.{◌and◌, test◌then◌else◌, same_text, word, words, count}
use Rattle.meaning.specs.Image.{text_stands}
use Rattle.meaning.specs.Sheet.{Entry, types_of, elements_of, sheet_of, texts_stand, within_limits}
use Rattle.meaning.specs.Read.{entries_in, is_sheet}
use Rattle.meaning.specs.Answer.{written, overlaid}
use Rattle.meaning.proofs.Choices.{both, not_so, same_text_lem, text_same}
use Rattle.meaning.proofs.SheetWords.{four_bytes}
use Rattle.meaning.proofs.SheetForm.{sheet_is, is_sheet_lem, sheet_size, sheet_length}
use Rattle.meaning.specs.Limits.{largest_sheet, most_names, most_types, most_elements}
use Rattle.types.specs.declared.Counts.{Counts}
use Rattle.types.specs.Table.{Tab, tab}
use Rattle.sheet.specs.Listing.{no_name, start_at, length_at, entry_of, listed_from, listed, Listing, Wrote}
use Rattle.sheet.specs.Reading.{Headed, TypesRead, NamesRead, TextsInside, TextsTold, Compared, Reads}
use Rattle.sheet.proofs.Names.{names_step, none_left}
use Rattle.sheet.proofs.Whole.{listed_first}
use Rattle.sheet.proofs.Naming.{entries_are, entries_listing, texts_of}

-- ---- the texts

pub record StandLoop (source : List ℕ) (ns : List ListedName) (k : ℕ) (last : List ℕ) : Type 0 where
  pub left : (t : Tab) → texts_stand last (map (entry_of source t) (drop k ns)) ≡ texts_stand [] (map (entry_of source t) ns)

module _ {source : List ℕ} {ns : List ListedName} {k : ℕ} {last : List ℕ} (l : StandLoop source ns k last) (h : k < length ns)
    {s : List ℕ} (e : s ≡ take (length_at ns k) (drop (start_at ns k) source)) {r : Bool} (er : r ≡ text_stands last s) where
  split : (t : Tab) → (text_stands last s and texts_stand s (map (entry_of source t) (drop (k + 1) ns))) ≡ texts_stand [] (map (entry_of source t) ns)
  unfolding texts_stand
  split t = rw e (sym (ap (λ (rs : List ListedName). texts_stand last (map (entry_of source t) rs)) (names_step ns k h)) ∙ l.left t)

  pub stand_not : r ≡ false → TextsTold source ns false
  unfolding ◌and◌
  stand_not f = record { is = λ t. rw (sym er ∙ f) at (split t) }

  pub stand_next : r ≡ true → StandLoop source ns (k + 1) s
  unfolding ◌and◌
  stand_next f = record { left = λ t. rw (sym er ∙ f) at (split t) }

pub stand_end : {source : List ℕ} {ns : List ListedName} {k : ℕ} {last : List ℕ} → StandLoop source ns k last → (k < length ns → ⊥) → TextsTold source ns true
unfolding texts_stand
stand_end {ns = ns} {k} l h = record { is = λ t. rw (none_left ns k h) at (l.left t) }

-- ---- the comparison

pub wrote_short : {es : List Entry} {old new : List ℕ} → Wrote es None old new → length old ≡ largest_sheet → {bs : List ℕ} → Compared bs es false
wrote_short {es} {old} w e = record {
  yes = λ z. absurd (false≢true z);
  no = λ z l s. absurd (omega (arith, leb-false (length (sheet_of es)) (length old) (sym w.fits_is)));
}

module _ {es : List Entry} {long : ℕ} {old new : List ℕ} (w : Wrote es (Some long) old new) where
  fit : leb (length (sheet_of es)) (length old) ≡ true
  fit = sym w.fits_is

  wrote_length : long ≡ length (sheet_of es)
  unfolding written test◌then◌else◌
  wrote_length = rw fit at w.length_is

  wrote_out : new ≡ sheet_of es ++ drop (length (sheet_of es)) old
  unfolding written test◌then◌else◌ overlaid
  wrote_out = rw fit at w.out_is

  pub wrote_inside : 0 + long ≤ length new
  wrote_inside = omega (arith, wrote_length, ap length wrote_out, length-append (sheet_of es) (drop (length (sheet_of es)) old))

  wrote_text : take long (drop 0 new) ≡ sheet_of es
  wrote_text = ap (λ n. take n new) wrote_length ∙ ap (take (length (sheet_of es))) wrote_out ∙ take-append_seam (sheet_of es) _

  pub wrote_compared : length old ≡ largest_sheet → {bs s : List ℕ} {r : Bool} → s ≡ take long (drop 0 new) → r ≡ same_text bs s → Compared bs es r
  wrote_compared e {bs} {s} {r} es₁ er = record {
    yes = λ z. (same_text_lem bs (sheet_of es) (sym (er ∙ ap (same_text bs) (es₁ ∙ wrote_text)) ∙ z), omega (arith, leb-true (length (sheet_of es)) (length old) fit));
    no = λ z l q. false≢true (sym z ∙ er ∙ ap (same_text bs) (es₁ ∙ wrote_text ∙ sym q) ∙ text_same bs);
  }

-- ---- the answer

-- a short sheet says its own counts
own_counts : (es : List Entry) → length (sheet_of es) ≤ largest_sheet → (word (sheet_of es) 4 ≡ length (types_of es [])) × (word (sheet_of es) 12 ≡ length (elements_of (types_of es [])))
unfolding sheet_of words
own_counts es h = let s = sheet_size es in (four_bytes _ (omega arith), four_bytes _ (omega arith))

within : (es : List Entry) → texts_stand [] es ≡ true → length es ≤ most_names → length (types_of es []) ≤ most_types → length (elements_of (types_of es [])) ≤ most_elements → within_limits es ≡ true
unfolding within_limits
within es t n u e = both _ _ (both _ _ (both _ _ t (le-leb (length es) most_names n)) (le-leb _ most_types u)) (le-leb _ most_elements e)

names_listed : (source : List ℕ) (t : Tab) (cells : List ListedName) (k n : ℕ) → length (listed_from source t cells k n) ≡ n
unfolding listed_from count
names_listed source t cells k zero = refl
names_listed source t cells k (suc n) = ap suc (names_listed source t cells (suc k) n)

listed_many : (source : List ℕ) (t : Tab) (cells : List ListedName) (n : ℕ) → length (listed source t cells n) ≡ n
unfolding listed
listed_many source t cells n = names_listed source t cells 0 n

pub read_not : {bs cs : List ℕ} {cells : List ListedName} → is_sheet bs ≡ false → Reads bs None cs cells
read_not f = record { stands_is = sym f; listing = tt; listed_is = tt }

module _ {bs xs : List ℕ} {cells : List ListedName} {t : Tab} {a : Areas} (d : Headed bs a) (ty : TypesRead bs xs t) (nr : NamesRead bs xs cells a.names) (long : length cells ≡ most_names) where
  abbrev n : ℕ
  n = a.names

  all_read : NamesRead bs xs cells (word bs 20)
  all_read = subst (NamesRead bs xs cells) d.names_is nr

  pub read_listing : Listing bs t cells n
  read_listing = subst (Listing bs t cells) (sym d.names_is) (entries_listing ty all_read d.bounds)

  many : n ≤ length cells
  many = omega (arith, read_listing.few)

  pub read_inside : TextsInside bs (take n cells)
  read_inside = record {
    inside = λ k h.
        let here : k < n = omega (arith, length-take n cells) in
        subst (λ (r : ListedName). r.start + r.len ≤ length bs) (sym (get_or-take n cells k no_name here)) (read_listing.inside k here);
  }

  read_entries : listed bs t cells n ≡ entries_in bs
  read_entries = ap (listed bs t cells) d.names_is ∙ entries_are ty all_read

  read_firsts : map (entry_of bs t) (take n cells) ≡ entries_in bs
  read_firsts = sym (listed_first bs t cells n many) ∙ read_entries

  pub texts_refused : {r : Bool} → TextsTold bs (take n cells) r → r ≡ false → is_sheet bs ≡ false
  texts_refused x f =
      not_so (is_sheet bs) (λ h. false≢true (sym f ∙ x.is t ∙ ap (texts_stand []) read_firsts ∙ texts_of (entries_in bs) (sheet_is bs h).limits))

  -- the answer hangs on what the writer writes
  module _ {q : Bool} (x : TextsTold bs (take n cells) q) (f : q ≡ true) {r : Bool} (c : Compared bs (listed bs t cells n) r) where
    stand : texts_stand [] (entries_in bs) ≡ true
    stand = sym (x.is t ∙ ap (texts_stand []) read_firsts) ∙ f

    pub rewrites_not : r ≡ false → is_sheet bs ≡ false
    rewrites_not e =
        not_so (is_sheet bs) (λ h.
        let s = sheet_is bs h in
        c.no e (rw (read_entries) (sheet_length (entries_in bs) s.limits)) (s.written ∙ ap sheet_of (sym read_entries)))

    rewrites_so : r ≡ true → is_sheet bs ≡ true
    rewrites_so e =
        let es = entries_in bs in
        let y : (bs ≡ sheet_of es) × (length (sheet_of es) ≤ largest_sheet) = subst (λ l. (bs ≡ sheet_of l) × (length (sheet_of l) ≤ largest_sheet)) read_entries (c.yes e) in
        let own = own_counts es y.1 in
        let u : length (types_of es []) ≤ most_types = omega (arith, own.0, ap (λ (l : List ℕ). word l 4) y.0, d.bounds.types) in
        let v : length (elements_of (types_of es [])) ≤ most_elements = omega (arith, own.1, ap (λ (l : List ℕ). word l 12) y.0, d.bounds.elements) in
        let m : length es ≤ most_names = omega (arith, ap length read_entries, listed_many bs t cells n, read_listing.few) in
        is_sheet_lem bs es record { written = y.0; limits = within es stand m u v }

pub read_all : {bs xs cs : List ℕ} {cells : List ListedName} {m : Counts} {a : Areas} → Headed bs a → TypesRead bs xs (tab cs m.types m.elements) → NamesRead bs xs cells a.names
    → length cells ≡ most_names → {q r : Bool} → TextsTold bs (take a.names cells) q → q ≡ true → Compared bs (listed bs (tab cs m.types m.elements) cells a.names) r → r ≡ true
    → Reads bs (Some (record { counts = m; names = a.names })) cs cells
read_all d ty nr l x f c e = record { stands_is = sym (rewrites_so d ty nr l x f c e); listing = read_listing d ty nr l; listed_is = read_entries d ty nr l }
