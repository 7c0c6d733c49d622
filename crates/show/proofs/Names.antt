-- A sheet that was read: its names are the sheet's, each with its type.
use mathlib.Core.Path.{◌≡◌, refl, sym, ap, ◌∙◌}
use mathlib.Core.List.{List, []}
use Prim.Native.Nat.{ℕ, ◌+◌, ◌<◌, ◌≤◌}
use native.Mathlib.Nat.{zero-add}
use native.Mathlib.Omega.{arith}
use lib.ListN.{length, get_or, take, drop, length-map}
use Rattle.meaning.specs.Limits.{most_names}
use Rattle.meaning.specs.Base.{count}
use Rattle.meaning.specs.Types.{unknown}
use Rattle.meaning.specs.Sheet.{Entry}
use Rattle.meaning.specs.Read.{entries_in, SheetOf}
use Rattle.meaning.proofs.Choices.{count_long, counted_at}
use Rattle.meaning.proofs.SheetForm.{sheet_is}
use Rattle.types.specs.Table.{Tab, tab, denote}
use Rattle.types.specs.Reading.{type_at as type_of}
use Rattle.types.proofs.Parts.{type_is}
use Rattle.message.specs.Texts.{AllKnown}
use Rattle.sheet.specs.Listing.{start_at, length_at, type_at, listed, listed_from, Listing}
use Rattle.sheet.specs.Listing.{entry_at as entry_in}
use Rattle.show.specs.Words.{entry_of}
use Rattle.show.specs.declared.Opened.{Opened}

module _ (o : Opened) where
  abbrev its : Tab
  its = tab o.table.now o.read.counts.types o.read.counts.elements

  pub its_names : Listing o.sheet.now its o.names.now o.read.names
  its_names = o.reads.listing

  pub its_sheet : SheetOf o.sheet.now (entries_in o.sheet.now)
  its_sheet = sheet_is o.sheet.now (sym o.reads.stands_is)

  pub names_many : length (entries_in o.sheet.now) ≡ o.read.names
  unfolding listed listed_from
  names_many = ap length (sym o.reads.listed_is) ∙ length-map (count 0 o.read.names) (entry_in o.sheet.now its o.names.now) ∙ count_long 0 o.read.names

  module _ {k : ℕ} (h : k < o.read.names) where
    pub entry_is : entry_of o.sheet.now k ≡ (take (length_at o.names.now k) (drop (start_at o.names.now k) o.sheet.now), denote its (type_at o.names.now k))
    unfolding listed listed_from entry_in
    entry_is =
        ap (λ (es : List Entry). get_or es k ([], unknown)) (sym o.reads.listed_is) ∙ counted_at (entry_in o.sheet.now its o.names.now) ([], unknown) 0 o.read.names k h
        ∙ ap (entry_in o.sheet.now its o.names.now) (zero-add k)

    pub few_names : k < most_names
    few_names = omega (arith, h, its_names.few)

    pub name_inside : start_at o.names.now k + length_at o.names.now k ≤ length o.sheet.now
    name_inside = its_names.inside k h

    pub name_is : take (length_at o.names.now k) (drop (start_at o.names.now k) o.sheet.now) ≡ (entry_of o.sheet.now k).0
    name_is = ap (λ (e : Entry). e.0) (sym entry_is)

    pub name_told : {s : List ℕ} {from size : ℕ} → s ≡ take size (drop from o.sheet.now) → from ≡ start_at o.names.now k → size ≡ length_at o.names.now k → s ≡ (entry_of o.sheet.now k).0
    name_told e f z = rw (e, f, z) name_is

    pub types_known : AllKnown o.table.now (type_at o.names.now k + 1)
    types_known =
        let v = its_names.wf in
        let l = its_names.known k h in
        record {
          most = omega (arith, l, v.room, v.most);
          each = λ i b. record { table = its; cells = refl; wf = v; below = omega (arith, b, l) };
        }

    pub type_told : type_of o.table.now (type_at o.names.now k) ≡ (entry_of o.sheet.now k).1
    type_told = type_is its o.table.now refl (type_at o.names.now k) (its_names.known k h) ∙ ap (λ (e : Entry). e.1) (sym entry_is)
