-- The writer's steps: the types of the names, the sizes of the areas, and each area's bytes.
use Rattle.std.specs.Prelude.{◌≡◌, ℕ, ◌+◌, ◌*◌, ◌≤◌, ◌<◌, length, take, drop, sum_by}
use mathlib.Core.List.{List, [], ◌∷◌, ◌++◌, map, Memᴰ}
use Rattle.meaning.specs.Limits.{most_names, longest_name, most_text}
use Rattle.meaning.specs.Base.{words}
use Rattle.meaning.specs.Types.{Ty, kind}
use Rattle.meaning.specs.Sheet.{Triple, laid, number, elements_in, elements_of, type_record, type_records, types_of}
use Rattle.words.specs.Words.{put_at}
use Rattle.types.specs.Table.{Tab, most_numbers, Wf, denote}
use Rattle.sheet.specs.declared.layout.Areas.{Areas}
use Rattle.sheet.specs.declared.writer.Marks.{Marks}
use Rattle.sheet.specs.declared.list.ListedName.{ListedName}
use Rattle.sheet.specs.Listing.{start_at, length_at, type_at, entry_of, Listing}
use Rattle.sheet.specs.Marks.{Marked, tab_of, types_in, met_each}

-- ---- the names alone

abbrev pub listed_types : Tab → List ListedName → List Ty
listed_types t ns = map (λ (r : ListedName). denote t r.ty) ns

abbrev pub listed_size : List ListedName → ℕ
listed_size ns = sum_by (λ (r : ListedName). r.len) ns

unfoldable pub listed_records : List Ty → Tab → List ListedName → ℕ → List Triple
listed_records us t [] from = []
listed_records us t (r ∷ rs) from = (from, r.len, number us (denote t r.ty)) ∷ listed_records us t rs (from + r.len)

unfoldable pub listed_texts : List ℕ → List ListedName → List ℕ
listed_texts source [] = []
listed_texts source (r ∷ rs) = take r.len (drop r.start source) ++ listed_texts source rs

-- ---- the walk over the names

pub record Meeting (cs : List ℕ) (ms : Marks) (ns : List ListedName) : Type 0 where
  pub marked : Marked (tab_of cs ms) ms
  pub known : (k : ℕ) → k < length ns → type_at ns k < ms.counts.types

pub record MetAll (cs : List ℕ) (ms new : Marks) (ns : List ListedName) : Type 0 where
  pub marked : Marked (tab_of cs ms) new
  pub met_is : types_in (tab_of cs ms) new ≡ met_each (listed_types (tab_of cs ms) ns) (types_in (tab_of cs ms) ms)

-- ---- sizes

-- whatever the counts of the table that the cells cs hold
pub record ElementsIn (cs : List ℕ) (i r : ℕ) : Type 0 where
  pub says : (t : Tab) → t.cells ≡ cs → Wf t → i < t.n → r ≡ length (elements_in (denote t i))
  pub small : (t : Tab) → t.cells ≡ cs → Wf t → i < t.n → r ≤ most_numbers

pub record Short (ns : List ListedName) : Type 0 where
  pub few : length ns ≤ most_names
  pub short : (k : ℕ) → k < length ns → length_at ns k ≤ longest_name

-- the elements of the types met
abbrev pub elements_met : List ℕ → Marks → List Ty
elements_met cs ms = elements_of (types_in (tab_of cs ms) ms)

-- ---- what is written

-- the number in the sheet of a type that is plain or was met
pub record NumberOf (ms : Marks) (i r : ℕ) : Type 0 where
  pub says : (t : Tab) → Marked t ms → i < t.n → (8 ≤ kind (denote t i) → Memᴰ (denote t i) (types_in t ms)) → r ≡ number (types_in t ms) (denote t i)

-- new is old with bs at a place
pub record Put (old new : List ℕ) (at : ℕ) (bs : List ℕ) : Type 0 where
  pub is : new ≡ put_at old at bs
  pub long : length new ≡ length old

-- i is the number of a type of the sheet
pub record Met (cs : List ℕ) (ms : Marks) (i : ℕ) : Type 0 where
  pub marked : Marked (tab_of cs ms) ms
  pub high : 8 ≤ i
  pub below : i < ms.counts.types
  pub member : Memᴰ (denote (tab_of cs ms) i) (types_in (tab_of cs ms) ms)

abbrev pub record_bytes : Tab → Marks → ℕ → ℕ → List ℕ
record_bytes t ms from i = words (laid (type_record (types_in t ms) from (denote t i) ∷ []))

abbrev pub element_bytes : Tab → Marks → ℕ → List ℕ
element_bytes t ms i = words (map (number (types_in t ms)) (elements_in (denote t i)))

abbrev pub types_bytes : Tab → Marks → List ℕ
types_bytes t ms = words (laid (type_records (types_in t ms) 0 (types_in t ms)))

abbrev pub elements_bytes : Tab → Marks → List ℕ
elements_bytes t ms = words (map (number (types_in t ms)) (elements_of (types_in t ms)))

abbrev pub names_bytes : Tab → Marks → List ListedName → List ℕ
names_bytes t ms ns = words (laid (listed_records (types_in t ms) t ns 0))

-- each name's type is one of the table, and plain or met
pub record Named (t : Tab) (ms : Marks) (ns : List ListedName) : Type 0 where
  pub marked : Marked t ms
  pub known : (k : ℕ) → k < length ns → type_at ns k < t.n
  pub member : (k : ℕ) → k < length ns → 8 ≤ kind (denote t (type_at ns k)) → Memᴰ (denote t (type_at ns k)) (types_in t ms)

pub record NamesFit (ms : Marks) (ns : List ListedName) (out : List ℕ) (at : ℕ) : Type 0 where
  pub short : Short ns
  pub known : (k : ℕ) → k < length ns → type_at ns k < length ms.numbers.now
  pub room : at + 12 * length ns ≤ length out

-- whatever the table that the marks are made for
pub record NamesPut (ms : Marks) (ns : List ListedName) (old new : List ℕ) (at : ℕ) : Type 0 where
  pub is : (t : Tab) → Named t ms ns → new ≡ put_at old at (names_bytes t ms ns)
  pub long : length new ≡ length old

pub record TextsFit (source : List ℕ) (ns : List ListedName) (out : List ℕ) (at : ℕ) : Type 0 where
  pub inside : (k : ℕ) → k < length ns → start_at ns k + length_at ns k ≤ length source
  pub room : at + listed_size ns ≤ length out

-- ---- the whole

unfoldable pub header_bytes : ℕ → ℕ → ℕ → ℕ → List ℕ
header_bytes types elements names size =
    words (1 ∷ types ∷ 40 ∷ elements ∷ (40 + 12 * types) ∷ names ∷ (40 + 12 * types + 4 * elements) ∷ size
    ∷ (40 + 12 * types + 4 * elements + 12 * names) ∷ (40 + 12 * types + 4 * elements + 12 * names + size) ∷ [])

-- everything is known that is to be written, and it fits
pub record Filling (source cs : List ℕ) (ms : Marks) (ns : List ListedName) (a : Areas) (size : ℕ) (out : List ℕ) : Type 0 where
  pub listing : Listing source (tab_of cs ms) ns (length ns)
  pub marked : Marked (tab_of cs ms) ms
  pub types_are : types_in (tab_of cs ms) ms ≡ types_of (map (entry_of source (tab_of cs ms)) ns) []
  pub type_count : a.types ≡ ms.met
  pub element_count : a.elements ≡ length (elements_of (types_in (tab_of cs ms) ms))
  pub name_count : a.names ≡ length ns
  pub size_is : size ≡ listed_size ns
  pub small : size ≤ most_text
  pub room : 40 + 12 * a.types + 4 * a.elements + 12 * a.names + size ≤ length out
