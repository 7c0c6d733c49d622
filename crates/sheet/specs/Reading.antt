-- The reader's steps: the areas of a byte string, and what each step makes of them.
use Rattle.std.specs.Prelude.{◌≡◌, Bool, true, false, Option, is_some, IfSome, List, [], ◌∷◌, map, ℕ, ◌+◌, ◌-◌, ◌*◌, ◌≤◌, ◌<◌, eqb, ltb, length, get_or, take, drop}
use Rattle.meaning.specs.Limits.{most_names, longest_name, most_types, most_elements, largest_sheet}
use Rattle.meaning.specs.Base.{test◌then◌else◌, word, records}
use Rattle.meaning.specs.Types.{Ty, tuple, tys}
use Rattle.meaning.specs.Sheet.{Entry, Triple, sheet_of, texts_stand}
use Rattle.meaning.specs.Read.{triple, numbered, type_from, types_from, entries_in, is_sheet}
use Rattle.types.specs.Table.{Tab, tab, most_numbers, capacity, denote, Wf, Grown}
use Rattle.sheet.specs.declared.list.ListedName.{ListedName}
use Rattle.sheet.specs.declared.layout.Areas.{Areas}
use Rattle.sheet.specs.declared.reader.ReadSheet.{ReadSheet}
use Rattle.sheet.specs.Listing.{start_at, length_at, type_at, SameName, entry_of, listed, Listing}

-- ---- the areas

abbrev pub elements_at : List ℕ → ℕ
elements_at bs = 40 + 12 * word bs 4

abbrev pub names_at : List ℕ → ℕ
names_at bs = 40 + 12 * word bs 4 + 4 * word bs 12

abbrev pub texts_at : List ℕ → ℕ
texts_at bs = 40 + 12 * word bs 4 + 4 * word bs 12 + 12 * word bs 20

-- n words from a place on
unfoldable pub words_at : List ℕ → ℕ → ℕ → List ℕ
words_at bs at n = records (λ r. word r 0) 4 n (drop at bs)

-- n records of three words from a place on
unfoldable pub triples_at : List ℕ → ℕ → ℕ → List Triple
triples_at bs at n = records triple 12 n (drop at bs)

unfoldable pub elements_in : List ℕ → List ℕ
elements_in bs = words_at bs (elements_at bs) (word bs 12)

-- how many elements the Tuples of the records have
unfoldable pub tuple_sum : List Triple → ℕ
tuple_sum [] = 0
tuple_sum (r ∷ rs) = let later = tuple_sum rs in test eqb r.0 10 then r.2 + later else later

pub record Bounds (bs : List ℕ) : Type 0 where
  pub short : length bs ≤ largest_sheet
  pub types : word bs 4 ≤ most_types
  pub elements : word bs 12 ≤ most_elements
  pub names : word bs 20 ≤ most_names
  pub long : texts_at bs ≤ length bs

-- a is what the header of bs says
pub record Headed (bs : List ℕ) (a : Areas) : Type 0 where
  pub bounds : Bounds bs
  pub types_is : a.types ≡ word bs 4
  pub elements_is : a.elements ≡ word bs 12
  pub names_is : a.names ≡ word bs 20

-- r tells that P holds, or that bs is no sheet
pub record Told (P : Type 0) (bs : List ℕ) (r : Bool) : Type 0 where
  pub yes : r ≡ true → P
  pub no : r ≡ false → is_sheet bs ≡ false

-- ---- the types

-- the table's number of a sheet's number, over the table's numbers of the types before
unfoldable pub number_in : List ℕ → ℕ → ℕ
number_in xs n = test ltb n 8 then n else get_or xs (n - 8) 0

-- each of the numbers is one of the table
pub record Below (t : Tab) (xs : List ℕ) : Type 0 where
  pub wf : Wf t
  pub each : (j : ℕ) → j < length xs → get_or xs j 0 < t.n

pub record Gathering (bs : List ℕ) (at q : ℕ) : Type 0 where
  pub many : q ≤ most_types
  pub long : at + 4 * q ≤ length bs
  pub short : length bs ≤ largest_sheet

pub record Gathered (bs : List ℕ) (at : ℕ) (xs : List ℕ) (q : ℕ) (st : List ℕ) : Type 0 where
  pub are : take q st ≡ map (number_in xs) (words_at bs at q)
  pub size : length st ≡ most_types

-- a type of q elements at a place is asked for
pub record Tupling (bs : List ℕ) (at : ℕ) (xs : List ℕ) (q : ℕ) (t : Tab) : Type 0 where
  pub below : Below t xs
  pub room : t.n < capacity t.cells
  pub many : q ≤ most_types
  pub space : t.m + q ≤ capacity t.cells
  pub long : at + 4 * q ≤ length bs
  pub short : length bs ≤ largest_sheet

abbrev pub tuple_at : List ℕ → ℕ → List ℕ → ℕ → Tab → Ty
tuple_at bs at xs q t = tuple (tys (map (numbered (map (denote t) xs)) (words_at bs at q)))

-- a type of any other kind is asked for
pub record Forming (xs : List ℕ) (kind : ℕ) (t : Tab) : Type 0 where
  pub below : Below t xs
  pub room : t.n < capacity t.cells
  pub other : kind ≡ 10 → ⊥

-- the records of types, from the k-th on
abbrev pub types_left : List ℕ → ℕ → List Triple
types_left bs k = drop k (triples_at bs 40 (word bs 4))

pub record Typing (bs xs : List ℕ) (k used : ℕ) (t : Tab) : Type 0 where
  pub bounds : Bounds bs
  pub here : k < word bs 4
  pub below : Below t xs
  pub wide : most_numbers ≤ capacity t.cells
  pub room : t.n ≤ 8 + k
  pub space : t.m ≤ used
  pub within : used ≤ word bs 12
  pub sum : used + tuple_sum (types_left bs k) ≡ tuple_sum (types_left bs 0)

pub record Typed (bs xs : List ℕ) (k used : ℕ) (t u : Tab) (after r : ℕ) : Type 0 where
  pub grown : Grown t u
  pub room : u.n ≤ t.n + 1
  pub space : u.m ≤ after
  pub within : after ≤ word bs 12
  pub sum : after + tuple_sum (types_left bs (k + 1)) ≡ tuple_sum (types_left bs 0)
  pub below : r < u.n
  pub means : denote u r ≡ type_from (elements_in bs) (map (denote t) xs) (triple (drop (40 + 12 * k) bs))

pub record TypesRead (bs xs : List ℕ) (t : Tab) : Type 0 where
  pub below : Below t xs
  pub are : map (denote t) xs ≡ types_from (elements_in bs) [] (triples_at bs 40 (word bs 4))

-- ---- the names

-- name k was read into the cells
pub record NameRead (bs xs : List ℕ) (cells : List ListedName) (k : ℕ) : Type 0 where
  pub start_is : start_at cells k ≡ texts_at bs + word bs (names_at bs + 12 * k)
  pub length_is : length_at cells k ≡ word bs (names_at bs + 12 * k + 4)
  pub type_is : type_at cells k ≡ number_in xs (word bs (names_at bs + 12 * k + 8))
  pub short : length_at cells k ≤ longest_name
  pub inside : start_at cells k + length_at cells k ≤ length bs

pub record NamesRead (bs xs : List ℕ) (cells : List ListedName) (n : ℕ) : Type 0 where
  pub each : (k : ℕ) → k < n → NameRead bs xs cells k

-- name k was read, and the cells before are kept
pub record NameStep (bs xs : List ℕ) (cells new : List ListedName) (k : ℕ) : Type 0 where
  pub name : NameRead bs xs new k
  pub before : (j : ℕ) → j < k → SameName cells new j

-- ---- the whole

pub record TextsInside (source : List ℕ) (ns : List ListedName) : Type 0 where
  pub inside : (k : ℕ) → k < length ns → start_at ns k + length_at ns k ≤ length source

-- the texts stand, whatever the table
pub record TextsTold (source : List ℕ) (ns : List ListedName) (r : Bool) : Type 0 where
  pub is : (t : Tab) → r ≡ texts_stand [] (map (entry_of source t) ns)

-- the sheet of es is bs and not too long
pub record Compared (bs : List ℕ) (es : List Entry) (r : Bool) : Type 0 where
  pub yes : r ≡ true → (bs ≡ sheet_of es) × (length (sheet_of es) ≤ largest_sheet)
  pub no : r ≡ false → length (sheet_of es) ≤ largest_sheet → bs ≡ sheet_of es → ⊥

-- the table that was read into the cells cs
abbrev pub tab_read : List ℕ → ReadSheet → Tab
tab_read cs s = tab cs s.counts.types s.counts.elements

-- what the reader says of bs, with the table's cells cs and the names' cells
pub record Reads (bs : List ℕ) (r : Option ReadSheet) (cs : List ℕ) (cells : List ListedName) : Type 0 where
  pub stands_is : is_some r ≡ is_sheet bs
  pub listing : IfSome r (λ s. Listing bs (tab_read cs s) cells s.names)
  pub listed_is : IfSome r (λ s. listed bs (tab_read cs s) cells s.names ≡ entries_in bs)
