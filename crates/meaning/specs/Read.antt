-- The sheet's reader: what a byte string says, and whether it is a sheet.
use Rattle.std.specs.Prelude.{Bool, true, List, [], ◌∷◌, ◌++◌, map, ◌≡◌, ℕ, ◌+◌, ◌-◌, ◌*◌, leb, ltb, get_or, take, drop}
use Rattle.std.proofs.Math.Option.{Option, none, some}
use Rattle.meaning.specs.Limits.{most_names, most_types, most_elements}
use Rattle.meaning.specs.Base.{◌and◌, test◌then◌else◌, choose, same_text, word, records}
use Rattle.meaning.specs.Types.{Ty, unknown, list, dict, tuple, map_iter, filter_iter, tys, plain}
use Rattle.meaning.specs.Sheet.{Entry, Triple, sheet_of, within_limits}

-- ---- what it says

-- the type of a number, over the types us
unfoldable pub numbered : List Ty → ℕ → Ty
numbered us n = test ltb n 8 then plain n else get_or us (n - 8) unknown

unfoldable pub triple : List ℕ → Triple
triple bs = (word bs 0, word bs 4, word bs 8)

-- the type of a record (kind, p, q), over the elements and the types before it
unfoldable pub type_from : List ℕ → List Ty → Triple → Ty
type_from elements us r =
    let its : Ty = numbered us r.1 in
    choose r.0 unknown
    ((8, list its)
    ∷ (9, dict its (numbered us r.2))
    ∷ (10, tuple (tys (map (numbered us) (take r.2 (drop r.1 elements)))))
    ∷ (11, map_iter its)
    ∷ (12, filter_iter its)
    ∷ [])

unfoldable pub types_from : List ℕ → List Ty → List Triple → List Ty
types_from elements us [] = us
types_from elements us (r ∷ rs) = types_from elements (us ++ (type_from elements us r ∷ [])) rs

-- the entries of the type records, elements, name records and texts
unfoldable pub entries_from : List Triple → List ℕ → List Triple → List ℕ → List Entry
entries_from types elements names texts =
    let us : List Ty = types_from elements [] types in map (λ r. (take r.1 (drop r.0 texts), numbered us r.2)) names

unfoldable pub entries_in : List ℕ → List Entry
entries_in bs =
    let from_elements : ℕ = 40 + 12 * word bs 4 in
    let from_names : ℕ = from_elements + 4 * word bs 12 in
    let from_texts : ℕ = from_names + 12 * word bs 20 in
    entries_from (records triple 12 (word bs 4) (drop 40 bs)) (records (λ r. word r 0) 4 (word bs 12) (drop from_elements bs))
    (records triple 12 (word bs 20) (drop from_names bs)) (drop from_texts bs)

-- ---- whether it is one: "it takes every sheet of this form"

-- a byte string is a sheet exactly when it is the sheet of what it says, within the limits
unfoldable pub is_sheet : List ℕ → Bool
is_sheet bs =
    let es : List Entry = entries_in bs in
    let same : Bool = same_text bs (sheet_of es) and within_limits es in
    leb (word bs 4) most_types and leb (word bs 12) most_elements and leb (word bs 20) most_names and same

unfoldable pub read_sheet : List ℕ → Option (List Entry)
read_sheet bs = let es : List Entry = entries_in bs in test is_sheet bs then some es else none

-- the same, said without a reader
pub record SheetOf (bs : List ℕ) (es : List Entry) : Type 0 where
  pub written : bs ≡ sheet_of es
  pub limits : within_limits es ≡ true

unfoldable pub read_open : Unit {0}
unfolding numbered triple type_from types_from entries_from entries_in is_sheet read_sheet
read_open = tt
