-- The type sheet: its bytes, for a list of names with their types.
use Rattle.std.specs.Prelude.{Bool, true, false, List, [], ◌∷◌, ◌++◌, map, ℕ, suc, ◌+◌, ◌*◌, eqb, leb, ltb, length, get_or}
use Rattle.std.proofs.Math.Option.{Option, none, some}
use Rattle.meaning.specs.Limits.{most_names, most_types, most_elements}
use Rattle.meaning.specs.Base.{◌and◌, test◌then◌else◌, if_some, or_else, is_in, count, words}
use Rattle.meaning.specs.Types.{Ty, unknown, int, bool, string, float, nonetype, range, function, list, dict, tuple, map_iter, filter_iter, Tys, no_types, ◌⊕◌, same, kind, parts}
use Rattle.meaning.specs.Tree.{Stmts}
use Rattle.meaning.specs.Bound.{may_bind}
use Rattle.meaning.specs.Image.{Name, text_stands}
use Rattle.meaning.specs.Frames.{Binding, blank, Frame}

-- a name's text and its type
abbrev pub Entry : Type 0
Entry = List ℕ × Ty

-- the names that a frame holds, Unknown included, in byte order as the image's names are
unfoldable pub entries : List Name → Frame → List Entry
entries [] f = []
entries (w ∷ ws) [] = []
entries (w ∷ ws) (slot ∷ f) = let later = entries ws f in if_some slot (λ b. (w.spelling, b.type) ∷ later) later

-- "A listed name that the frame lacks is Unknown": a slot, by whether the module may bind its name
unfoldable pub listed_slot : Bool → Option Binding → Option Binding
listed_slot true slot = some (or_else slot blank)
listed_slot false slot = slot

-- the names xs, which the module may bind, "together with all names of the module frame" f
unfoldable pub listed_frame : List ℕ → Frame → Frame
listed_frame xs f = map (λ x. listed_slot (is_in x xs) (get_or f x none)) (count 0 most_names)

-- "From now on the sheet lists each name that an Assign or a For at module level may bind .. together with all names of the module
-- frame": of the module's statements as', which end with the frame f
unfoldable pub listing : List Name → Stmts → Frame → List Entry
listing ws as' f = entries ws (listed_frame (may_bind as') f)

-- a record of three words: a type's kind, p and q; a name's text start, length and type
abbrev pub Triple : Type 0
Triple = ℕ × ℕ × ℕ

unfoldable pub laid : List Triple → List ℕ
laid [] = []
laid (r ∷ rs) = r.0 ∷ r.1 ∷ r.2 ∷ laid rs

-- ---- "Each distinct type reachable from the names stands once, in the order in which a walk of the names in byte order, parts left to
-- right and before the whole, first completes it." us are the types met so far.

unfoldable pub add_new : Ty → List Ty → List Ty
add_new t [] = t ∷ []
add_new t (u ∷ us) = let later = add_new t us in test same t u then u ∷ us else u ∷ later

unfoldable mutual
  pub met : Ty → List Ty → List Ty
  met unknown us = us
  met int us = us
  met bool us = us
  met string us = us
  met float us = us
  met nonetype us = us
  met range us = us
  met function us = us
  met (list t) us = add_new (list t) (met t us)
  met (dict k v) us = add_new (dict k v) (met v (met k us))
  met (tuple ts) us = add_new (tuple ts) (met_all ts us)
  met (map_iter t) us = add_new (map_iter t) (met t us)
  met (filter_iter t) us = add_new (filter_iter t) (met t us)

  pub met_all : Tys → List Ty → List Ty
  met_all no_types us = us
  met_all (t ⊕ ts) us = met_all ts (met t us)

unfoldable pub types_of : List Entry → List Ty → List Ty
types_of [] us = us
types_of (e ∷ es) us = types_of es (met e.1 us)

-- ---- "Plain types are never stored"; "type records (kind, p, q) number from 8". us are the sheet's types.

unfoldable pub position : Ty → List Ty → ℕ
position t [] = 0
position t (u ∷ us) = let later = position t us in test same t u then 0 else suc later

unfoldable pub number : List Ty → Ty → ℕ
number us t = let above = position t us in test ltb (kind t) 8 then kind t else 8 + above

-- "Elements lie in record order."
unfoldable pub elements_in : Ty → List Ty
elements_in t = test eqb (kind t) 10 then parts t else []

unfoldable pub elements_of : List Ty → List Ty
elements_of [] = []
elements_of (t ∷ ts) = elements_in t ++ elements_of ts

-- "8 List(p), 9 Dict(p, q), 10 Tuple(first element p, count q; p is the number of elements before it, also when q is 0), 11 MapIter(p),
-- 12 FilterIter(p); unused q is 0"; `from` elements stand before it
unfoldable pub type_record : List Ty → ℕ → Ty → Triple
type_record us from t =
    let p : ℕ → ℕ = λ i. get_or (map (number us) (parts t)) i 0 in
    test eqb (kind t) 10 then (10, from, length (parts t)) else (kind t, p 0, p 1)

unfoldable pub type_records : List Ty → ℕ → List Ty → List Triple
type_records us from [] = []
type_records us from (t ∷ ts) = type_record us from t ∷ type_records us (from + length (elements_in t)) ts

-- ---- "Name records: text start, length, type"

unfoldable pub spellings : List Entry → List ℕ
spellings [] = []
spellings (e ∷ es) = e.0 ++ spellings es

unfoldable pub name_records : List Ty → ℕ → List Entry → List Triple
name_records us from [] = []
name_records us from (e ∷ es) = (from, length e.0, number us e.1) ∷ name_records us (from + length e.0) es

-- ---- "Header, 10 words: version 1; structured type count, offset; element count, offset; name count, offset; text count, offset; total.
-- Areas follow from byte 40."

unfoldable pub sheet_of : List Entry → List ℕ
sheet_of es =
    let us : List Ty = types_of es [] in
    let elements : List Ty = elements_of us in
    let from_elements : ℕ = 40 + 12 * length us in
    let from_names : ℕ = from_elements + 4 * length elements in
    let from_texts : ℕ = from_names + 12 * length es in
    let size : ℕ = length (spellings es) in
    words (1 ∷ length us ∷ 40 ∷ length elements ∷ from_elements ∷ length es ∷ from_names ∷ size ∷ from_texts ∷ (from_texts + size) ∷ [])
    ++ words (laid (type_records us 0 us))
    ++ words (map (number us) elements)
    ++ words (laid (name_records us 0 es))
    ++ spellings es

-- ---- what a sheet may hold: "at most 2,048 types, 2,047 elements, 128 names of 1..64 bytes"; "their texts obey the image's rules for
-- texts"

unfoldable pub texts_stand : List ℕ → List Entry → Bool
texts_stand last [] = true
texts_stand last (e ∷ es) = text_stands last e.0 and texts_stand e.0 es

unfoldable pub within_limits : List Entry → Bool
within_limits es =
    texts_stand [] es and leb (length es) most_names and leb (length (types_of es [])) most_types
    and leb (length (elements_of (types_of es []))) most_elements

unfoldable pub sheet_open : Unit {0}
unfolding listed_slot listed_frame entries listing laid add_new met types_of position number elements_in elements_of type_record type_records spellings name_records sheet_of texts_stand within_limits
sheet_open = tt
