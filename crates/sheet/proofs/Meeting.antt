-- The walk of the sheet, type by type: a plain type and one that was met before change nothing, and any other comes after its parts.
use mathlib.Core.Path.{◌≡◌, refl, ap}
use mathlib.Core.Logic.{⊎_elim}
use mathlib.Core.List.Memᴰ
use mathlib.Core.List.{List, [], ◌∷◌, ◌++◌, map, Memᴰ}
use Prim.Native.Nat.{◌≤◌, ◌<◌}
use native.Mathlib.Omega.{arith}
use lib.Seq.{append_snoc}
use Rattle.meaning.specs.Types.{Ty, unknown, int, bool, string, float, nonetype, range, function, list, dict, tuple, map_iter, filter_iter, Tys, no_types, ◌⊕◌, kind, parts, elements}
use Rattle.meaning.specs.Sheet.{Entry, add_new, met, met_all, types_of}
use Rattle.meaning.proofs.SheetWalk.{Added, old, fresh, added}
use Rattle.meaning.proofs.SheetTypes.{Known, Ordered, types_met}
pub use Rattle.meaning.proofs.SheetRoom.{no_more}
use Rattle.sheet.specs.Marks.{met_each}

-- ---- a plain type

pub met_plain : (t : Ty) (us : List Ty) → kind t < 8 → met t us ≡ us
unfolding met kind
met_plain unknown us h = refl
met_plain int us h = refl
met_plain bool us h = refl
met_plain string us h = refl
met_plain float us h = refl
met_plain nonetype us h = refl
met_plain range us h = refl
met_plain function us h = refl
met_plain (list t) us h = absurd (omega arith)
met_plain (dict k v) us h = absurd (omega arith)
met_plain (tuple ts) us h = absurd (omega arith)
met_plain (map_iter t) us h = absurd (omega arith)
met_plain (filter_iter t) us h = absurd (omega arith)

-- ---- a structured type comes after its parts

all_each : (ts : Tys) (us : List Ty) → met_all ts us ≡ met_each (elements ts) us
unfolding met met_each elements
all_each no_types us = refl
all_each (t ⊕ ts) us = all_each ts (met t us)

pub met_parts : (t : Ty) (us : List Ty) → 8 ≤ kind t → met t us ≡ add_new t (met_each (parts t) us)
unfolding met met_each kind parts
met_parts unknown us h = absurd (omega arith)
met_parts int us h = absurd (omega arith)
met_parts bool us h = absurd (omega arith)
met_parts string us h = absurd (omega arith)
met_parts float us h = absurd (omega arith)
met_parts nonetype us h = absurd (omega arith)
met_parts range us h = absurd (omega arith)
met_parts function us h = absurd (omega arith)
met_parts (list t) us h = refl
met_parts (dict k v) us h = refl
met_parts (tuple ts) us h = ap (add_new (tuple ts)) (all_each ts us)
met_parts (map_iter t) us h = refl
met_parts (filter_iter t) us h = refl

-- ---- what the walk leaves is in order

single : Ty → Entry
single t = ([], t)

each_types : (ts us : List Ty) → met_each ts us ≡ types_of (map single ts) us
unfolding met_each types_of single
each_types [] us = refl
each_types (t ∷ ts) us = each_types ts (met t us)

pub each_ordered : (ts us : List Ty) → Ordered [] us → Ordered [] (met_each ts us)
each_ordered ts us o = rw (each_types ts us) (types_met (map single ts) us o).ordered

pub met_ordered : (t : Ty) (us : List Ty) → Ordered [] us → Ordered [] (met t us)
unfolding met_each
met_ordered t us o = each_ordered (t ∷ []) us o

-- nothing is lost, and the type itself stands there
pub met_kept : (t : Ty) (us : List Ty) → Ordered [] us → (u : Ty) → Memᴰ u us → Memᴰ u (met t us)
unfolding types_of single
met_kept t us o u m = (types_met (single t ∷ []) us o).kept u m

pub met_there : (t : Ty) (us : List Ty) → Ordered [] us → 8 ≤ kind t → Memᴰ t (met t us)
unfolding types_of single
met_there t us o h = (types_met (single t ∷ []) us o).known t (Memᴰ.head refl) h

-- ---- a type that was met before

pub add_old : (t : Ty) (us : List Ty) → Memᴰ t us → add_new t us ≡ us
add_old t us m = by (added t us)
  where
    by : {vs : List Ty} → Added t us vs → vs ≡ us
    by (old n e) = e
    by (fresh n e) = absurd (n m)

pub add_fresh : (t : Ty) (us : List Ty) → (Memᴰ t us → ⊥) → add_new t us ≡ us ++ (t ∷ [])
add_fresh t us n = by (added t us)
  where
    by : {vs : List Ty} → Added t us vs → vs ≡ us ++ (t ∷ [])
    by (old m e) = absurd (n m)
    by (fresh m e) = e

-- the parts of what stands there stand there too
pub parts_stand : (ps ts : List Ty) → Ordered ps ts → (t : Ty) → Memᴰ t ts → Known (ps ++ ts) (parts t)
parts_stand ps [] o t m = absurd (Memᴰ.not-nil m)
parts_stand ps (u ∷ ts) o t m =
    ⊎_elim (λ e. rw e (λ a n h. Memᴰ.append_left (u ∷ ts) (o.0.known a n h)))
    (λ n. rw append_snoc at (parts_stand (ps ++ (u ∷ [])) ts o.1 t n))
    (Memᴰ.cases_cons m)

module _ (us : List Ty) (closed : (t : Ty) → Memᴰ t us → Known us (parts t)) where
  mutual
    unfolding met kind parts elements

    met_known : (t : Ty) → (8 ≤ kind t → Memᴰ t us) → met t us ≡ us
    met_known unknown k = refl
    met_known int k = refl
    met_known bool k = refl
    met_known string k = refl
    met_known float k = refl
    met_known nonetype k = refl
    met_known range k = refl
    met_known function k = refl
    met_known (list t) k =
        let m = k (omega arith) in
        rw (met_known t (λ h. closed (list t) m t (Memᴰ.head refl) h)) (add_old (list t) us m)
    met_known (dict a b) k =
        let m = k (omega arith) in
        rw (met_known a (λ h. closed (dict a b) m a (Memᴰ.head refl) h), met_known b (λ h. closed (dict a b) m b (Memᴰ.tail (Memᴰ.head refl)) h))
        (add_old (dict a b) us m)
    met_known (tuple ts) k =
        let m = k (omega arith) in
        rw (all_known ts (λ a n h. closed (tuple ts) m a n h)) (add_old (tuple ts) us m)
    met_known (map_iter t) k =
        let m = k (omega arith) in
        rw (met_known t (λ h. closed (map_iter t) m t (Memᴰ.head refl) h)) (add_old (map_iter t) us m)
    met_known (filter_iter t) k =
        let m = k (omega arith) in
        rw (met_known t (λ h. closed (filter_iter t) m t (Memᴰ.head refl) h)) (add_old (filter_iter t) us m)

    all_known : (ts : Tys) → Known us (elements ts) → met_all ts us ≡ us
    all_known no_types k = refl
    all_known (t ⊕ ts) k =
        rw (met_known t (λ h. k t (Memᴰ.head refl) h)) (all_known ts (λ a n h. k a (Memᴰ.tail n) h))

pub met_again : (t : Ty) (us : List Ty) → Ordered [] us → Memᴰ t us → met t us ≡ us
met_again t us o m = met_known us (λ u n. parts_stand [] us o u n) t (λ h. m)
