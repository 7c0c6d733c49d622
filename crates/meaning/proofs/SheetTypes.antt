-- The walk of the sheet: each type it meets stands once, and every structured part of it stands before it.
use mathlib.Core.Path.{◌≡◌, refl, ap}
use mathlib.Core.Logic.{◌⊎◌, inl, inr, ⊎_elim}
use mathlib.Core.List.Memᴰ
use mathlib.Core.List.{List, [], ◌∷◌, ◌++◌, map, append-nil, Memᴰ}
use Prim.Native.Nat.{ℕ, suc, ◌+◌, ◌-◌, ◌≤◌, ◌<◌}
use native.Mathlib.Omega.{arith}
use native.Mathlib.Decide.{dec_lt}
use borrow.Author.Tests.{le-leb, lt-leb}
use lib.ListN.{length, get_or}
use lib.Seq.{append_snoc}
use Rattle.meaning.specs.Base.{test◌then◌else◌}
use Rattle.meaning.specs.Types.{Ty, Ty-discrete, unknown, int, bool, string, float, nonetype, range, function, list, dict, tuple, map_iter, filter_iter, Tys, no_types, ◌⊕◌, kind, parts, elements}
use Rattle.meaning.specs.Sheet.{Entry, met, met_all, types_of, position, number}
use Rattle.meaning.specs.Read.{numbered}
use Rattle.meaning.proofs.Choices.{same_yes, same_no, plain_kind}
use Rattle.meaning.proofs.SheetWalk.{Added, old, fresh, added, found}

-- ---- the order of the walk

-- each structured type of ts stands in us
abbrev pub Known : List Ty → List Ty → Type 0
Known us ts = (t : Ty) → Memᴰ t ts → 8 ≤ kind t → Memᴰ t us

-- t may come next after us
pub record Next (us : List Ty) (t : Ty) : Type 0 where
  pub structured : 8 ≤ kind t
  pub known : Known us (parts t)
  pub new : Memᴰ t us → ⊥

-- after us, each of ts may come next
abbrev pub Ordered : List Ty → List Ty → Type 0
Ordered us [] = Unit {0}
Ordered us (t ∷ ts) = Next us t × Ordered (us ++ (t ∷ [])) ts

ordered_snoc : (us ts : List Ty) (t : Ty) → Ordered us ts → Next (us ++ ts) t → Ordered us (ts ++ (t ∷ []))
ordered_snoc us [] t o n = (rw append-nil at n, tt)
ordered_snoc us (u ∷ ts) t o n = (o.0, ordered_snoc (us ++ (u ∷ [])) ts t o.1 (rw append_snoc n))

-- one of ts, or a part of what is reached
pub data Reached (ts : List Ty) : Ty → Type 0 where
  given : {t : Ty} → Memᴰ t ts → Reached ts t
  part_of : {t u : Ty} → Reached ts u → Memᴰ t (parts u) → Reached ts t

reached_from : {ts ss : List Ty} {t : Ty} → ((u : Ty) → Memᴰ u ts → Reached ss u) → Reached ts t → Reached ss t
reached_from f (given {t = t} m) = f t m
reached_from f (part_of r m) = part_of (reached_from f r) m

-- from us the walk over ts came to vs
pub record Met (us vs ts : List Ty) : Type 0 where
  pub ordered : Ordered [] vs
  pub kept : (t : Ty) → Memᴰ t us → Memᴰ t vs
  pub known : Known vs ts
  pub only : (t : Ty) → Memᴰ t vs → Memᴰ t us ⊎ Reached ts t

met_none : (us : List Ty) → Ordered [] us → Met us us []
met_none us o = record { ordered = o; kept = λ t m. m; known = λ t m h. absurd (Memᴰ.not-nil m); only = λ t m. inl m }

met_plain : (t : Ty) (us : List Ty) → kind t < 8 → Ordered [] us → Met us us (t ∷ [])
met_plain t us l o = record { ordered = o; kept = λ a m. m; known = λ a m h. absurd (omega (arith, ap kind (Memᴰ.eq_of_singleton m))); only = λ a m. inl m }

met_then : {us vs ws ts ss : List Ty} → Met us vs ts → Met vs ws ss → Met us ws (ts ++ ss)
met_then {ts = ts} {ss = ss} a b =
    record {
      ordered = b.ordered;
      kept = λ t m. b.kept t (a.kept t m);
      known = λ t m h. ⊎_elim (λ l. b.kept t (a.known t l h)) (λ r. b.known t r h) (Memᴰ.append_cases ts m);
      only = λ t m. ⊎_elim
          (λ l. ⊎_elim (λ h. inl h) (λ r. inr (reached_from (λ u n. given (Memᴰ.append_left ss n)) r)) (a.only t l))
          (λ r. inr (reached_from (λ u n. given (Memᴰ.append_right ts n)) r))
          (b.only t m);
    }

-- what is reached from the parts is reached from the whole
up_only : {t a : Ty} {us : List Ty} → Memᴰ a us ⊎ Reached (parts t) a → Memᴰ a us ⊎ Reached (t ∷ []) a
up_only (inl m) = inl m
up_only (inr r) = inr (reached_from (λ u n. part_of (given (Memᴰ.head refl)) n) r)

met_new : {t : Ty} {us vs ws : List Ty} → Added t vs ws → 8 ≤ kind t → Met us vs (parts t) → Met us ws (t ∷ [])
met_new {t} {us} {vs} (old m e) s a =
    rw e record { ordered = a.ordered; kept = a.kept; known = λ b l h. Memᴰ.cast (Memᴰ.eq_of_singleton l) m; only = λ b l. up_only (a.only b l) }
met_new {t} {us} {vs} (fresh n e) s a =
    rw e
    record {
      ordered = ordered_snoc [] vs t a.ordered record { structured = s; known = a.known; new = n };
      kept = λ b m. Memᴰ.append_left (t ∷ []) (a.kept b m);
      known = λ b l h. Memᴰ.cast (Memᴰ.eq_of_singleton l) (Memᴰ.append_right vs (Memᴰ.head refl));
      only = λ b l. ⊎_elim (λ m. up_only (a.only b m)) (λ m. inr (given m)) (Memᴰ.append_cases vs l);
    }

mutual
  unfolding met kind parts elements

  met_met : (t : Ty) (us : List Ty) → Ordered [] us → Met us (met t us) (t ∷ [])
  met_met unknown us o = met_plain unknown us (omega arith) o
  met_met int us o = met_plain int us (omega arith) o
  met_met bool us o = met_plain bool us (omega arith) o
  met_met string us o = met_plain string us (omega arith) o
  met_met float us o = met_plain float us (omega arith) o
  met_met nonetype us o = met_plain nonetype us (omega arith) o
  met_met range us o = met_plain range us (omega arith) o
  met_met function us o = met_plain function us (omega arith) o
  met_met (list t) us o = met_new (added (list t) (met t us)) (omega arith) (met_met t us o)
  met_met (dict k v) us o =
      met_new (added (dict k v) (met v (met k us))) (omega arith) (met_then (met_met k us o) (met_met v (met k us) (met_met k us o).ordered))
  met_met (tuple ts) us o = met_new (added (tuple ts) (met_all ts us)) (omega arith) (all_met ts us o)
  met_met (map_iter t) us o = met_new (added (map_iter t) (met t us)) (omega arith) (met_met t us o)
  met_met (filter_iter t) us o = met_new (added (filter_iter t) (met t us)) (omega arith) (met_met t us o)

  all_met : (ts : Tys) (us : List Ty) → Ordered [] us → Met us (met_all ts us) (elements ts)
  all_met no_types us o = met_none us o
  all_met (t ⊕ ts) us o = met_then (met_met t us o) (all_met ts (met t us) (met_met t us o).ordered)

pub types_met : (es : List Entry) (us : List Ty) → Ordered [] us → Met us (types_of es us) (map (λ e. e.1) es)
unfolding types_of
types_met [] us o = met_none us o
types_met (e ∷ es) us o = met_then (met_met e.1 us o) (types_met es (met e.1 us) (met_met e.1 us o).ordered)

-- ---- numbers

position_le : (t : Ty) (us : List Ty) → position t us ≤ length us
unfolding position test◌then◌else◌
position_le t [] = omega arith
position_le t (u ∷ us) = elim (Ty-discrete t u) [ yes p ↦ rw (same_yes t u p) (omega arith) | no q ↦ rw (same_no t u q) (omega (arith, position_le t us)) ]

pub number_plain : (us : List Ty) (t : Ty) → kind t < 8 → number us t ≡ kind t
unfolding number test◌then◌else◌
number_plain us t h = rw (le-leb (suc (kind t)) 8 h)

pub number_above : (us : List Ty) (t : Ty) → 8 ≤ kind t → number us t ≡ 8 + position t us
unfolding number test◌then◌else◌
number_above us t h = rw (lt-leb (suc (kind t)) 8 (omega arith))

pub number_le : (us : List Ty) (t : Ty) → number us t ≤ 8 + length us
number_le us t = elim (dec_lt (kind t) 8) [
  | yes h ↦ omega (arith, number_plain us t h)
  | no h ↦ omega (arith, number_above us t (omega arith), position_le t us)
]

plain_read : (us : List Ty) (t : Ty) → kind t < 8 → numbered us (kind t) ≡ t
unfolding numbered test◌then◌else◌
plain_read us t h = rw (le-leb (suc (kind t)) 8 h) (plain_kind t h)

above_read : (us : List Ty) (n : ℕ) → numbered us (8 + n) ≡ get_or us n unknown
unfolding numbered test◌then◌else◌
above_read us n = let e : 8 + n - 8 ≡ n = omega arith in rw (lt-leb (suc (8 + n)) 8 (omega arith), e)

-- a number over all the types means its type already over the first of them, if the type stands there
pub number_read : (ps vs us : List Ty) → us ≡ ps ++ vs → (t : Ty) → (8 ≤ kind t → Memᴰ t ps) → numbered ps (number us t) ≡ t
number_read ps vs us e t h = elim (dec_lt (kind t) 8) [
  | yes l ↦ rw (number_plain us t l) (plain_read ps t l)
  | no l ↦ let g : 8 ≤ kind t = omega arith in rw (number_above us t g, above_read, e) (found t ps vs (h g)).0
]
