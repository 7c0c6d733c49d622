-- The order of the sheet's types is that in which a walk of the names first completes them: parts left to right, and before the whole.
use mathlib.Core.Path.{◌≡◌, refl, ap, sym}
use mathlib.Core.Logic.{⊎_elim}
use mathlib.Core.List.Memᴰ
use mathlib.Core.List.{List, [], ◌∷◌, ◌++◌, append-nil, Memᴰ}
use Prim.Native.Nat.{suc, ◌+◌, ◌<◌}
use native.Mathlib.Omega.{arith}
use lib.ListN.{length, get_or}
use lib.Seq.{append_snoc}
use Rattle.meaning.specs.Base.{test◌then◌else◌}
use Rattle.meaning.specs.Types.{Ty, Ty-discrete, unknown, int, bool, string, float, nonetype, range, function, list, dict, tuple, map_iter, filter_iter, Tys, no_types, ◌⊕◌}
use Rattle.meaning.specs.Sheet.{Entry, add_new, met, met_all, types_of, position}
use Rattle.meaning.proofs.Choices.{same_yes, same_no}

-- ---- what add_new does

pub data Added (t : Ty) (us vs : List Ty) : Type 0 where
  old : Memᴰ t us → vs ≡ us → Added t us vs
  fresh : (Memᴰ t us → ⊥) → vs ≡ us ++ (t ∷ []) → Added t us vs

added_cons : {t u : Ty} {us : List Ty} → Dec (t ≡ u) → Added t us (add_new t us) → Added t (u ∷ us) (add_new t (u ∷ us))
unfolding add_new test◌then◌else◌
added_cons (yes p) a = old (Memᴰ.head p) (rw (same_yes _ _ p))
added_cons (no q) (old m e) = old (Memᴰ.tail m) (rw (same_no _ _ q, e))
added_cons (no q) (fresh n e) = fresh (λ m. ⊎_elim q n (Memᴰ.cases_cons m)) (rw (same_no _ _ q, e))

pub added : (t : Ty) (us : List Ty) → Added t us (add_new t us)
unfolding add_new
added t [] = fresh Memᴰ.not-nil refl
added t (u ∷ us) = added_cons (Ty-discrete t u) (added t us)

-- ---- where a type stands

-- what stands in the first part of a list has its place there
pub found : (t : Ty) (us vs : List Ty) → Memᴰ t us → (get_or us (position t (us ++ vs)) unknown ≡ t) × (position t (us ++ vs) < length us)
unfolding position test◌then◌else◌
found t [] vs m = absurd (Memᴰ.not-nil m)
found t (u ∷ us) vs m = elim (Ty-discrete t u) [
  | yes p ↦ rw (same_yes t u p) (sym p, omega arith)
  | no q ↦ let h = found t us vs (⊎_elim (λ e. absurd (q e)) (λ r. r) (Memᴰ.cases_cons m)) in rw (same_no t u q) (h.0, omega arith)
]

-- the place of what stands in the first part of a list, and of what does not
pub near : (t : Ty) (us vs : List Ty) → Memᴰ t us → position t (us ++ vs) ≡ position t us
unfolding position test◌then◌else◌
near t [] vs m = absurd (Memᴰ.not-nil m)
near t (u ∷ us) vs m = elim (Ty-discrete t u) [
  | yes p ↦ rw (same_yes t u p)
  | no q ↦ rw (same_no t u q) (ap suc (near t us vs (⊎_elim (λ e. absurd (q e)) (λ r. r) (Memᴰ.cases_cons m))))
]

pub far : (t : Ty) (us vs : List Ty) → (Memᴰ t us → ⊥) → position t (us ++ vs) ≡ length us + position t vs
unfolding position test◌then◌else◌
far t [] vs n = omega arith
far t (u ∷ us) vs n = rw (same_no t u (λ e. n (Memᴰ.head e))) (omega (arith, far t us vs (λ m. n (Memᴰ.tail m))))

pub here : (t : Ty) (us : List Ty) → position t (t ∷ us) ≡ 0
unfolding position test◌then◌else◌
here t us = rw (same_yes t t refl)

pub later : (t u : Ty) (us : List Ty) → (t ≡ u → ⊥) → position t (u ∷ us) ≡ suc (position t us)
unfolding position test◌then◌else◌
later t u us n = rw (same_no t u n)

-- ---- the order is that in which a walk first completes the types

-- the types that a walk completes, each time it does
mutual
  pub completed : Ty → List Ty
  completed unknown = []
  completed int = []
  completed bool = []
  completed string = []
  completed float = []
  completed nonetype = []
  completed range = []
  completed function = []
  completed (list t) = completed t ++ (list t ∷ [])
  completed (dict k v) = completed k ++ completed v ++ (dict k v ∷ [])
  completed (tuple ts) = completed_all ts ++ (tuple ts ∷ [])
  completed (map_iter t) = completed t ++ (map_iter t ∷ [])
  completed (filter_iter t) = completed t ++ (filter_iter t ∷ [])

  pub completed_all : Tys → List Ty
  completed_all no_types = []
  completed_all (t ⊕ ts) = completed t ++ completed_all ts

pub walk : List Entry → List Ty
walk [] = []
walk (e ∷ es) = completed e.1 ++ walk es

add_all : List Ty → List Ty → List Ty
add_all [] us = us
add_all (t ∷ ts) us = add_all ts (add_new t us)

add_append : (ts ss us : List Ty) → add_all (ts ++ ss) us ≡ add_all ss (add_all ts us)
unfolding add_all
add_append [] ss us = refl
add_append (t ∷ ts) ss us = add_append ts ss (add_new t us)

mutual
  unfolding met completed add_all

  met_adds : (t : Ty) (us : List Ty) → met t us ≡ add_all (completed t) us
  met_adds unknown us = refl
  met_adds int us = refl
  met_adds bool us = refl
  met_adds string us = refl
  met_adds float us = refl
  met_adds nonetype us = refl
  met_adds range us = refl
  met_adds function us = refl
  met_adds (list t) us = rw (add_append (completed t) (list t ∷ []) us, met_adds t us)
  met_adds (dict k v) us =
      rw (
        add_append (completed k ++ completed v) (dict k v ∷ []) us,
        add_append (completed k) (completed v) us,
        met_adds k us,
        met_adds v (add_all (completed k) us),
      )
  met_adds (tuple ts) us = rw (add_append (completed_all ts) (tuple ts ∷ []) us, all_adds ts us)
  met_adds (map_iter t) us = rw (add_append (completed t) (map_iter t ∷ []) us, met_adds t us)
  met_adds (filter_iter t) us = rw (add_append (completed t) (filter_iter t ∷ []) us, met_adds t us)

  all_adds : (ts : Tys) (us : List Ty) → met_all ts us ≡ add_all (completed_all ts) us
  all_adds no_types us = refl
  all_adds (t ⊕ ts) us = rw (add_append (completed t) (completed_all ts) us, met_adds t us, all_adds ts (add_all (completed t) us))

types_add : (es : List Entry) (us : List Ty) → types_of es us ≡ add_all (walk es) us
unfolding types_of walk add_all
types_add [] us = refl
types_add (e ∷ es) us = rw (add_append (completed e.1) (walk es) us, met_adds e.1 us, types_add es (add_all (completed e.1) us))

-- to leave out what stands already changes no order
skipped : {t u x : Ty} {us a b : List Ty} (ws : List Ty) → Added t us a → Added u us b → Memᴰ x us
    → position t (us ++ x ∷ ws) < position u (us ++ x ∷ ws) → position t (us ++ ws) < position u (us ++ ws)
skipped {t} {u} {x} {us} ws (old m _) (old n _) k h =
    omega (arith, near t us (x ∷ ws) m, near u us (x ∷ ws) n, near t us ws m, near u us ws n)
skipped {t} {u} {x} {us} ws (old m _) (fresh n _) k h = omega (arith, (found t us ws m).1, far u us ws n)
skipped {t} {u} {x} {us} ws (fresh m _) (old n _) k h = absurd (omega (arith, far t us (x ∷ ws) m, (found u us (x ∷ ws) n).1))
skipped {t} {u} {x} {us} ws (fresh m _) (fresh n _) k h =
    omega (arith, far t us (x ∷ ws) m, far u us (x ∷ ws) n, far t us ws m, far u us ws n, later t x ws (λ e. m (Memᴰ.cast e k)), later u x ws (λ e. n (Memᴰ.cast e k)))

add_order : (ws us : List Ty) (t u : Ty) → position t (us ++ ws) < position u (us ++ ws) → position t (add_all ws us) < position u (add_all ws us)
unfolding add_all
add_order [] us t u h = rw append-nil at h
add_order (x ∷ ws) us t u h = step (added x us) (λ vs g. add_order ws vs t u g)
  where
    step : {vs : List Ty} → Added x us vs → ((vs : List Ty) → position t (vs ++ ws) < position u (vs ++ ws) → position t (add_all ws vs) < position u (add_all ws vs))
        → position t (add_all ws vs) < position u (add_all ws vs)
    step (old m e) f = rw e (f us (skipped ws (added t us) (added u us) m h))
    step (fresh n e) f = rw e (f (us ++ (x ∷ [])) (rw append_snoc h))

-- what the walk first completes earlier stands earlier
pub first_completed : (es : List Entry) (t u : Ty) → position t (walk es) < position u (walk es) → position t (types_of es []) < position u (types_of es [])
first_completed es t u h = rw (types_add es []) (add_order (walk es) [] t u h)
