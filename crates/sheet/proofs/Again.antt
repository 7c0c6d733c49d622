-- The walk of the sheet over what it has met: a known type changes nothing, and a type may be met after one of its parts.
use mathlib.Core.Path.{◌≡◌, refl, sym, ap, ◌∙◌}
use mathlib.Core.Logic.{⊎_elim}
use mathlib.Core.List.Memᴰ
use mathlib.Core.List.{List, [], ◌∷◌, ◌++◌, Memᴰ}
use Prim.Native.Nat.{ℕ, suc, ◌≤◌, ◌<◌}
use native.Mathlib.Omega.{arith}
use native.Mathlib.Decide.{dec_lt}
use lib.ListN.{length, get_or, take, drop, take-append-drop}
use lib.Seq.{drop-cons}
use Rattle.meaning.specs.Types.{Ty, unknown, kind, parts}
use Rattle.meaning.specs.Sheet.{add_new, met}
use Rattle.meaning.proofs.SheetTypes.{Known, Ordered}
use Rattle.sheet.specs.Marks.{met_each}
use Rattle.sheet.proofs.Meeting.{met_plain, met_parts, met_again, met_ordered, met_kept, met_there}

-- ---- what is known stays known

pub known_more : (us vs ts : List Ty) → ((t : Ty) → Memᴰ t us → Memᴰ t vs) → Known us ts → Known vs ts
known_more us vs ts f k t m h = f t (k t m h)

pub known_snoc : (us ts : List Ty) (t : Ty) → Known us ts → (8 ≤ kind t → Memᴰ t us) → Known us (ts ++ (t ∷ []))
known_snoc us ts t k h u m g =
    ⊎_elim (λ l. k u l g) (λ r. let e = Memᴰ.eq_of_singleton r in Memᴰ.cast e (h (rw e at g))) (Memᴰ.append_cases ts m)

-- ---- and changes nothing

pub met_still : (t : Ty) (us : List Ty) → Ordered [] us → (8 ≤ kind t → Memᴰ t us) → met t us ≡ us
met_still t us o k = elim (dec_lt (kind t) 8) [
  | yes a ↦ met_plain t us a
  | no a ↦ met_again t us o (k (omega arith))
]

pub each_still : (ts us : List Ty) → Ordered [] us → Known us ts → met_each ts us ≡ us
unfolding met_each
each_still [] us o k = refl
each_still (t ∷ ts) us o k =
    rw (met_still t us o (k t (Memᴰ.head refl))) (each_still ts us o (λ u m h. k u (Memᴰ.tail m) h))

each_append : (ts rs us : List Ty) → met_each (ts ++ rs) us ≡ met_each rs (met_each ts us)
unfolding met_each
each_append [] rs us = refl
each_append (t ∷ ts) rs us = each_append ts rs (met t us)

-- ---- a type whose first j parts are known

module _ (t : Ty) (us : List Ty) (o : Ordered [] us) (high : 8 ≤ kind t) where
  -- with all of them it is the next one
  pub met_next : Known us (parts t) → met t us ≡ add_new t us
  met_next k = met_parts t us high ∙ ap (add_new t) (each_still (parts t) us o k)

  module _ (j : ℕ) (inside : j < length (parts t)) (k : Known us (take j (parts t))) where
    abbrev p : Ty
    p = get_or (parts t) j unknown

    abbrev later : List Ty
    later = drop (suc j) (parts t)

    split : parts t ≡ take j (parts t) ++ (p ∷ later)
    split = sym (take-append-drop j (parts t)) ∙ ap (λ (xs : List Ty). take j (parts t) ++ xs) (drop-cons (parts t) j unknown inside)

    -- from vs on, where the first j are known too
    from_part : (vs : List Ty) → Ordered [] vs → Known vs (take j (parts t)) → met_each (parts t) vs ≡ met_each later (met p vs)
    unfolding met_each
    from_part vs q l =
        ap (λ (xs : List Ty). met_each xs vs) split ∙ each_append (take j (parts t)) (p ∷ later) vs
        ∙ ap (met_each (p ∷ later)) (each_still (take j (parts t)) vs q l)

    -- the next part may be met before
    pub met_after_part : met t (met p us) ≡ met t us
    met_after_part =
        let vs = met p us in
        let q = met_ordered p us o in
        let l : Known vs (take j (parts t)) = known_more us vs (take j (parts t)) (met_kept p us o) k in
        let same : met_each (parts t) vs ≡ met_each (parts t) us =
        from_part vs q l ∙ ap (met_each later) (met_still p vs q (met_there p us o)) ∙ sym (from_part us o k) in
        met_parts t vs high ∙ ap (add_new t) same ∙ sym (met_parts t us high)
