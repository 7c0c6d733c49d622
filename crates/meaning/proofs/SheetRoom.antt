-- A table that holds the names' types and, with each type, its structured parts has no fewer types and elements than the sheet.
-- So the sheet's limits follow from the sizes of the table that a check fills.
use mathlib.Core.Path.{◌≡◌, refl, ◌∙◌, ap, sym}
use mathlib.Core.Logic.{⊎_elim}
use mathlib.Core.List.Memᴰ
use mathlib.Core.List.{List, [], ◌∷◌, ◌++◌, map, Memᴰ}
use Prim.Native.Nat.{ℕ, ◌+◌, ◌≤◌}
use native.Mathlib.Omega.{arith}
use lib.ListN.{length, length-append}
use Rattle.meaning.specs.Base.{test◌then◌else◌}
use Rattle.meaning.specs.Types.{Ty, Ty-discrete, same, kind, parts}
use Rattle.meaning.specs.Sheet.{Entry, types_of, elements_in, elements_of}
use Rattle.meaning.proofs.Choices.{same_yes, same_no}
use Rattle.meaning.proofs.SheetTypes.{Known, Ordered, Reached, given, part_of, types_met}
use Rattle.meaning.proofs.SheetOrder.{stands, has_parts}

weight : (Ty → ℕ) → List Ty → ℕ
weight w [] = 0
weight w (t ∷ ts) = w t + weight w ts

without : Ty → List Ty → List Ty
without t [] = []
without t (u ∷ us) = test same t u then us else u ∷ without t us

weight_without : (w : Ty → ℕ) (t : Ty) (us : List Ty) → Memᴰ t us → weight w us ≡ w t + weight w (without t us)
unfolding weight without test◌then◌else◌
weight_without w t [] m = absurd (Memᴰ.not-nil m)
weight_without w t (u ∷ us) m = elim (Ty-discrete t u) [
  | yes p ↦ rw (same_yes t u p) (ap (λ x. w x + weight w us) (sym p))
  | no q ↦ rw (same_no t u q) (omega (arith, weight_without w t us (⊎_elim (λ e. absurd (q e)) (λ r. r) (Memᴰ.cases_cons m))))
]

kept_without : (t u : Ty) (us : List Ty) → (u ≡ t → ⊥) → Memᴰ u us → Memᴰ u (without t us)
unfolding without test◌then◌else◌
kept_without t u [] n m = m
kept_without t u (x ∷ us) n m = elim (Ty-discrete t x) [
  | yes p ↦ rw (same_yes t x p) (⊎_elim (λ e. absurd (n (e ∙ sym p))) (λ r. r) (Memᴰ.cases_cons m))
  | no q ↦ rw (same_no t x q) (⊎_elim (λ e. Memᴰ.head e) (λ r. Memᴰ.tail (kept_without t u us n r)) (Memᴰ.cases_cons m))
]

not_before : (ps ts : List Ty) → Ordered ps ts → (t : Ty) → Memᴰ t ts → Memᴰ t ps → ⊥
not_before ps [] o t m n = Memᴰ.not-nil m
not_before ps (u ∷ ts) o t m n =
    ⊎_elim (λ e. o.0.new (Memᴰ.cast (sym e) n)) (λ r. not_before (ps ++ (u ∷ [])) ts o.1 t r (Memᴰ.append_left (u ∷ []) n)) (Memᴰ.cases_cons m)

-- distinct types that all stand in vs weigh no more than vs
lighter : (w : Ty → ℕ) (ps ts vs : List Ty) → Ordered ps ts → ((t : Ty) → Memᴰ t ts → Memᴰ t vs) → weight w ts ≤ weight w vs
unfolding weight
lighter w ps [] vs o c = omega arith
lighter w ps (t ∷ ts) vs o c =
    omega (
      arith,
      weight_without w t vs (c t (Memᴰ.head refl)),
      lighter w (ps ++ (t ∷ [])) ts (without t vs) o.1
          (λ u m. kept_without t u vs (λ e. not_before (ps ++ (t ∷ [])) ts o.1 u m (Memᴰ.append_right ps (Memᴰ.head e))) (c u (Memᴰ.tail m))),
    )

length_weight : (us : List Ty) → weight (λ t. 1) us ≡ length us
unfolding weight
length_weight [] = refl
length_weight (u ∷ us) = omega (arith, length_weight us)

elements_weight : (us : List Ty) → weight (λ t. length (elements_in t)) us ≡ length (elements_of us)
unfolding weight elements_of
elements_weight [] = refl
elements_weight (u ∷ us) = omega (arith, elements_weight us, length-append (elements_in u) (elements_of us))

pub no_more : (ps ts vs : List Ty) → Ordered ps ts → ((t : Ty) → Memᴰ t ts → Memᴰ t vs) → length ts ≤ length vs
no_more ps ts vs o c = omega (arith, length_weight ts, length_weight vs, lighter (λ t. 1) ps ts vs o c)

module _ (es : List Entry) (vs : List Ty) (names : Known vs (map (λ e. e.1) es)) (closed : (t : Ty) → Memᴰ t vs → Known vs (parts t)) where
  reached_held : {t : Ty} → Reached (map (λ e. e.1) es) t → 8 ≤ kind t → Memᴰ t vs
  reached_held (given {t = t} m) h = names t m h
  reached_held (part_of {t = t} {u = u} r m) h = closed u (reached_held r (has_parts u t m)) t m h

  held : (t : Ty) → Memᴰ t (types_of es []) → Memᴰ t vs
  held t m = let s = (stands es t).0 m in reached_held s.1 s.0

  pub sheet_room : (length (types_of es []) ≤ length vs) × (length (elements_of (types_of es [])) ≤ length (elements_of vs))
  sheet_room =
      let us = types_of es [] in
      let o = (types_met es [] tt).ordered in (
        no_more [] us vs o held,
        omega (arith, elements_weight us, elements_weight vs, lighter (λ t. length (elements_in t)) [] us vs o held),
      )
