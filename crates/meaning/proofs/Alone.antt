-- A name of a sheet alone: it makes a sheet too, and a name's types in two sheets are one exactly when the two sheets of it alone are.
use mathlib.Core.Path.{◌≡◌, refl, ap, ◌∙◌}
use mathlib.Core.Bool.{true}
use mathlib.Core.Logic.{⊎_elim, ◌↔◌}
use mathlib.Core.List.Memᴰ
use mathlib.Core.List.{List, [], ◌∷◌, map, Memᴰ}
use Prim.Native.Nat.{ℕ, ◌≤◌}
use native.Mathlib.Omega.{arith}
use borrow.Author.Tests.{leb-true, le-leb}
use lib.ListN.{length}
use Rattle.meaning.specs.Limits.{most_names, most_types, most_elements}
use Rattle.meaning.specs.Base.{before}
use Rattle.meaning.specs.Types.{Ty}
use Rattle.meaning.specs.Image.{text_stands}
use Rattle.meaning.specs.Sheet.{Entry, types_of, elements_of, sheet_of, texts_stand, within_limits}
use Rattle.meaning.proofs.Choices.{and_left, and_right, both}
use Rattle.meaning.proofs.SheetTypes.{given, part_of}
use Rattle.meaning.proofs.SheetOrder.{stands}
use Rattle.meaning.proofs.SheetRoom.{sheet_room}
use Rattle.meaning.proofs.SheetForm.{limits, sheet_injective}

-- the empty text comes before every name
first_of_all : (s : List ℕ) → 1 ≤ length s → before [] s ≡ true
unfolding before
first_of_all [] h = absurd (omega arith)
first_of_all (x ∷ s) h = refl

text_alone : (last : List ℕ) (es : List Entry) (e : Entry) → texts_stand last es ≡ true → Memᴰ e es → texts_stand [] (e ∷ []) ≡ true
unfolding texts_stand text_stands
text_alone last [] e h m = absurd (Memᴰ.not-nil m)
text_alone last (d ∷ es) e h m =
    ⊎_elim
    (λ p. let fits = and_left _ _ (and_left _ _ h) in
    let long = leb-true 1 (length d.0) (and_left _ _ (and_left _ _ fits)) in
    rw p (both _ _ (both _ _ fits (first_of_all d.0 long)) refl))
    (λ r. text_alone d.0 es e (and_right _ _ h) r)
    (Memᴰ.cases_cons m)

pub alone_within : (es : List Entry) (e : Entry) → within_limits es ≡ true → Memᴰ e es → within_limits (e ∷ []) ≡ true
unfolding within_limits
alone_within es e w m =
    let l = limits es w in
    let its : Memᴰ e.1 (map (λ (d : Entry). d.1) es) = Memᴰ.map (λ (d : Entry). d.1) m in
    let room = sheet_room (e ∷ []) (types_of es [])
    (λ t k h. ⊎_elim (λ p. (stands es t).1 (h, given (Memᴰ.cast p its))) (λ n. absurd (Memᴰ.not-nil n)) (Memᴰ.cases_cons k))
    (λ t k p q h. (stands es p).1 (h, part_of ((stands es t).0 k).1 q)) in
    both _ _
    (both _ _ (both _ _ (text_alone [] es e (and_left _ _ (and_left _ _ (and_left _ _ w))) m) (le-leb 1 most_names (omega arith)))
    (le-leb (length (types_of (e ∷ []) [])) most_types (omega (arith, room.0, l.types))))
    (le-leb (length (elements_of (types_of (e ∷ []) []))) most_elements (omega (arith, room.1, l.elements)))

first_type : Ty → List Entry → Ty
first_type u [] = u
first_type u (e ∷ es) = e.1

-- the types that two sheets have for a name
module _ {es fs : List Entry} {d e : Entry} (v : within_limits es ≡ true) (w : within_limits fs ≡ true) (m : Memᴰ d es) (k : Memᴰ e fs) where
  pub alone_same : d.0 ≡ e.0 → (sheet_of (d ∷ []) ≡ sheet_of (e ∷ [])) ↔ (d.1 ≡ e.1)
  unfolding first_type
  alone_same p =
      let i = sheet_injective (d ∷ []) (e ∷ []) (alone_within es d v m) (alone_within fs e w k) in (
        λ s. ap (first_type d.1) (i.0 s),
        λ t. i.1 (ap (λ (s : List ℕ). (s, d.1) ∷ []) p ∙ ap (λ (u : Ty). (e.0, u) ∷ []) t),
      )
