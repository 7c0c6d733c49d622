-- What the answers of the searches and of `judge` say, and that no second answer fits. Assumes nothing.
use mathlib.Core.Path.{◌≡◌, refl, sym, ap, ◌∙◌}
use mathlib.Core.Logic.{◌↔◌}
use mathlib.Core.Option.{none, some}
use mathlib.Core.Option.{Option as Maybe}
use mathlib.Core.List.{List, [], ◌∷◌}
use Prim.Native.Nat.{ℕ}
use Rattle.std.specs.Prelude.{Option, Some, None, Result, Ok, Err}
use Rattle.meaning.specs.Base.{choose, test◌then◌else◌}
use Rattle.meaning.specs.Image.{image_fault}
use Rattle.meaning.specs.Image.{Fault as Meant}
use Rattle.meaning.proofs.Faults.{Sound, sound}
use Rattle.image.specs.declared.Fault.{Fault}
use Rattle.image.specs.declared.Fault.TheVariants.{BadHead, BadCount, BadOffset, BadName, UnsafeName, BadNode, BadNesting, TooDeep}
use Rattle.image.specs.Outcome.{place_of, fault_in, fault_of}

pub nowhere : {r : Option ℕ} {o : Maybe ℕ} → place_of r ≡ o → r ≡ None → o ≡ none
nowhere e f = sym e ∙ ap place_of f

pub found_at : {r : Option ℕ} {o : Maybe ℕ} {i : ℕ} → place_of r ≡ o → r ≡ Some i → o ≡ some i
found_at e f = sym e ∙ ap place_of f

-- ---- one answer only

-- the answer of `judge`
abbrev pub Judged : Type 0
Judged = Result (Unit {0}) Fault

-- the answer that has this code and place
unfoldable answer_of : Maybe Meant → Judged
answer_of none = Ok tt
answer_of (some f) =
    choose f.code (Ok tt)
    ((1, Err BadHead) ∷ (2, Err BadCount) ∷ (3, Err BadOffset) ∷ (4, Err (BadName f.place)) ∷ (5, Err (UnsafeName f.place))
    ∷ (6, Err (BadNode f.place)) ∷ (7, Err (BadNesting f.place)) ∷ (8, Err (TooDeep f.place)) ∷ [])

answer_back : (r : Judged) → answer_of (fault_of r) ≡ r
unfolding answer_of choose test◌then◌else◌
answer_back (Ok tt) = refl
answer_back (Err BadHead) = refl
answer_back (Err BadCount) = refl
answer_back (Err BadOffset) = refl
answer_back (Err (BadName i)) = refl
answer_back (Err (UnsafeName i)) = refl
answer_back (Err (BadNode i)) = refl
answer_back (Err (BadNesting i)) = refl
answer_back (Err (TooDeep i)) = refl

-- answers with the same code and place are equal
pub fault_injective : {r s : Judged} → fault_of r ≡ fault_of s → r ≡ s
fault_injective {r} {s} e = sym (answer_back r) ∙ (ap answer_of e ∙ answer_back s)

pub fault_in_injective : {f g : Fault} → fault_in f ≡ fault_in g → f ≡ g
fault_in_injective {f} {g} e = let k : ◌≡◌ {A = Judged} (Err f) (Err g) = fault_injective (ap some e) in cc

-- two answers that meet the promise of `judge` are equal
pub one_answer : (bs : List ℕ) {r s : Judged} → fault_of r ≡ image_fault bs → fault_of s ≡ image_fault bs → r ≡ s
one_answer bs p q = fault_injective (p ∙ sym q)

-- a well-formed image is a sound one, and the other way round
pub judged_sound : (bs : List ℕ) (r : Judged) → fault_of r ≡ image_fault bs → (r ≡ Ok tt) ↔ Sound bs
judged_sound bs r p =
    (λ e. (sound bs).0 (sym p ∙ ap fault_of e), λ s. fault_injective (p ∙ (sound bs).1 s))
