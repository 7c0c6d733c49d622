-- A number that is no code has no format string, and so no message.
use mathlib.Core.Path.{◌≡◌, refl}
use mathlib.Core.Bool.{Bool, true, false}
use mathlib.Core.Logic.{◌⊎◌, inl, inr}
use mathlib.Core.List.{List, [], ◌∷◌}
use Prim.Native.Nat.{ℕ, ◌<◌}
use Prim.Native.String.{String}
use native.Mathlib.Omega.{arith}
use borrow.Author.Tests.{ne_eqb, leb-true}
use lib.Dec.{leb}
use Rattle.meaning.specs.Base.{◌and◌, test◌then◌else◌, choose, bytes}
use Rattle.meaning.specs.Message.{template, fill, message}
use Rattle.meaning.specs.Answer.{fitting}
use Rattle.meaning.proofs.Choices.{and_left, and_right}
use Rattle.types.specs.Table.{Tab}
use Rattle.message.specs.Told.{told}

-- all rows have keys from n on, or up to n
unfoldable from : ℕ → List (ℕ × String) → Bool
from n [] = true
from n (r ∷ rs) = leb n r.0 and from n rs

unfoldable upto : ℕ → List (ℕ × String) → Bool
upto n [] = true
upto n (r ∷ rs) = leb r.0 n and upto n rs

choose_low : (k n : ℕ) (rs : List (ℕ × String)) → k < n → from n rs ≡ true → choose k "" rs ≡ ""
unfolding choose from test◌then◌else◌
choose_low k n [] h g = refl
choose_low k n (r ∷ rs) h g =
    let low = leb-true n r.0 (and_left _ _ g) in
    rw (ne_eqb k r.0 (λ e. absurd (omega arith))) (choose_low k n rs h (and_right _ _ g))

choose_high : (k n : ℕ) (rs : List (ℕ × String)) → n < k → upto n rs ≡ true → choose k "" rs ≡ ""
unfolding choose upto test◌then◌else◌
choose_high k n [] h g = refl
choose_high k n (r ∷ rs) h g =
    let high = leb-true r.0 n (and_left _ _ g) in
    rw (ne_eqb k r.0 (λ e. absurd (omega arith))) (choose_high k n rs h (and_right _ _ g))

no_format : (code : ℕ) → (code < 20) ⊎ (50 < code) → template code ≡ ""
unfolding template from upto ◌and◌
no_format code (inl h) = choose_low code 20 _ h refl
no_format code (inr h) = choose_high code 50 _ h refl

none_either : (b : Bool) → ◌≡◌ {A = List ℕ} (test b then [] else []) []
unfolding test◌then◌else◌
none_either true = refl
none_either false = refl

pub told_none : (bs : List ℕ) (t : Tab) (code a b room : ℕ) → (code < 20) ⊎ (50 < code) → told bs t code a b room ≡ []
unfolding told message fill fitting bytes test◌then◌else◌
told_none bs t code a b room h = rw (no_format code h) (none_either _)
