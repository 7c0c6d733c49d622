-- There are 13 kinds, so what is said of two of them can be computed.
use mathlib.Core.Path.{◌≡◌}
use mathlib.Core.Bool.{Bool, true}
use mathlib.Core.Option.{none}
use Prim.Native.Nat.{ℕ, ◌+◌, ◌*◌, ◌/◌, ◌%◌, ◌<◌}
use native.Mathlib.Omega.{arith}
use Rattle.meaning.specs.Base.{count}
use Rattle.meaning.specs.Image.{first_not}
use Rattle.meaning.proofs.Choices.{all_pass}

-- one computation: p holds of all pairs of kinds
abbrev pub OfAll : (ℕ → ℕ → Bool) → Type 0
OfAll p = first_not (λ k (x : ℕ). p (k / 13) (k % 13)) 0 (count 0 169) ≡ none

pub of_each : (p : ℕ → ℕ → Bool) → OfAll p → (a b : ℕ) → a < 13 → b < 13 → p a b ≡ true
unfolding count
of_each p e a b ha hb =
    let e0 : (a * 13 + b) / 13 ≡ a = omega arith in
    let e1 : (a * 13 + b) % 13 ≡ b = omega arith in
    rw (e0, e1) at (all_pass (λ k (x : ℕ). p (k / 13) (k % 13)) (count 0 169) 0 e (a * 13 + b) (omega arith))
