-- Kinds by their numbers.
use mathlib.Core.Path.{◌≡◌, refl, sym, ap, ◌∙◌}
use mathlib.Core.Logic.{◌⊎◌, inl, inr}
use Prim.Native.Nat.{ℕ, zero, suc, ◌≤◌, ◌<◌}
use native.Mathlib.Omega.{arith}
use Rattle.types.specs.declared.Kind.{Kind}
use Rattle.types.specs.declared.Kind.TheVariants as kind
use Rattle.types.specs.Kinds.{kind_number}

-- the kind of a number, for the law that follows it alone
kind_from : ℕ → Kind
kind_from zero = kind.Unknown
kind_from (suc zero) = kind.Int
kind_from (suc (suc zero)) = kind.Bool
kind_from (suc (suc (suc zero))) = kind.String
kind_from (suc (suc (suc (suc zero)))) = kind.Float
kind_from (suc (suc (suc (suc (suc zero))))) = kind.NoneType
kind_from (suc (suc (suc (suc (suc (suc zero)))))) = kind.Range
kind_from (suc (suc (suc (suc (suc (suc (suc zero))))))) = kind.Function
kind_from (suc (suc (suc (suc (suc (suc (suc (suc zero)))))))) = kind.List
kind_from (suc (suc (suc (suc (suc (suc (suc (suc (suc zero))))))))) = kind.Dict
kind_from (suc (suc (suc (suc (suc (suc (suc (suc (suc (suc zero)))))))))) = kind.Tuple
kind_from (suc (suc (suc (suc (suc (suc (suc (suc (suc (suc (suc zero))))))))))) = kind.MapIter
kind_from (suc (suc (suc (suc (suc (suc (suc (suc (suc (suc (suc (suc k)))))))))))) = kind.FilterIter

from_number : (k : Kind) → kind_from (kind_number k) ≡ k
unfolding kind_from
from_number kind.Unknown = refl
from_number kind.Int = refl
from_number kind.Bool = refl
from_number kind.String = refl
from_number kind.Float = refl
from_number kind.NoneType = refl
from_number kind.Range = refl
from_number kind.Function = refl
from_number kind.List = refl
from_number kind.Dict = refl
from_number kind.Tuple = refl
from_number kind.MapIter = refl
from_number kind.FilterIter = refl

-- equal numbers are equal kinds
pub same_kind : (j k : Kind) → kind_number j ≡ kind_number k → j ≡ k
same_kind j k e = sym (from_number j) ∙ ap kind_from e ∙ from_number k

pub plain_left : (k : Kind) → (k ≡ kind.List → ⊥) → (k ≡ kind.Dict → ⊥) → (k ≡ kind.Tuple → ⊥) → (k ≡ kind.MapIter → ⊥) → (k ≡ kind.FilterIter → ⊥)
    → kind_number k < 8
plain_left kind.Unknown a b c d e = omega arith
plain_left kind.Int a b c d e = omega arith
plain_left kind.Bool a b c d e = omega arith
plain_left kind.String a b c d e = omega arith
plain_left kind.Float a b c d e = omega arith
plain_left kind.NoneType a b c d e = omega arith
plain_left kind.Range a b c d e = omega arith
plain_left kind.Function a b c d e = omega arith
plain_left kind.List a b c d e = absurd (a refl)
plain_left kind.Dict a b c d e = absurd (b refl)
plain_left kind.Tuple a b c d e = absurd (c refl)
plain_left kind.MapIter a b c d e = absurd (d refl)
plain_left kind.FilterIter a b c d e = absurd (e refl)

-- those that a walk goes over by their first part, and those that none goes over
pub one_walked : {k : Kind} → (k ≡ kind.List) ⊎ ((k ≡ kind.MapIter) ⊎ (k ≡ kind.FilterIter))
    → (8 ≤ kind_number k) × (kind_number k ≡ 9 → ⊥) × (kind_number k ≡ 10 → ⊥)
one_walked (inl e) = rw e (omega arith, λ z. absurd (omega arith), λ z. absurd (omega arith))
one_walked (inr (inl e)) = rw e (omega arith, λ z. absurd (omega arith), λ z. absurd (omega arith))
one_walked (inr (inr e)) = rw e (omega arith, λ z. absurd (omega arith), λ z. absurd (omega arith))

pub walked : {k : Kind} → (k ≡ kind.List) ⊎ ((k ≡ kind.Dict) ⊎ ((k ≡ kind.MapIter) ⊎ (k ≡ kind.FilterIter)))
    → (8 ≤ kind_number k) × (kind_number k ≡ 10 → ⊥)
walked (inl e) = rw e (omega arith, λ z. absurd (omega arith))
walked (inr (inl e)) = rw e (omega arith, λ z. absurd (omega arith))
walked (inr (inr (inl e))) = rw e (omega arith, λ z. absurd (omega arith))
walked (inr (inr (inr e))) = rw e (omega arith, λ z. absurd (omega arith))

pub not_walked : {k : Kind} → (k ≡ kind.Int) ⊎ ((k ≡ kind.Bool) ⊎ ((k ≡ kind.Float) ⊎ ((k ≡ kind.NoneType) ⊎ (k ≡ kind.Function))))
    → (kind_number k < 8) × (kind_number k ≡ 0 → ⊥) × (kind_number k ≡ 3 → ⊥) × (kind_number k ≡ 6 → ⊥)
not_walked (inl e) = rw e (omega arith, λ z. absurd (omega arith), λ z. absurd (omega arith), λ z. absurd (omega arith))
not_walked (inr (inl e)) = rw e (omega arith, λ z. absurd (omega arith), λ z. absurd (omega arith), λ z. absurd (omega arith))
not_walked (inr (inr (inl e))) = rw e (omega arith, λ z. absurd (omega arith), λ z. absurd (omega arith), λ z. absurd (omega arith))
not_walked (inr (inr (inr (inl e)))) = rw e (omega arith, λ z. absurd (omega arith), λ z. absurd (omega arith), λ z. absurd (omega arith))
not_walked (inr (inr (inr (inr e)))) = rw e (omega arith, λ z. absurd (omega arith), λ z. absurd (omega arith), λ z. absurd (omega arith))
