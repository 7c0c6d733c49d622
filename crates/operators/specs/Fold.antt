-- How the table is folded (document 02, Six): an operator's row has two kinds once, in order.
use Rattle.std.specs.Prelude.{◌≡◌, List, [], map, ◌++◌, ℕ, zero, suc, ◌<◌, ltb, get_or}
use Rattle.meaning.specs.Base.{test◌then◌else◌, count}

-- two kinds in order
unfoldable pub in_order : ℕ → ℕ → ℕ × ℕ
in_order a b = test ltb b a then (b, a) else (a, b)

-- the kinds below n, two at a time in order: by the higher one, then by the lower one
unfoldable pub pairs : ℕ → List (ℕ × ℕ)
pairs zero = []
pairs (suc n) = pairs n ++ map (λ low. (low, n)) (count 0 (suc n))

-- at is where a row, of 91 answers, has the one for kinds a and b, whichever of them stands left
abbrev pub PlaceOf : ℕ → ℕ → ℕ → Type 0
PlaceOf a b at = (at < 91) × (get_or (pairs 13) at (0, 0) ≡ in_order a b)
