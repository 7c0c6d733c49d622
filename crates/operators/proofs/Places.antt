-- Where a row has two kinds. There are few kinds, so each law is one computation over all of them.
use mathlib.Core.Path.{◌≡◌, refl}
use mathlib.Core.Bool.{Bool}
use mathlib.Core.Option.{none}
use Prim.Native.Nat.{ℕ, ◌+◌, ◌*◌, ◌/◌, ◌≤◌, ◌<◌}
use borrow.Author.Tests.{eqb-true, ltb-true, lt-ltb, le-ltb}
use lib.Dec.{eqb, ltb}
use lib.ListN.{length, get_or}
use Rattle.meaning.specs.Base.{◌and◌, test◌then◌else◌, count, base_open}
use Rattle.meaning.specs.Image.{first_not, image_open}
use Rattle.meaning.proofs.Choices.{all_pass, and_left, and_right}
use Rattle.operators.specs.Fold.{in_order, pairs, PlaceOf}
use Rattle.operators.proofs.AllKinds.{OfAll, of_each}

-- ---- how many pairs there are below a kind

-- pairs_below's product is small, and half of it is their number
half : ℕ → ℕ → Bool
half k x = ltb (k * (k + 1)) 157 and eqb (k * (k + 1) / 2) (length (pairs k))

all_halves : first_not half 0 (count 0 13) ≡ none
unfolding half pairs base_open image_open
all_halves = refl

pub many_below : {k : ℕ} → k < 13 → (k * (k + 1) < 157) × (k * (k + 1) / 2 ≡ length (pairs k))
unfolding half count
many_below {k} h =
    let t = all_pass half (count 0 13) 0 all_halves k h in
    (ltb-true _ 157 (and_left _ _ t), eqb-true _ _ (and_right _ _ t))

-- ---- the place of two kinds

-- behind the pairs below the higher kind, as far as the lower one is high
placed : ℕ × ℕ → ℕ
placed p = length (pairs p.1) + p.0

stands : ℕ → ℕ → Bool
stands a b =
    let p = in_order a b in
    let q = get_or (pairs 13) (placed p) (0, 0) in
    ltb (placed p) 91 and (eqb q.0 p.0 and eqb q.1 p.1)

all_stand : OfAll stands
unfolding stands placed in_order pairs base_open image_open
all_stand = refl

both : {a b : ℕ} {p : ℕ × ℕ} → p.0 ≡ a → p.1 ≡ b → p ≡ (a, b)
both e f = rw (e, f)

in_place : (a b : ℕ) → a < 13 → b < 13 → PlaceOf a b (placed (in_order a b))
unfolding stands
in_place a b ha hb =
    let h = of_each stands all_stand a b ha hb in
    let g = and_right _ _ h in
    (ltb-true _ 91 (and_left _ _ h), both (eqb-true _ _ (and_left _ _ g)) (eqb-true _ _ (and_right _ _ g)))

placed_turned : {l r : ℕ} → r < l → placed (in_order l r) ≡ length (pairs l) + r
unfolding in_order placed test◌then◌else◌
placed_turned {l} {r} o = rw (lt-ltb r l o)

-- the higher kind stands left
pub place_turned : {l r : ℕ} → (l < 13) × (r < 13) → r < l → PlaceOf l r (length (pairs l) + r)
place_turned {l} {r} h o = rw (placed_turned o) at (in_place l r h.0 h.1)

placed_straight : {l r : ℕ} → l ≤ r → placed (in_order l r) ≡ length (pairs r) + l
unfolding in_order placed test◌then◌else◌
placed_straight {l} {r} o = rw (le-ltb r l o)

-- the higher kind stands right
pub place_straight : {l r : ℕ} → (l < 13) × (r < 13) → l ≤ r → PlaceOf l r (length (pairs r) + l)
place_straight {l} {r} h o = rw (placed_straight o) at (in_place l r h.0 h.1)
