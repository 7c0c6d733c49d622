-- The equation of `denote`: a number means what its record says. Only this file looks into the trees.
use mathlib.Core.Path.{◌≡◌, refl, sym, ap, ◌∙◌}
use mathlib.Core.List.{List, [], ◌∷◌, ◌++◌}
use Prim.Native.Nat.{ℕ, zero, suc, ◌+◌, ◌≤◌, ◌<◌}
use native.Mathlib.Omega.{arith}
use native.Mathlib.Decide.{dec_le}
use lib.ListN.{length, get_or, length-append, get_or-append}
use lib.Seq.{get_or_at}
use Rattle.meaning.specs.Types.{Ty, tys, unknown}
use Rattle.types.specs.Layout.{elements_from}
use Rattle.types.specs.Table.{Tab, capacity, kind_at, first_at, second_at, shape, trees, denote, Low}
use Rattle.types.proofs.Room.{capacity_within}
use Rattle.types.proofs.Shapes.{shaped_cong}
use Rattle.types.proofs.Pieces.{piece_map}

-- what number i means by the first k records
abbrev see : Tab → ℕ → ℕ → Ty
see t k i = get_or (trees t k) i unknown

pub length_trees : (t : Tab) (k : ℕ) → length (trees t k) ≡ k
unfolding trees
length_trees t zero = refl
length_trees t (suc k) = length-append (trees t k) _ ∙ omega (arith, length_trees t k)

see_last : (t : Tab) (k : ℕ) → see t (suc k) k ≡ shape t (see t k) k
unfolding trees
see_last t k = get_or_at (trees t k) _ [] unknown k (length_trees t k)

see_step : (t : Tab) (k i : ℕ) → i < k → see t (suc k) i ≡ see t k i
unfolding trees
see_step t k i h = get_or-append (trees t k) _ unknown i (omega (arith, length_trees t k))

see_le : (t : Tab) (k n i : ℕ) → i < k → k ≤ n → see t n i ≡ see t k i
see_le t k zero i h l = absurd (omega arith)
see_le t k (suc n) i h l = elim (dec_le k n) [
  | yes a ↦ see_step t n i (omega arith) ∙ see_le t k n i h a
  | no a ↦ ap (λ x. see t x i) (omega arith)
]

-- what makes a table's records readable: room for the elements, and each record low
pub record Sound (t : Tab) : Type 0 where
  pub space : t.m ≤ capacity t.cells
  pub low : (i : ℕ) → i < t.n → Low t i

-- a record looks only at the numbers below its own
pub shape_cong : (t : Tab) → t.m ≤ capacity t.cells → (f g : ℕ → Ty) (i : ℕ) → Low t i → ((j : ℕ) → j < i → f j ≡ g j)
    → shape t f i ≡ shape t g i
unfolding shape
shape_cong t space f g i l h =
    shaped_cong (kind_at t i) l.known
    (λ e n. h _ (l.first e n))
    (λ e. h _ (l.second e))
    (λ e. let a : elements_from t.cells + first_at t i + second_at t i ≤ length t.cells = omega (arith, l.inside e, capacity_within t.cells) in
    ap tys (piece_map f g t.cells t.cells (elements_from t.cells + first_at t i) (elements_from t.cells + first_at t i) (second_at t i) a a (λ j k. h _ (l.elements e j k))))

pub denote_sound : (t : Tab) → Sound t → (i : ℕ) → i < t.n → denote t i ≡ shape t (denote t) i
unfolding denote
denote_sound t s i h =
    see_le t (suc i) t.n i (omega arith) (omega arith)
    ∙ see_last t i
    ∙ shape_cong t s.space (see t i) (see t t.n) i (s.low i h) (λ j a. sym (see_le t i t.n j a (omega arith)))

-- records below k that say the same in both tables give the same trees
trees_agree : (t u : Tab) (k : ℕ) → ((i : ℕ) → i < k → (f : ℕ → Ty) → shape u f i ≡ shape t f i) → trees u k ≡ trees t k
unfolding trees
trees_agree t u zero h = refl
trees_agree t u (suc k) h =
    let e : trees u k ≡ trees t k = trees_agree t u k (λ i a f. h i (omega arith) f) in
    rw e (ap (λ x. trees t k ++ (x ∷ [])) (h k (omega arith) _))

pub denote_agree : (t u : Tab) → t.n ≤ u.n → ((i : ℕ) → i < t.n → (f : ℕ → Ty) → shape u f i ≡ shape t f i)
    → (i : ℕ) → i < t.n → denote u i ≡ denote t i
unfolding denote
denote_agree t u l h i a = see_le u t.n u.n i a l ∙ ap (λ (x : List Ty). get_or x i unknown) (trees_agree t u t.n h)
