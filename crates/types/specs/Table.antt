-- The table of numbered types: what a number means, when a table is sound, and what may become of one.
use Rattle.std.specs.Prelude.{◌≡◌, List, [], ◌∷◌, ◌++◌, map, ℕ, zero, suc, ◌+◌, ◌*◌, ◌%◌, ◌≤◌, ◌<◌, eqb, length, get_or, take, drop}
use Rattle.meaning.specs.Limits.{most_nodes}
use Rattle.meaning.specs.Base.{choose, test◌then◌else◌}
use Rattle.types.specs.Layout.{kind_cell, kind_in, first_in, second_in, link_in, elements_from, slots_from, slots_end}
unfoldable pub use Rattle.types.specs.Layout.{capacity}
use Rattle.meaning.specs.Types.{Ty, Tys, unknown, list, dict, tuple, map_iter, filter_iter, tys, no_types, plain}

-- "no more than 8 plus M distinct types ever exist"
abbrev pub most_numbers : ℕ
most_numbers = 8 + most_nodes

-- ---- cells of which n records and m elements are in use

pub record Tab : Type 0 where
  pub cells : List ℕ
  pub n : ℕ
  pub m : ℕ

abbrev pub tab : List ℕ → ℕ → ℕ → Tab
tab cells n m = record { cells = cells; n = n; m = m }

abbrev pub kind_at : Tab → ℕ → ℕ
kind_at t i = kind_in t.cells i

abbrev pub first_at : Tab → ℕ → ℕ
first_at t i = first_in t.cells i

abbrev pub second_at : Tab → ℕ → ℕ
second_at t i = second_in t.cells i

abbrev pub element_at : Tab → ℕ → ℕ
element_at t j = get_or t.cells (elements_from t.cells + j) 0

-- the numbers that a Tuple's record i names
abbrev pub elements_at : Tab → ℕ → List ℕ
elements_at t i = take (second_at t i) (drop (elements_from t.cells + first_at t i) t.cells)

-- ---- what a number means

-- the type of a kind: a and b are its parts, or ts its elements
unfoldable pub shaped : ℕ → Ty → Ty → Tys → Ty
shaped k a b ts =
    choose k (plain k)
    ((8, list a)
    ∷ (9, dict a b)
    ∷ (10, tuple ts)
    ∷ (11, map_iter a)
    ∷ (12, filter_iter a)
    ∷ [])

-- the type of a kind that has no elements
unfoldable pub built : ℕ → Ty → Ty → Ty
built k a b = shaped k a b no_types

-- what record i says, where f says what the numbers mean that it names
unfoldable pub shape : Tab → (ℕ → Ty) → ℕ → Ty
shape t f i = shaped (kind_at t i) (f (first_at t i)) (f (second_at t i)) (tys (map f (elements_at t i)))

-- the types of the first k numbers: a record names only numbers before it
unfoldable pub trees : Tab → ℕ → List Ty
trees t zero = []
trees t (suc k) = trees t k ++ (shape t (λ j. get_or (trees t k) j unknown) k ∷ [])

unfoldable pub denote : Tab → ℕ → Ty
denote t i = get_or (trees t t.n) i unknown

-- r is a number of the table, and means ty
pub record Means (t : Tab) (r : ℕ) (ty : Ty) : Type 0 where
  pub below : r < t.n
  pub means : denote t r ≡ ty

-- ---- when a table is sound

-- record i has a kind, names lower numbers, has its elements among those in use, and has 0 where it has no part
pub record Low (t : Tab) (i : ℕ) : Type 0 where
  pub known : kind_at t i ≤ 12
  pub none : kind_at t i < 8 → first_at t i ≡ 0
  pub unused : (kind_at t i ≡ 9 → ⊥) → (kind_at t i ≡ 10 → ⊥) → second_at t i ≡ 0
  pub first : 8 ≤ kind_at t i → (kind_at t i ≡ 10 → ⊥) → first_at t i < i
  pub second : kind_at t i ≡ 9 → second_at t i < i
  pub inside : kind_at t i ≡ 10 → first_at t i + second_at t i ≤ t.m
  pub elements : kind_at t i ≡ 10 → (j : ℕ) → j < second_at t i → get_or t.cells (elements_from t.cells + first_at t i + j) 0 < i

-- how many elements the Tuples among the first k records have together
unfoldable pub tupled : List ℕ → ℕ → ℕ
tupled cs zero = 0
tupled cs (suc k) = (test eqb (kind_in cs k) 10 then second_in cs k else 0) + tupled cs k

-- ---- the chains, by which a type's number is found: each structured number is in the one that its record's hash names

-- a hash with one number more
unfoldable pub step : ℕ → ℕ → ℕ
step h e = (8 * h + e) % 4093

unfoldable pub steps : ℕ → List ℕ → ℕ
steps h [] = h
steps h (e ∷ es) = steps (step h e) es

-- the hash of the record (k, p, q), and of the Tuple of some numbers
unfoldable pub record_hash : ℕ → ℕ → ℕ → ℕ
record_hash k p q = step (step k p) q

unfoldable pub tuple_hash : List ℕ → ℕ
tuple_hash es = steps 10 es

-- the cell with the last record of a hash's chain
unfoldable pub slot_of : List ℕ → ℕ → ℕ
slot_of cs h = slots_from cs + h % capacity cs

-- and of record i's
unfoldable pub slot_at : List ℕ → ℕ → ℕ
slot_at cs i =
    slot_of cs
    (test eqb (kind_in cs i) 10
    then tuple_hash (take (second_in cs i) (drop (elements_from cs + first_in cs i) cs))
    else record_hash (kind_in cs i) (first_in cs i) (second_in cs i))

-- a slot has the last number of its chain, and a link the one before: no number is passed over, and one below 8 is the chain's end
pub record Chains (cs : List ℕ) (n : ℕ) : Type 0 where
  pub heads : (x : ℕ) → slots_from cs ≤ x → x < slots_end cs → get_or cs x 0 < n
  pub head_own : (x : ℕ) → slots_from cs ≤ x → x < slots_end cs → 8 ≤ get_or cs x 0 → slot_at cs (get_or cs x 0) ≡ x
  pub head_last : (j : ℕ) → 8 ≤ j → j < n → j ≤ get_or cs (slot_at cs j) 0
  pub links : (i : ℕ) → 8 ≤ i → i < n → link_in cs i < i
  pub link_own : (i : ℕ) → 8 ≤ i → i < n → 8 ≤ link_in cs i → slot_at cs (link_in cs i) ≡ slot_at cs i
  pub link_last : (i j : ℕ) → 8 ≤ j → j < i → i < n → slot_at cs j ≡ slot_at cs i → j ≤ link_in cs i

-- under a shut name, so that searches in callers' proofs, which see many tables, do not look into it
unfoldable pub Chained : List ℕ → ℕ → Type 0
Chained cs n = Chains cs n

-- cells that a table may be started in: all chains are empty
pub record Fresh (cs : List ℕ) : Type 0 where
  pub room : 8 ≤ capacity cs
  pub most : capacity cs ≤ most_numbers
  pub heads : (x : ℕ) → slots_from cs ≤ x → x < slots_end cs → get_or cs x 0 < 8

pub record Wf (t : Tab) : Type 0 where
  pub most : capacity t.cells ≤ most_numbers
  pub base : 8 ≤ t.n
  pub room : t.n ≤ capacity t.cells
  pub space : t.m ≤ capacity t.cells
  pub plains : (i : ℕ) → i < 8 → kind_at t i ≡ i
  pub low : (i : ℕ) → i < t.n → Low t i
  pub inj : (i j : ℕ) → i < t.n → j < t.n → denote t i ≡ denote t j → i ≡ j
  pub chained : Chained t.cells t.n
  -- no two Tuples share an element, so that what they have together is in use
  pub apart : tupled t.cells t.n ≤ t.m

-- ---- what may become of a table

-- u is t with perhaps more in it: what stood in use stands, and means what it meant
pub record Grown (t u : Tab) : Type 0 where
  pub wf : Wf u
  pub long : length u.cells ≡ length t.cells
  pub as_wide : capacity u.cells ≡ capacity t.cells
  pub more : t.n ≤ u.n
  pub wider : t.m ≤ u.m
  pub same : (i : ℕ) → i < t.n → denote u i ≡ denote t i
  pub records : (x : ℕ) → x < kind_cell t.n → get_or u.cells x 0 ≡ get_or t.cells x 0
  pub elements : (j : ℕ) → j < t.m → element_at u j ≡ element_at t j

-- u is t grown by at most one number and so many elements, r means ty there, and a type that had a number got no second one
pub record Made (t u : Tab) (r : ℕ) (ty : Ty) (spent : ℕ) : Type 0 where
  pub grown : Grown t u
  pub room : u.n ≤ t.n + 1
  pub space : u.m ≤ t.m + spent
  pub below : r < u.n
  pub means : denote u r ≡ ty
  pub once : (i : ℕ) → i < t.n → denote t i ≡ ty → (u.n ≡ t.n) × (u.m ≡ t.m)
