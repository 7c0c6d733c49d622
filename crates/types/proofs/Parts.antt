-- The parts of a type: how many a kind has, and that each has a lower number than the whole.
use mathlib.Core.Path.{◌≡◌, refl, sym, ap, ◌∙◌}
use mathlib.Core.List.{List, ◌++◌}
use Prim.Native.Nat.{ℕ, zero, suc, ◌+◌, ◌-◌, ◌≤◌, ◌<◌}
use native.Mathlib.Nat.{add-zero, add-suc}
use native.Mathlib.Omega.{arith}
use native.Mathlib.Decide.{dec_lt, ℕ_discrete}
use lib.ListN.{length, get_or, get_or-append}
use Rattle.meaning.specs.Types.{Ty, unknown, int, bool, string, float, nonetype, range, function, list, dict, tuple, map_iter, filter_iter, kind, parts, part}
use Rattle.meaning.proofs.Choices.{plain_kind}
use Rattle.types.specs.Table.{Tab, tab, most_numbers, kind_at, second_at, shape, trees, denote, Means, Wf}
use Rattle.types.specs.Reading.{type_at}
use Rattle.types.proofs.Rows.{length_trees}
use Rattle.types.proofs.Laws.{kind_of, parts_many, plain_number, first_part, second_part, element_part}

-- ---- how many parts a kind has

pub plain_none : (ty : Ty) → kind ty < 8 → length (parts ty) ≡ 0
unfolding kind parts
plain_none unknown h = refl
plain_none int h = refl
plain_none bool h = refl
plain_none string h = refl
plain_none float h = refl
plain_none nonetype h = refl
plain_none range h = refl
plain_none function h = refl
plain_none (list t) h = absurd (omega arith)
plain_none (dict k v) h = absurd (omega arith)
plain_none (tuple ts) h = absurd (omega arith)
plain_none (map_iter t) h = absurd (omega arith)
plain_none (filter_iter t) h = absurd (omega arith)

pub one_part : (ty : Ty) → 8 ≤ kind ty → (kind ty ≡ 9 → ⊥) → (kind ty ≡ 10 → ⊥) → length (parts ty) ≡ 1
unfolding kind parts
one_part unknown h m n = absurd (omega arith)
one_part int h m n = absurd (omega arith)
one_part bool h m n = absurd (omega arith)
one_part string h m n = absurd (omega arith)
one_part float h m n = absurd (omega arith)
one_part nonetype h m n = absurd (omega arith)
one_part range h m n = absurd (omega arith)
one_part function h m n = absurd (omega arith)
one_part (list t) h m n = refl
one_part (dict k v) h m n = absurd (m refl)
one_part (tuple ts) h m n = absurd (n refl)
one_part (map_iter t) h m n = refl
one_part (filter_iter t) h m n = refl

pub two_parts : (ty : Ty) → kind ty ≡ 9 → length (parts ty) ≡ 2
unfolding kind parts
two_parts unknown h = absurd (omega arith)
two_parts int h = absurd (omega arith)
two_parts bool h = absurd (omega arith)
two_parts string h = absurd (omega arith)
two_parts float h = absurd (omega arith)
two_parts nonetype h = absurd (omega arith)
two_parts range h = absurd (omega arith)
two_parts function h = absurd (omega arith)
two_parts (list t) h = absurd (omega arith)
two_parts (dict k v) h = refl
two_parts (tuple ts) h = absurd (omega arith)
two_parts (map_iter t) h = absurd (omega arith)
two_parts (filter_iter t) h = absurd (omega arith)

pub some_parts : (ty : Ty) → 0 < length (parts ty) → 8 ≤ kind ty
some_parts ty h = elim (dec_lt (kind ty) 8) [ yes a ↦ absurd (omega (arith, plain_none ty a)) | no a ↦ omega arith ]

more_parts : (ty : Ty) → 1 < length (parts ty) → (kind ty ≡ 10 → ⊥) → kind ty ≡ 9
more_parts ty h n =
    elim (ℕ_discrete (kind ty) 9) [ yes a ↦ a | no a ↦ absurd (omega (arith, one_part ty (some_parts ty (omega arith)) a n)) ]

pub few_parts : (ty : Ty) → (kind ty ≡ 10 → ⊥) → length (parts ty) ≤ 2
few_parts ty n = elim (dec_lt 1 (length (parts ty))) [
  | yes a ↦ omega (arith, two_parts ty (more_parts ty a n))
  | no a ↦ omega arith
]

-- ---- the counts tell nothing of a type

trees_cells : (t u : Tab) → t.cells ≡ u.cells → (k : ℕ) → trees t k ≡ trees u k
unfolding trees shape
trees_cells t u e zero = refl
trees_cells t u e (suc k) = rw (trees_cells t u e k, e)

get_d_left : (xs ys : List Ty) (i : ℕ) → i < length xs → get_or (xs ++ ys) i unknown ≡ get_or xs i unknown
get_d_left xs ys i h = rw get_or-append

-- more records do not change what stands before them
trees_more : (t : Tab) (n d i : ℕ) → i < n → get_or (trees t (n + d)) i unknown ≡ get_or (trees t n) i unknown
unfolding trees
trees_more t n zero i h = rw add-zero
trees_more t n (suc d) i h =
    let inside : i < length (trees t (n + d)) = rw (length_trees t (n + d)) (omega arith) in
    rw (add-suc, get_d_left (trees t (n + d)) _ i inside) (trees_more t n d i h)

pub type_is : (t : Tab) (cs : List ℕ) → t.cells ≡ cs → (i : ℕ) → i < t.n → type_at cs i ≡ denote t i
unfolding type_at denote
type_is t cs e i h =
    let more : suc i + (t.n - suc i) ≡ t.n = omega arith in
    ap (λ (xs : List Ty). get_or xs i unknown) (trees_cells (tab cs (suc i) 0) t (sym e) (suc i))
    ∙ sym (trees_more t (suc i) (t.n - suc i) i (omega arith))
    ∙ ap (λ (k : ℕ). get_or (trees t k) i unknown) more

-- ---- the parts of a number

module _ {t : Tab} (w : Wf t) (i : ℕ) (h : i < t.n) where
  pub number_small : i < most_numbers
  number_small = omega (arith, w.room, w.most)

  pub plain_kind_of : i < 8 → kind (denote t i) ≡ i
  plain_kind_of l = kind_of w i h ∙ w.plains i l

  -- only the first eight numbers are plain types
  pub structured : 8 ≤ i → 8 ≤ kind (denote t i)
  structured g = elim (dec_lt (kind (denote t i)) 8) [
    | yes a ↦
        let k = kind (denote t i) in
        let e : denote t i ≡ denote t k = sym (plain_kind (denote t i) a) ∙ sym (plain_number w k a) in
        absurd (omega (arith, w.inj i k h (omega (arith, w.base)) e))
    | no a ↦ omega arith
  ]

  pub kind_most : kind (denote t i) ≤ 12
  kind_most = omega (arith, kind_of w i h, (w.low i h).known)

  pub parts_few : length (parts (denote t i)) ≤ most_numbers
  parts_few = elim (ℕ_discrete (kind_at t i) 10) [
    | yes e ↦ omega (arith, parts_many w i h e, (w.low i h).inside e, w.space, w.most)
    | no n ↦ omega (arith, few_parts (denote t i) (λ e. n (sym (kind_of w i h) ∙ e)))
  ]

  -- a part has a number, and a lower one than the whole
  pub record Lower (j : ℕ) : Type 0 where
    pub number : ℕ
    pub lower : number < i
    pub means : Means t number (part j (denote t i))

  lower_other : (j : ℕ) → (kind_at t i ≡ 10 → ⊥) → j < length (parts (denote t i)) → Lower j
  lower_other zero n l =
      record {
        number = _;
        lower = (w.low i h).first (omega (arith, some_parts (denote t i) (omega arith), kind_of w i h)) n;
        means = first_part w i h n;
      }
  lower_other (suc j) n l =
      let m : kind (denote t i) ≡ 10 → ⊥ = λ e. n (sym (kind_of w i h) ∙ e) in
      let nine = more_parts (denote t i) (omega arith) m in
      let one : suc j ≡ 1 = omega (arith, two_parts (denote t i) nine) in
      rw one record { number = _; lower = (w.low i h).second (sym (kind_of w i h) ∙ nine); means = second_part w i h n }

  pub part_number : (j : ℕ) → j < length (parts (denote t i)) → Lower j
  part_number j l = elim (ℕ_discrete (kind_at t i) 10) [
    | yes e ↦
        let within : j < second_at t i = omega (arith, parts_many w i h e) in
        record { number = _; lower = (w.low i h).elements e j within; means = element_part w i h j e within }
    | no n ↦ lower_other j n l
  ]

  -- so whatever number means it is lower
  pub part_lower : {j r : ℕ} → j < length (parts (denote t i)) → Means t r (part j (denote t i)) → r < i
  part_lower {j} {r} l m =
      let p = part_number j l in
      omega (arith, p.lower, w.inj r p.number m.below p.means.below (m.means ∙ sym p.means.means))
