-- What the readers of the table tell of number i, whatever the counts of the table that the cells cs hold; and what they need.
use Rattle.std.specs.Prelude.{◌≡◌, List, [], ◌∷◌, Option, Some, None, ℕ, suc, ◌+◌, ◌≤◌, ◌<◌, eqb, length}
use Rattle.std.proofs.Math.Option.{Option as Perhaps, none, some}
use Rattle.meaning.specs.Base.{test◌then◌else◌, all}
use Rattle.meaning.specs.Types.{Ty, kind, parts, part, common}
use Rattle.meaning.specs.Rules.{element_of}
use Rattle.meaning.specs.Walk.{agreed}
use Rattle.types.specs.declared.Kind.{Kind}
use Rattle.types.specs.Kinds.{kind_number}
use Rattle.types.specs.Layout.{kind_in, first_in, second_in}
use Rattle.types.specs.Table.{Tab, tab, capacity, Wf, Means, denote}

-- i is a number of a sound table that the cells hold
pub record Known (cs : List ℕ) (i : ℕ) : Type 0 where
  pub table : Tab
  pub cells : table.cells ≡ cs
  pub wf : Wf table
  pub below : i < table.n

-- what number i means by the cells alone: the counts tell nothing of it
unfoldable pub type_at : List ℕ → ℕ → Ty
type_at cs i = denote (tab cs (suc i) 0) i

pub record KindOf (cs : List ℕ) (i : ℕ) (r : Kind) : Type 0 where
  pub says : (t : Tab) → t.cells ≡ cs → Wf t → i < t.n → kind_number r ≡ kind (denote t i)

-- the part k, 0 or 1, of any type but a Tuple: Unknown where the type has no such part
pub record PartOf (cs : List ℕ) (k i r : ℕ) : Type 0 where
  pub says : (t : Tab) → t.cells ≡ cs → Wf t → i < t.n → (kind (denote t i) ≡ 10 → ⊥) → Means t r (part k (denote t i))

-- ---- the parts of a type, Tuples too

-- how many there are: a plain type has none
pub record PartsOf (cs : List ℕ) (i r : ℕ) : Type 0 where
  pub says : (t : Tab) → t.cells ≡ cs → Wf t → i < t.n → r ≡ length (parts (denote t i))

-- j is the place of one of them
pub record HasPart (cs : List ℕ) (i j : ℕ) : Type 0 where
  pub known : Known cs i
  pub within : j < length (parts (denote known.table i))

-- it is r: a lower number, which is what all recursion over types rests on
pub record PartAt (cs : List ℕ) (i j r : ℕ) : Type 0 where
  pub says : (t : Tab) → t.cells ≡ cs → Wf t → i < t.n → j < length (parts (denote t i)) → Means t r (part j (denote t i))
  pub lower : (t : Tab) → t.cells ≡ cs → Wf t → i < t.n → j < length (parts (denote t i)) → r < i

-- ---- Tuples

-- record i is a Tuple whose elements lie within the cells
pub record IsTuple (cs : List ℕ) (i : ℕ) : Type 0 where
  pub number : i < capacity cs
  pub kind_is : kind_in cs i ≡ 10
  pub inside : first_in cs i + second_in cs i ≤ capacity cs

-- and j is the place of one of them
pub record IsElement (cs : List ℕ) (i j : ℕ) : Type 0 where
  pub whole : IsTuple cs i
  pub within : j < second_in cs i

-- number i, whose elements lie within the cells if it is a Tuple
pub record IsNumber (cs : List ℕ) (i : ℕ) : Type 0 where
  pub number : i < capacity cs
  pub whole : kind_in cs i ≡ 10 → IsTuple cs i

pub record ElementAt (cs : List ℕ) (i j r : ℕ) : Type 0 where
  pub says : (t : Tab) → t.cells ≡ cs → Wf t → i < t.n → kind (denote t i) ≡ 10 → Means t r (part j (denote t i))

-- the number that all share, or 0
unfoldable pub shared : List ℕ → ℕ
shared [] = 0
shared (x ∷ xs) = test all (eqb x) xs then x else 0

-- the type that all elements share, or Unknown
pub record CommonOf (cs : List ℕ) (i r : ℕ) : Type 0 where
  pub says : (t : Tab) → t.cells ≡ cs → Wf t → i < t.n → kind (denote t i) ≡ 10 → Means t r (common (parts (denote t i)))

-- ---- answers that may be none

-- a type by its number, or none
unfoldable pub perhaps : Tab → Option ℕ → Perhaps Ty
perhaps t None = none
perhaps t (Some r) = some (denote t r)

-- what a walk over a value of the type gives
pub record ElementOf (cs : List ℕ) (i : ℕ) (r : Option ℕ) : Type 0 where
  pub says : (t : Tab) → t.cells ≡ cs → Wf t → i < t.n → element_of (denote t i) ≡ perhaps t r
  pub below : (t : Tab) → t.cells ≡ cs → Wf t → i < t.n → (k : ℕ) → r ≡ Some k → k < t.n

-- what an old type a and a new type b agree on: no look into the table tells it
pub record Agreement (a b : ℕ) (r : Option ℕ) : Type 0 where
  pub says : (t : Tab) → Wf t → a < t.n → b < t.n → agreed (denote t a) (denote t b) ≡ perhaps t r
  pub below : (t : Tab) → a < t.n → b < t.n → (k : ℕ) → r ≡ Some k → k < t.n
