-- The marks of the writer's walk: the number that each type of the table has in the sheet, or 1 for none; and the table's numbers in the
-- sheet's order, so many as are met.
use Rattle.std.specs.Prelude.{◌≡◌, ℕ, ◌+◌, ◌≤◌, ◌<◌, eqb, length, get_or, set, take}
use mathlib.Core.List.{List, [], ◌∷◌, map, Memᴰ}
use Rattle.meaning.specs.Base.{test◌then◌else◌}
use Rattle.meaning.specs.Limits.{most_types}
use Rattle.meaning.specs.Types.{Ty}
use Rattle.meaning.specs.Sheet.{met, position}
use Rattle.meaning.proofs.SheetTypes.{Ordered}
use Rattle.types.specs.Table.{Tab, tab, most_numbers, Wf, denote}
use Rattle.sheet.specs.declared.writer.Marks.{Marks}

-- ---- the marks

-- the number in the sheet of type i of the table, or 1
abbrev pub number_at : Marks → ℕ → ℕ
number_at ms i = get_or ms.numbers.now i 0

-- the table's number of type k of the sheet
abbrev pub type_met : Marks → ℕ → ℕ
type_met ms k = get_or ms.order.now k 0

abbrev pub order_in : Marks → List ℕ
order_in ms = take ms.met ms.order.now

-- the table that the marks are made for
abbrev pub tab_of : List ℕ → Marks → Tab
tab_of cs ms = tab cs ms.counts.types ms.counts.elements

-- the types met so far
unfoldable pub types_in : Tab → Marks → List Ty
types_in t ms = map (denote t) (order_in ms)

pub record Marked (t : Tab) (ms : Marks) : Type 0 where
  pub wf : Wf t
  pub types : ms.counts.types ≡ t.n
  pub elements : ms.counts.elements ≡ t.m
  pub numbers_long : length ms.numbers.now ≡ most_numbers
  pub order_long : length ms.order.now ≡ most_types
  pub few : ms.met ≤ most_types
  pub within : (k : ℕ) → k < ms.met → (8 ≤ type_met ms k) × (type_met ms k < t.n)
  pub ordered : Ordered [] (types_in t ms)
  pub known : (i : ℕ) → i < t.n → (number_at ms i ≡ 1 → ⊥) → Memᴰ (denote t i) (types_in t ms)
  pub number : (i : ℕ) → i < t.n → (number_at ms i ≡ 1 → ⊥) → number_at ms i ≡ 8 + position (denote t i) (types_in t ms)
  pub fresh : (i : ℕ) → i < t.n → number_at ms i ≡ 1 → Memᴰ (denote t i) (types_in t ms) → ⊥

-- i is the next type of the sheet, if it has no number
unfoldable pub completed : Marks → ℕ → Marks
completed ms i =
    test eqb (number_at ms i) 1
    then record ms {
      numbers = record ms.numbers { now = set ms.numbers.now i (8 + ms.met) };
      order = record ms.order { now = set ms.order.now ms.met i };
      met = ms.met + 1;
    }
    else ms

pub record Completing (ms : Marks) (i : ℕ) : Type 0 where
  pub numbers_long : length ms.numbers.now ≡ most_numbers
  pub order_long : length ms.order.now ≡ most_types
  pub number : i < most_numbers
  pub room : number_at ms i ≡ 1 → ms.met < most_types

-- ---- the walk

-- each of the types, one after the other
unfoldable pub met_each : List Ty → List Ty → List Ty
met_each [] us = us
met_each (t ∷ ts) us = met_each ts (met t us)
