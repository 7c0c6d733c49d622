-- The types that a walk has begun and not completed, the outermost first: open type k is a number of the table and the place of its next
-- part.
use Rattle.std.specs.Prelude.{◌≡◌, Bool, true, false, ◌⊎◌, List, ℕ, zero, suc, ◌+◌, ◌-◌, ◌*◌, ◌≤◌, ◌<◌, length, get_or, set, take}
use Rattle.meaning.specs.Limits.{most_types}
use Rattle.meaning.specs.Types.{Ty, parts}
use Rattle.meaning.specs.Sheet.{met}
use Rattle.meaning.proofs.SheetTypes.{Known}
use Rattle.types.specs.Table.{Tab, most_numbers, denote}
use Rattle.sheet.specs.declared.writer.Open.{Open}
use Rattle.sheet.specs.declared.writer.Marks.{Marks}
use Rattle.sheet.specs.Marks.{number_at, tab_of, types_in, Marked}

abbrev pub none_open : Open
none_open = record { ty = 0; next = 0 }

abbrev pub open_type : List Open → ℕ → ℕ
open_type ops k = (get_or ops k none_open).ty

abbrev pub next_part : List Open → ℕ → ℕ
next_part ops k = (get_or ops k none_open).next

abbrev pub parts_open : Tab → List Open → ℕ → List Ty
parts_open t ops k = parts (denote t (open_type ops k))

-- most tables have no more
abbrev pub few_types : ℕ
few_types = 64

-- type i is open type k, before its first part
abbrev pub begun_at : List Open → ℕ → ℕ → List Open
begun_at ops k i = set ops k (record { ty = i; next = 0 })

-- r tells whether type i is structured and has no number yet
pub record New (ms : Marks) (i : ℕ) (r : Bool) : Type 0 where
  pub yes : r ≡ true → (8 ≤ i) × (number_at ms i ≡ 1)
  pub no : r ≡ false → (i < 8) ⊎ (number_at ms i ≡ 1 → ⊥)

-- ---- d types are open

-- each lies within the one before, has no number yet, and its parts before the next one have theirs
pub record Opened (t : Tab) (ms : Marks) (ops : List Open) (d : ℕ) : Type 0 where
  pub marked : Marked t ms
  pub room : t.n ≤ length ops + 8
  pub high : (k : ℕ) → k < d → 8 ≤ open_type ops k
  pub within : (k : ℕ) → k < d → open_type ops k + k < t.n
  pub falls : (k l : ℕ) → k < l → l < d → open_type ops l < open_type ops k
  pub unmet : (k : ℕ) → k < d → number_at ms (open_type ops k) ≡ 1
  pub passed : (k : ℕ) → k < d → next_part ops k ≤ length (parts_open t ops k)
  pub known : (k : ℕ) → k < d → Known (types_in t ms) (take (next_part ops k) (parts_open t ops k))

-- the types met once all of them are completed, from us on
unfoldable pub unwound : Tab → List Open → ℕ → List Ty → List Ty
unwound t ops zero us = us
unwound t ops (suc d) us = unwound t ops d (met (denote t (open_type ops d)) us)

-- the parts left of the innermost one
unfoldable pub parts_left : Tab → List Open → ℕ → ℕ
parts_left t ops zero = 0
parts_left t ops (suc d) = length (parts_open t ops d) - next_part ops d

-- what a step makes less: types without a number count twice what open ones do, and these more than all parts of one
unfoldable pub work : Tab → Marks → List Open → ℕ → ℕ
work t ms ops d = suc most_numbers * (2 * (most_types - ms.met) + (most_types - d)) + parts_left t ops d

-- ---- the walk

-- the path has room for all structured types of the table
pub record OpenRoom (ms : Marks) (ops : List Open) : Type 0 where
  pub room : ms.counts.types ≤ length ops + 8

pub record Visiting (cs : List ℕ) (ms : Marks) (ops : List Open) (i : ℕ) : Type 0 where
  pub marked : Marked (tab_of cs ms) ms
  pub open_room : OpenRoom ms ops
  pub below : i < ms.counts.types

pub record Visited (cs : List ℕ) (ms ns : Marks) (i : ℕ) : Type 0 where
  pub marked : Marked (tab_of cs ms) ns
  pub met_is : types_in (tab_of cs ms) ns ≡ met (denote (tab_of cs ms) i) (types_in (tab_of cs ms) ms)

-- ---- one step of it

pub record Stepping (cs : List ℕ) (ms : Marks) (ops : List Open) (d : ℕ) : Type 0 where
  pub opened : Opened (tab_of cs ms) ms ops d
  pub some : 0 < d

pub record Stepped (cs : List ℕ) (ms ns : Marks) (ops new : List Open) (d e : ℕ) : Type 0 where
  pub long : length new ≡ length ops
  pub opened : Opened (tab_of cs ms) ns new e
  pub comes_to : unwound (tab_of cs ms) new e (types_in (tab_of cs ms) ns) ≡ unwound (tab_of cs ms) ops d (types_in (tab_of cs ms) ms)
  pub less : work (tab_of cs ms) ns new e < work (tab_of cs ms) ms ops d
