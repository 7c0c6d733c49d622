-- What is noted while a program is walked: how many types and elements the table has; the code, the node and the two numbers of the last
-- refusal, and where a 25 or 23 points besides; the return type so far and the newest frame.
use Rattle.std.specs.Prelude.{◌≡◌, Option, Some, None, List, ℕ}
use Rattle.types.specs.Table.{Tab, tab}
use Rattle.types.specs.declared.Counts.{Counts}
use Rattle.frames.specs.Env.{First}
use Rattle.state.specs.declared.Notes.{Notes}

abbrev pub types_in : Notes → ℕ
types_in ns = ns.counts.types

abbrev pub elements_in : Notes → ℕ
elements_in ns = ns.counts.elements

-- 0 before there is one
abbrev pub code_told : Option ℕ → ℕ
code_told None = 0
code_told (Some c) = c

abbrev pub code_in : Notes → ℕ
code_in ns = code_told ns.code

abbrev pub place_in : Notes → ℕ
place_in ns = ns.place

abbrev pub first_in : Notes → ℕ
first_in ns = ns.first

abbrev pub second_in : Notes → ℕ
second_in ns = ns.second

abbrev pub ret_in : Notes → ℕ
ret_in ns = ns.returns

abbrev pub top_in : Notes → ℕ
top_in ns = ns.top

abbrev pub since_in : Notes → First
since_in ns = ns.since

-- where a refusal points: its node, and its first node as it is noted, which means something with 25 and 23 alone
pub record Places : Type 0 where
  pub here : ℕ
  pub since : First

abbrev pub places : ℕ → First → Places
places n m = record { here = n; since = m }

abbrev pub places_in : Notes → Places
places_in ns = places (place_in ns) (since_in ns)

-- the table of these cells, by its counts; and by the counts that are noted
abbrev pub tab_of : List ℕ → Counts → Tab
tab_of cells n = tab cells n.types n.elements

abbrev pub tab_in : List ℕ → Notes → Tab
tab_in cells ns = tab_of cells ns.counts

-- what a function leaves of them: if it refused, there is a code
pub record Kept (ns ms : Notes) (refused : Type 0) : Type 0 where
  pub ret : ret_in ms ≡ ret_in ns
  pub top : top_in ms ≡ top_in ns
  pub coded : refused → code_in ms ≡ 0 → ⊥

-- a refusal is noted: its node and numbers
pub record Refused (ns ms : Notes) (code place a b : ℕ) : Type 0 where
  pub counts : ms.counts ≡ ns.counts
  pub coded : code_in ms ≡ code
  pub placed : place_in ms ≡ place
  pub first : first_in ms ≡ a
  pub second : second_in ms ≡ b
  pub ret : ret_in ms ≡ ret_in ns
  pub top : top_in ms ≡ top_in ns

-- the same, and its first node is noted
pub record Conflicted (ns ms : Notes) (code place : ℕ) (first : First) (a b : ℕ) : Type 0 where
  pub refused : Refused ns ms code place a b
  pub since : since_in ms ≡ first
