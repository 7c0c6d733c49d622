-- What a node of an expression gives: a type of a table, or a typing refusal.
use Rattle.std.specs.Prelude.{◌≡◌, List, ℕ, ◌+◌, ◌≤◌, ◌<◌}
use Rattle.meaning.specs.Image.{Name}
use Rattle.meaning.specs.Message.{refusal}
use Rattle.meaning.specs.Operators.{Checked, ok, refused}
use Rattle.types.specs.Table.{Tab, denote, Grown}
use Rattle.rules.specs.Outcome.{types_named, pieces}

-- r is `good` where the code is 0, and else the refusal that the numbers stand for, over the table u; its place is one of M nodes
pub record Told (ws : List Name) (r good : Checked) (u : Tab) (M code place a b : ℕ) : Type 0 where
  pub well : code ≡ 0 → r ≡ good
  pub ill : (code ≡ 0 → ⊥) → r ≡ refused (refusal code place (pieces ws u code a b))
  pub first : 1 ≤ types_named code → a < u.n
  pub second : 2 ≤ types_named code → b < u.n
  pub small : (code ≡ 0 → ⊥) → types_named code ≡ 0 → (a < 4294967296) × (b < 4294967296)
  pub placed : (code ≡ 0 → ⊥) → place < M

-- r is the type of a number of the table u, or a refusal; u is t with at most one type and so many elements more
pub record Given (ws : List Name) (r : Checked) (t u : Tab) (spent M code place number a b : ℕ) : Type 0 where
  pub told : Told ws r (ok (denote u number)) u M code place a b
  pub below : code ≡ 0 → number < u.n
  pub grown : Grown t u
  pub room : u.n ≤ t.n + 1
  pub space : u.m ≤ t.m + spent
