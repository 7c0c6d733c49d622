-- What the functions that write leave behind.
use Rattle.std.specs.Prelude.{◌≡◌, ℕ, ◌+◌, ◌≤◌, List, ◌++◌, length, take, drop}

-- d with s written at a place: everything before and after is kept
unfoldable pub put_at : List ℕ → ℕ → List ℕ → List ℕ
put_at d at s = take at d ++ s ++ drop (at + length s) d

-- s was written into d at a place, and ends at another: e is what is there then
pub record Wrote (d : List ℕ) (at : ℕ) (s e : List ℕ) (end : ℕ) : Type 0 where
  pub same : e ≡ put_at d at s
  pub ends : end ≡ at + length s
  pub long : length e ≡ length d
  pub inside : end ≤ length e
