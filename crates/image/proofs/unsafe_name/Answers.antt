use Rattle.image.proofs.Searches.{first_end}
use Rattle.meaning.proofs.Nesting.{names_many}
use Rattle.meaning.specs.Image.{Name, names_of, safe}
use Prim.Native.Nat.{ℕ, ◌≤◌}
use lib.ListN.{length}
use mathlib.Core.Path.{sym, ◌∙◌}
use native.Mathlib.Omega.{arith}
use Rattle.image.proofs.unsafe_name.Goals as goal

pub returns : goal.returns
returns c =
    let bs = c.args.image.now in
    let done : length (names_of bs) ≤ c.loop-k.k = rw names_many (omega (arith, c.requires.laid.names)) in
    sym (first_end (λ (i : ℕ) (w : Name). safe w) (names_of bs) c.loop-k.k done) ∙ c.loop-k.invariant
