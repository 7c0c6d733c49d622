use Rattle.stmt.proofs.Leaves.{Entering}
use Rattle.meaning.specs.Image.{nodes_from}
use Prim.Native.Nat.{◌-◌}
use mathlib.Core.Path.{◌≡◌}
use Rattle.stmt.proofs.parameters.Given as goal

abbrev pub invariant-loop : goal.invariant-loop
invariant-loop l = Entering l.image l.initial.next.at l.n l.initial.rows l.rows l.top l.next.at (l.n - l.counter) × (l.next.nodes ≡ nodes_from l.image)
