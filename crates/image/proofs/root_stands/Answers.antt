use Rattle.image.proofs.Open.{tests_open}
use Rattle.meaning.proofs.Nesting.{nodes_many}
use Rattle.std.proofs.lemmas.Bool.Decides.{nat_tests}
use native.Mathlib.Omega.{arith}
use Rattle.image.proofs.root_stands.Goals as goal

pub returns-then-d-eq-BLOCK : goal.returns-then-d-eq-BLOCK
unfolding tests_open
returns-then-d-eq-BLOCK c =
    rw (← c.node_at-d.ensures, nodes_many) (grind (arith, nat_tests))
