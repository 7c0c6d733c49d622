use Rattle.meaning.specs.Base.{◌and◌}
use Rattle.meaning.specs.Image.{node_stands}
use Rattle.meaning.proofs.Choices.{and_false}
use native.Mathlib.Omega.{arith}
use Rattle.std.proofs.lemmas.Bool.Decides.{nat_tests}
use Rattle.image.proofs.node_stands.Goals as goal

pub returns-else-stop-l : goal.returns-else-stop-l
unfolding node_stands ◌and◌
returns-else-stop-l c =
    rw (← c.node_at-d.ensures) (grind (arith, nat_tests, and_false))
