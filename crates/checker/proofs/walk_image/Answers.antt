use Rattle.image.proofs.Records.{head_long}
use Rattle.meaning.proofs.Faults.{sizes}
use native.Mathlib.Omega.{arith}
use Rattle.checker.proofs.walk_image.Goals as goal

pub areas-l-requires : goal.areas-l-requires
areas-l-requires c =
    head_long c.requires.headed

pub walk_sized-requires-else-l-le-SOME : goal.walk_sized-requires-else-l-le-SOME
walk_sized-requires-else-l-le-SOME c =
    let few = (sizes c.requires.headed).nodes in
    record { sound = c.requires; nodes_at = c.areas-l.ensures.nodes; room = omega arith; most = omega arith }
