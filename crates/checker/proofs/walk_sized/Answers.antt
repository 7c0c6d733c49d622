use Rattle.checker.proofs.Lending.{lent}
use Rattle.checker.proofs.walk_sized.Goals as goal

pub walk_in-requires : goal.walk_in-requires
walk_in-requires g c =
    lent c.requires
