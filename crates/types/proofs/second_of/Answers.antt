use Rattle.types.proofs.Readers.{second_told}
use Rattle.types.proofs.second_of.Goals as goal

pub returns : goal.returns
returns c =
    second_told _ _ _ c.field.ensures
