use Rattle.types.proofs.Readers.{first_told}
use Rattle.types.proofs.part_of.Goals as goal

pub returns : goal.returns
returns c =
    first_told _ _ _ c.field.ensures
