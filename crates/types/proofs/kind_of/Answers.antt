use Rattle.types.proofs.Readers.{kind_told}
use Rattle.types.proofs.kind_of.Goals as goal

pub returns : goal.returns
returns c =
    kind_told _ _ _ (rw c.cell.ensures at c.numbered.ensures)
