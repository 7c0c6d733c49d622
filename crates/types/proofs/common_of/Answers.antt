use native.Mathlib.Omega.{arith}
use Rattle.types.proofs.Pieces.{part_long}
use Rattle.types.proofs.Sharing.{common_told}
use Rattle.types.proofs.common_of.Goals as goal

pub returns : goal.returns
returns c =
    common_told _ _ _ _ _ (omega (arith, c.base.ensures, c.field.ensures)) c.field-2.ensures (rw part_long at c.shared_of.ensures)
