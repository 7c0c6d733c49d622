use Rattle.types.proofs.Readers.{element_told}
use native.Mathlib.Omega.{arith}
use Rattle.types.proofs.element_at.Goals as goal

pub returns : goal.returns
returns c =
    element_told _ _ _ _ _ c.requires (omega (arith, c.base.ensures, c.field.ensures)) c.cell.ensures
