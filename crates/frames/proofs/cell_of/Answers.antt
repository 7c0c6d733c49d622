use mathlib.Core.Path.{refl}
use Rattle.frames.proofs.Laws.{cell_made}
use Rattle.frames.proofs.cell_of.Goals as goal

pub returns : goal.returns
returns c =
    cell_made c.args.b _ _ c.number_of.ensures.0 refl c.requires.0
