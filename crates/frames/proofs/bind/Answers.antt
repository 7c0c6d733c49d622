use Rattle.frames.proofs.Laws.{bound}
use Rattle.frames.proofs.bind.Goals as goal

pub returns : goal.returns
returns c =
    bound _ c.cell_of.ensures.0 c.cell_of.ensures.1
