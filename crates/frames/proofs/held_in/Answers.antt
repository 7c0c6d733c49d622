use Rattle.frames.proofs.Laws.{held}
use Rattle.frames.proofs.held_in.Goals as goal

pub returns : goal.returns
returns c =
    held _ c.counted.ensures
