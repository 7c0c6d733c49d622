use Rattle.frames.proofs.Laws.{number_node}
use Rattle.frames.proofs.first_of.Goals as goal

pub returns : goal.returns
returns c =
    number_node _ c.counted.ensures
