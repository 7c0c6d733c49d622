use mathlib.Core.Path.{refl}
use Rattle.nodes.proofs.Deciding.{streams_gives}
use Rattle.nodes.proofs.streamed.Goals as goal

pub returns : goal.returns
returns c =
    streams_gives c.requires c.stream-made.ensures record { ret = refl; top = refl; coded = λ e. absurd e } c.settle.ensures
