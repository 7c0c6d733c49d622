use mathlib.Core.Path.{refl}
use Rattle.types.specs.Table.{capacity, slot_of}
use Rattle.types.proofs.slot_of.Goals as goal

pub returns : goal.returns
unfolding capacity slot_of
returns c =
    refl
