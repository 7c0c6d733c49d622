use mathlib.Core.Path.{refl}
use Rattle.types.specs.Table.{capacity}
use Rattle.types.proofs.base.Goals as goal

pub returns : goal.returns
unfolding capacity
returns c =
    refl
