use Rattle.meaning.specs.Base.{choose, test◌then◌else◌}
use Rattle.types.specs.Table.{built, shaped}
use Rattle.nodes.proofs.dict_of.Goals as goal

pub returns : goal.returns
unfolding built shaped choose test◌then◌else◌
returns c =
    c.form-formed.ensures
