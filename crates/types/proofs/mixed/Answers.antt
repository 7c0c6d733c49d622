use Rattle.types.specs.Table.{step}
use borrow.Author.Rules.{rules}
use Rattle.types.proofs.mixed.Goals as goal

pub returns : goal.returns
unfolding step
returns c =
    search rules
