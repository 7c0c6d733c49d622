use Rattle.meaning.specs.Base.{test◌then◌else◌}
use borrow.Author.Rules.{rules}
use Rattle.checker.proofs.Setting.is_plain.Goals as goal

pub returns-in-Plain : goal.returns-in-Plain
unfolding test◌then◌else◌
returns-in-Plain c = search rules

pub returns-in_default : goal.returns-in_default
unfolding test◌then◌else◌
returns-in_default c = search rules
