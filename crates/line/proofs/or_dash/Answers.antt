use mathlib.Core.Path.{sym, ◌∙◌}
use Rattle.meaning.specs.Base.{test◌then◌else◌, bytes}
use Rattle.line.specs.Printing.{or_dash}
use Rattle.line.proofs.or_dash.Goals as goal

pub returns-then-is_empty : goal.returns-then-is_empty
unfolding or_dash test◌then◌else◌ bytes
returns-then-is_empty c = rw (sym c.is_empty.ensures ∙ c.if-is_empty.true)

pub returns-else-is_empty : goal.returns-else-is_empty
unfolding or_dash test◌then◌else◌
returns-else-is_empty c = rw (sym c.is_empty.ensures ∙ c.if-is_empty.false)
