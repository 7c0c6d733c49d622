use Rattle.rules.proofs.Streaming.{filter_made, map_made}
use Rattle.rules.proofs.iterator.Goals as goal

pub returns-then-filters : goal.returns-then-filters
returns-then-filters c =
    filter_made _ _ c.if-filters.true c.form.ensures

pub returns-else-filters : goal.returns-else-filters
returns-else-filters c =
    map_made _ _ c.requires.wf c.if-filters.false c.form-else-filters.ensures
