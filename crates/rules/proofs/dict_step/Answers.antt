use Rattle.rules.proofs.Steps.{dict_goes_on, dict_stops}
use Rattle.rules.proofs.dict_step.Goals as goal

pub returns-then-value-ne-UNKNOWN : goal.returns-then-value-ne-UNKNOWN
returns-then-value-ne-UNKNOWN c =
    dict_goes_on c.joined_of-key.ensures c.joined_of-value.ensures c.if-value-ne-UNKNOWN.either

pub returns-else-value-ne-UNKNOWN : goal.returns-else-value-ne-UNKNOWN
returns-else-value-ne-UNKNOWN c =
    dict_stops c.joined_of-key.ensures c.joined_of-value.ensures c.if-value-ne-UNKNOWN.false
