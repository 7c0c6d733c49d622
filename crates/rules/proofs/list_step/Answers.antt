use Rattle.rules.proofs.Steps.{list_goes_on, list_stops}
use Rattle.rules.proofs.list_step.Goals as goal

pub returns-then-so_far-next : goal.returns-then-so_far-next
returns-then-so_far-next c =
    list_goes_on _ _ c.if-so_far-next.either

pub returns-else-so_far-next : goal.returns-else-so_far-next
returns-else-so_far-next c =
    list_stops _ _ c.if-so_far-next.false
