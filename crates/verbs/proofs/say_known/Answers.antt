use Rattle.verbs.proofs.Said.{says_known}
use Rattle.verbs.proofs.say_known.Goals as goal

pub returns : goal.returns
returns c =
    let all = says_known _ _ c.say_check-done.ensures.says c.steady.ensures c.put_known-length.ensures in
    record { says = all.0; length_in_bounds = all.1 }
