use Rattle.rules.proofs.Arguments.{sized_in, sized_none, sized_yes, sized_no}
use Rattle.rules.proofs.len.Goals as goal

pub returns-in-Unknown : goal.returns-in-Unknown
returns-in-Unknown c =
    sized_yes c.kind_of.ensures (sized_in c.in-Unknown.is)

pub returns-in_default : goal.returns-in_default
returns-in_default c =
    let d = c.in_default in
    rw c.refused.ensures (sized_no c.kind_of.ensures (sized_none _ d.not-Unknown d.not-String d.not-List d.not-Dict d.not-Tuple))
