use Rattle.meaning.specs.Base.{bytes, choose, test◌then◌else◌}
use Rattle.meaning.specs.Show.{dotted}
use Rattle.types.proofs.OfKind.{plain_left}
use Rattle.show.proofs.Lines.{no_dots}
use Rattle.show.proofs.dotted.Goals as goal

pub returns-in-List : goal.returns-in-List
unfolding dotted choose test◌then◌else◌ bytes
returns-in-List c = rw c.in-List.is

pub returns-in-Dict : goal.returns-in-Dict
unfolding dotted choose test◌then◌else◌ bytes
returns-in-Dict c = rw c.in-Dict.is

pub returns-in-Tuple : goal.returns-in-Tuple
unfolding dotted choose test◌then◌else◌ bytes
returns-in-Tuple c = rw c.in-Tuple.is

pub returns-in-MapIter : goal.returns-in-MapIter
unfolding dotted choose test◌then◌else◌ bytes
returns-in-MapIter c = rw c.in-MapIter.is

pub returns-in-FilterIter : goal.returns-in-FilterIter
unfolding dotted choose test◌then◌else◌ bytes
returns-in-FilterIter c = rw c.in-FilterIter.is

pub returns-in_default : goal.returns-in_default
returns-in_default c =
    let d = c.in_default in rw (no_dots _ (plain_left _ d.not-List d.not-Dict d.not-Tuple d.not-MapIter d.not-FilterIter))
