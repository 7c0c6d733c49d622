use Rattle.meaning.specs.Base.{bytes, choose, test◌then◌else◌}
use Rattle.message.specs.Texts.{opening}
use Rattle.message.proofs.opening.Goals as goal

pub returns-in-Unknown : goal.returns-in-Unknown
unfolding opening choose test◌then◌else◌ bytes
returns-in-Unknown c = rw c.in-Unknown.is

pub returns-in-Int : goal.returns-in-Int
unfolding opening choose test◌then◌else◌ bytes
returns-in-Int c = rw c.in-Int.is

pub returns-in-Bool : goal.returns-in-Bool
unfolding opening choose test◌then◌else◌ bytes
returns-in-Bool c = rw c.in-Bool.is

pub returns-in-String : goal.returns-in-String
unfolding opening choose test◌then◌else◌ bytes
returns-in-String c = rw c.in-String.is

pub returns-in-Float : goal.returns-in-Float
unfolding opening choose test◌then◌else◌ bytes
returns-in-Float c = rw c.in-Float.is

pub returns-in-NoneType : goal.returns-in-NoneType
unfolding opening choose test◌then◌else◌ bytes
returns-in-NoneType c = rw c.in-NoneType.is

pub returns-in-Range : goal.returns-in-Range
unfolding opening choose test◌then◌else◌ bytes
returns-in-Range c = rw c.in-Range.is

pub returns-in-Function : goal.returns-in-Function
unfolding opening choose test◌then◌else◌ bytes
returns-in-Function c = rw c.in-Function.is

pub returns-in-List : goal.returns-in-List
unfolding opening choose test◌then◌else◌ bytes
returns-in-List c = rw c.in-List.is

pub returns-in-Dict : goal.returns-in-Dict
unfolding opening choose test◌then◌else◌ bytes
returns-in-Dict c = rw c.in-Dict.is

pub returns-in-Tuple : goal.returns-in-Tuple
unfolding opening choose test◌then◌else◌ bytes
returns-in-Tuple c = rw c.in-Tuple.is

pub returns-in-MapIter : goal.returns-in-MapIter
unfolding opening choose test◌then◌else◌ bytes
returns-in-MapIter c = rw c.in-MapIter.is

pub returns-in-FilterIter : goal.returns-in-FilterIter
unfolding opening choose test◌then◌else◌ bytes
returns-in-FilterIter c = rw c.in-FilterIter.is
