use Rattle.meaning.specs.Base.{bytes, choose, test◌then◌else◌}
use Rattle.meaning.specs.Message.{template}
use Rattle.message.proofs.formats.format_of.Goals as goal

pub returns-in-Break : goal.returns-in-Break
unfolding template choose test◌then◌else◌ bytes
returns-in-Break c = rw c.in-Break.is

pub returns-in-Continue : goal.returns-in-Continue
unfolding template choose test◌then◌else◌ bytes
returns-in-Continue c = rw c.in-Continue.is

pub returns-in-InconsistentReturn : goal.returns-in-InconsistentReturn
unfolding template choose test◌then◌else◌ bytes
returns-in-InconsistentReturn c = rw c.in-InconsistentReturn.is

pub returns-in-IncompatibleBranches : goal.returns-in-IncompatibleBranches
unfolding template choose test◌then◌else◌ bytes
returns-in-IncompatibleBranches c = rw c.in-IncompatibleBranches.is

pub returns-in-NotIterable : goal.returns-in-NotIterable
unfolding template choose test◌then◌else◌ bytes
returns-in-NotIterable c = rw c.in-NotIterable.is

pub returns-in-CannotAssign : goal.returns-in-CannotAssign
unfolding template choose test◌then◌else◌ bytes
returns-in-CannotAssign c = rw c.in-CannotAssign.is

pub returns-in-UnpackLength : goal.returns-in-UnpackLength
unfolding template choose test◌then◌else◌ bytes
returns-in-UnpackLength c = rw c.in-UnpackLength.is

pub returns-in-UnpackNonIterable : goal.returns-in-UnpackNonIterable
unfolding template choose test◌then◌else◌ bytes
returns-in-UnpackNonIterable c = rw c.in-UnpackNonIterable.is

pub returns-in-InvalidTarget : goal.returns-in-InvalidTarget
unfolding template choose test◌then◌else◌ bytes
returns-in-InvalidTarget c = rw c.in-InvalidTarget.is

pub returns-in-Plus : goal.returns-in-Plus
unfolding template choose test◌then◌else◌ bytes
returns-in-Plus c = rw c.in-Plus.is

pub returns-in-Times : goal.returns-in-Times
unfolding template choose test◌then◌else◌ bytes
returns-in-Times c = rw c.in-Times.is

pub returns-in-Compare : goal.returns-in-Compare
unfolding template choose test◌then◌else◌ bytes
returns-in-Compare c = rw c.in-Compare.is

pub returns-in-Equality : goal.returns-in-Equality
unfolding template choose test◌then◌else◌ bytes
returns-in-Equality c = rw c.in-Equality.is

pub returns-in-NumericPair : goal.returns-in-NumericPair
unfolding template choose test◌then◌else◌ bytes
returns-in-NumericPair c = rw c.in-NumericPair.is

pub returns-in-IntOrFloat : goal.returns-in-IntOrFloat
unfolding template choose test◌then◌else◌ bytes
returns-in-IntOrFloat c = rw c.in-IntOrFloat.is

pub returns-in-ExpectedBool : goal.returns-in-ExpectedBool
unfolding template choose test◌then◌else◌ bytes
returns-in-ExpectedBool c = rw c.in-ExpectedBool.is

pub returns-in-Condition : goal.returns-in-Condition
unfolding template choose test◌then◌else◌ bytes
returns-in-Condition c = rw c.in-Condition.is

pub returns-in-BuiltinArity : goal.returns-in-BuiltinArity
unfolding template choose test◌then◌else◌ bytes
returns-in-BuiltinArity c = rw c.in-BuiltinArity.is

pub returns-in-FunctionArity : goal.returns-in-FunctionArity
unfolding template choose test◌then◌else◌ bytes
returns-in-FunctionArity c = rw c.in-FunctionArity.is

pub returns-in-Input : goal.returns-in-Input
unfolding template choose test◌then◌else◌ bytes
returns-in-Input c = rw c.in-Input.is

pub returns-in-Len : goal.returns-in-Len
unfolding template choose test◌then◌else◌ bytes
returns-in-Len c = rw c.in-Len.is

pub returns-in-Range : goal.returns-in-Range
unfolding template choose test◌then◌else◌ bytes
returns-in-Range c = rw c.in-Range.is

pub returns-in-MapFirst : goal.returns-in-MapFirst
unfolding template choose test◌then◌else◌ bytes
returns-in-MapFirst c = rw c.in-MapFirst.is

pub returns-in-MapSecond : goal.returns-in-MapSecond
unfolding template choose test◌then◌else◌ bytes
returns-in-MapSecond c = rw c.in-MapSecond.is

pub returns-in-FilterFirst : goal.returns-in-FilterFirst
unfolding template choose test◌then◌else◌ bytes
returns-in-FilterFirst c = rw c.in-FilterFirst.is

pub returns-in-FilterSecond : goal.returns-in-FilterSecond
unfolding template choose test◌then◌else◌ bytes
returns-in-FilterSecond c = rw c.in-FilterSecond.is

pub returns-in-ListIndex : goal.returns-in-ListIndex
unfolding template choose test◌then◌else◌ bytes
returns-in-ListIndex c = rw c.in-ListIndex.is

pub returns-in-DictKey : goal.returns-in-DictKey
unfolding template choose test◌then◌else◌ bytes
returns-in-DictKey c = rw c.in-DictKey.is

pub returns-in-TupleIndex : goal.returns-in-TupleIndex
unfolding template choose test◌then◌else◌ bytes
returns-in-TupleIndex c = rw c.in-TupleIndex.is

pub returns-in-StringIndex : goal.returns-in-StringIndex
unfolding template choose test◌then◌else◌ bytes
returns-in-StringIndex c = rw c.in-StringIndex.is

pub returns-in-NotSubscriptable : goal.returns-in-NotSubscriptable
unfolding template choose test◌then◌else◌ bytes
returns-in-NotSubscriptable c = rw c.in-NotSubscriptable.is
