-- The numbers of the codes of typing refusals, as document 01 has them.
use Rattle.std.specs.Prelude.{◌≡◌, ℕ, ◌<◌, ◌⊎◌, Result, Ok, Err}
use Rattle.codes.specs.declared.Code.{Code}
use Rattle.codes.specs.declared.NoCode.{NoCode}
use Rattle.codes.specs.declared.Code.TheVariants.{Break, Continue, InconsistentReturn, IncompatibleBranches, NotIterable, CannotAssign, UnpackLength, UnpackNonIterable, InvalidTarget, Plus, Times, Compare, Equality, NumericPair, IntOrFloat, ExpectedBool, Condition, BuiltinArity, FunctionArity, Input, Len, Range, MapFirst, MapSecond, FilterFirst, FilterSecond, ListIndex, DictKey, TupleIndex, StringIndex, NotSubscriptable}

abbrev pub code_number : Code → ℕ
code_number Break = 20
code_number Continue = 21
code_number InconsistentReturn = 22
code_number IncompatibleBranches = 23
code_number NotIterable = 24
code_number CannotAssign = 25
code_number UnpackLength = 26
code_number UnpackNonIterable = 27
code_number InvalidTarget = 28
code_number Plus = 29
code_number Times = 30
code_number Compare = 31
code_number Equality = 32
code_number NumericPair = 33
code_number IntOrFloat = 34
code_number ExpectedBool = 35
code_number Condition = 36
code_number BuiltinArity = 37
code_number FunctionArity = 38
code_number Input = 39
code_number Len = 40
code_number Range = 41
code_number MapFirst = 42
code_number MapSecond = 43
code_number FilterFirst = 44
code_number FilterSecond = 45
code_number ListIndex = 46
code_number DictKey = 47
code_number TupleIndex = 48
code_number StringIndex = 49
code_number NotSubscriptable = 50

-- a number as a code: the one that has it, or none, below 20 and above 50
abbrev pub CodeOf : ℕ → Result Code NoCode → Type 0
CodeOf n (Ok c) = code_number c ≡ n
CodeOf n (Err e) = (n < 20) ⊎ (50 < n)
