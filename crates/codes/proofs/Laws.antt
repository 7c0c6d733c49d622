-- The codes of typing refusals are 20 to 50, and each has a number of its own.
use Rattle.std.proofs.Common.{◌≡◌, ℕ, ◌-◌, ◌≤◌, [], ◌∷◌, get_or, refl, sym, ap, ◌∙◌, arith}
use Rattle.codes.specs.declared.Code.{Code}
use Rattle.codes.specs.declared.Code.TheVariants.{Break, Continue, InconsistentReturn, IncompatibleBranches, NotIterable, CannotAssign, UnpackLength, UnpackNonIterable, InvalidTarget, Plus, Times, Compare, Equality, NumericPair, IntOrFloat, ExpectedBool, Condition, BuiltinArity, FunctionArity, Input, Len, Range, MapFirst, MapSecond, FilterFirst, FilterSecond, ListIndex, DictKey, TupleIndex, StringIndex, NotSubscriptable}
use Rattle.codes.specs.Codes.{code_number}

pub code_range : (c : Code) → (20 ≤ code_number c) × (code_number c ≤ 50)
code_range Break = (omega arith, omega arith)
code_range Continue = (omega arith, omega arith)
code_range InconsistentReturn = (omega arith, omega arith)
code_range IncompatibleBranches = (omega arith, omega arith)
code_range NotIterable = (omega arith, omega arith)
code_range CannotAssign = (omega arith, omega arith)
code_range UnpackLength = (omega arith, omega arith)
code_range UnpackNonIterable = (omega arith, omega arith)
code_range InvalidTarget = (omega arith, omega arith)
code_range Plus = (omega arith, omega arith)
code_range Times = (omega arith, omega arith)
code_range Compare = (omega arith, omega arith)
code_range Equality = (omega arith, omega arith)
code_range NumericPair = (omega arith, omega arith)
code_range IntOrFloat = (omega arith, omega arith)
code_range ExpectedBool = (omega arith, omega arith)
code_range Condition = (omega arith, omega arith)
code_range BuiltinArity = (omega arith, omega arith)
code_range FunctionArity = (omega arith, omega arith)
code_range Input = (omega arith, omega arith)
code_range Len = (omega arith, omega arith)
code_range Range = (omega arith, omega arith)
code_range MapFirst = (omega arith, omega arith)
code_range MapSecond = (omega arith, omega arith)
code_range FilterFirst = (omega arith, omega arith)
code_range FilterSecond = (omega arith, omega arith)
code_range ListIndex = (omega arith, omega arith)
code_range DictKey = (omega arith, omega arith)
code_range TupleIndex = (omega arith, omega arith)
code_range StringIndex = (omega arith, omega arith)
code_range NotSubscriptable = (omega arith, omega arith)

pub least_code : (c : Code) → 20 ≤ code_number c
least_code c = (code_range c).0

-- the code of a number
pub code_of : ℕ → Code
code_of n =
    get_or
    (Break ∷ Continue ∷ InconsistentReturn ∷ IncompatibleBranches ∷ NotIterable ∷ CannotAssign ∷ UnpackLength ∷ UnpackNonIterable ∷ InvalidTarget ∷ Plus ∷ Times ∷ Compare ∷ Equality ∷ NumericPair ∷ IntOrFloat ∷ ExpectedBool ∷ Condition ∷ BuiltinArity ∷ FunctionArity ∷ Input ∷ Len ∷ Range ∷ MapFirst ∷ MapSecond ∷ FilterFirst ∷ FilterSecond ∷ ListIndex ∷ DictKey ∷ TupleIndex ∷ StringIndex ∷ NotSubscriptable ∷ [])
    (n - 20)
    Break

pub code_again : (c : Code) → code_of (code_number c) ≡ c
unfolding code_of
code_again Break = refl
code_again Continue = refl
code_again InconsistentReturn = refl
code_again IncompatibleBranches = refl
code_again NotIterable = refl
code_again CannotAssign = refl
code_again UnpackLength = refl
code_again UnpackNonIterable = refl
code_again InvalidTarget = refl
code_again Plus = refl
code_again Times = refl
code_again Compare = refl
code_again Equality = refl
code_again NumericPair = refl
code_again IntOrFloat = refl
code_again ExpectedBool = refl
code_again Condition = refl
code_again BuiltinArity = refl
code_again FunctionArity = refl
code_again Input = refl
code_again Len = refl
code_again Range = refl
code_again MapFirst = refl
code_again MapSecond = refl
code_again FilterFirst = refl
code_again FilterSecond = refl
code_again ListIndex = refl
code_again DictKey = refl
code_again TupleIndex = refl
code_again StringIndex = refl
code_again NotSubscriptable = refl

pub same_code : (c d : Code) → code_number c ≡ code_number d → c ≡ d
same_code c d e = sym (code_again c) ∙ ap code_of e ∙ code_again d
