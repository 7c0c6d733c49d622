use Rattle.message.proofs.Naming.{arity_number, arity_equal, arity_range, arity_any, arity_function, arity_none}
use mathlib.Core.Logic.{⊎_elim, inl, inr}
use native.Mathlib.Omega.{arith}
use Rattle.message.proofs.arity.Goals as goal

pub returns-then-r : goal.returns-then-r
returns-then-r c =
    arity_equal _ _ c.record_of-r.ensures c.in-2.is c.if-r.true

pub returns-in-1 : goal.returns-in-1
returns-in-1 c =
    ⊎_elim (arity_number _ _ c.record_of-r.ensures) (arity_function _ _ c.record_of-r.ensures) c.in-1.is

pub returns-else-r : goal.returns-else-r
returns-else-r c =
    arity_range _ _ c.record_of-r.ensures c.in-2.is c.if-r.false

pub returns-in-3 : goal.returns-in-3
returns-in-3 c =
    arity_any _ _ c.record_of-r.ensures c.in-3.is

pub returns-in_default : goal.returns-in_default
returns-in_default c =
    arity_none _ _ c.record_of-r.ensures (λ e. c.in_default.in_default-own.rest.0.0.1 (inl e)) (omega arith) (omega arith) (λ e. c.in_default.in_default-own.rest.0.0.1 (inr e))
