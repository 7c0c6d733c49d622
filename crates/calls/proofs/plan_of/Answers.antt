use Rattle.image.proofs.Records.{head_long}
use Rattle.calls.proofs.Plans.{plan_builtin, plan_37, plan_function, plan_38, plan_none, plan_other}
use native.Mathlib.Omega.{arith}
use Rattle.calls.proofs.plan_of.Goals as goal

pub name_at-name-requires-clause-headed : goal.name_at-name-requires-clause-headed
name_at-name-requires-clause-headed c =
    c.requires.sound.headed

pub name_at-name-requires-clause-k_bound : goal.name_at-name-requires-clause-k_bound
name_at-name-requires-clause-k_bound c =
    c.requires.x_bound

pub areas-layout-requires : goal.areas-layout-requires
areas-layout-requires c =
    head_long c.requires.sound.headed

pub name_text-requires-clause-headed : goal.name_text-requires-clause-headed
name_text-requires-clause-headed c =
    c.requires.sound.headed

pub name_text-requires-clause-image_value : goal.name_text-requires-clause-image_value
name_text-requires-clause-image_value c =
    c.requires.sound.names

pub name_text-requires-clause-texts_value : goal.name_text-requires-clause-texts_value
name_text-requires-clause-texts_value c =
    (c.areas-layout.ensures.texts, c.requires.x_bound)

pub returns-then-not-admits : goal.returns-then-not-admits
returns-then-not-admits c =
    plan_37 _ _ _ c.name_at-name.ensures (omega arith) (omega arith) c.admits.ensures c.if-not-admits.true

pub returns-else-not-admits : goal.returns-else-not-admits
returns-else-not-admits c =
    plan_builtin _ _ _ c.name_at-name.ensures c.requires.sound c.requires.x_bound (omega arith) (omega arith) c.admits.ensures c.if-not-admits.false
    c.name_text.ensures c.builtin_of.ensures

pub returns-in-4 : goal.returns-in-4
returns-in-4 c =
    plan_38 _ _ _ c.name_at-name.ensures c.in-4.is c.if-count-name.true

pub returns-in_default : goal.returns-in_default
returns-in_default c =
    plan_function _ _ _ c.name_at-name.ensures c.in-4.is c.if-count-name.false

pub returns-in_default-2 : goal.returns-in_default-2
returns-in_default-2 c =
    plan_none _ _ _ c.name_at-name.ensures (omega arith)

pub returns-in_default-3 : goal.returns-in_default-3
returns-in_default-3 c =
    plan_other _ _ _ c.name_at-name.ensures (omega arith)
