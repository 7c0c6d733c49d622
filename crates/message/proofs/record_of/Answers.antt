use Rattle.image.proofs.Records.{head_long}
use Rattle.message.proofs.Naming.{record_none}
use native.Mathlib.Omega.{arith}
use Rattle.message.proofs.record_of.Goals as goal

pub areas-requires : goal.areas-requires
areas-requires c =
    head_long c.requires

pub name_at-requires-clause-headed : goal.name_at-requires-clause-headed
name_at-requires-clause-headed c =
    c.requires

pub name_at-requires-clause-k_bound : goal.name_at-requires-clause-k_bound
name_at-requires-clause-k_bound c =
    omega (arith, c.areas.ensures.names, c.if-a-areas.true)

pub returns : goal.returns
returns c =
    record_none _ _ (omega (arith, c.areas.ensures.names, c.if-a-areas.false))
