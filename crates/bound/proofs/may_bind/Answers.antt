use Rattle.bound.proofs.Marking.{marking_first, marking_end}
use Rattle.image.proofs.Records.{head_long}
use native.Mathlib.Omega.{arith}
use Rattle.bound.proofs.may_bind.Goals as goal

pub areas-l-requires : goal.areas-l-requires
areas-l-requires c =
    head_long c.requires.headed

pub loop-i-init : goal.loop-i-init
loop-i-init c =
    marking_first c.requires _

pub returns : goal.returns
returns c =
    marking_end c.loop-i.invariant (omega (arith, c.areas-l.ensures.count))
