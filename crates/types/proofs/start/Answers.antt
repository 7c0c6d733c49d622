use Rattle.types.proofs.Writing.{started_none, started_more, started_wf}
use mathlib.Core.Path.{◌≡◌}
use native.Mathlib.Omega.{arith}
use Rattle.types.proofs.start.Goals as goal

pub loop-i-init : goal.loop-i-init
loop-i-init c =
    started_none c.requires

pub loop-i-preserved : goal.loop-i-preserved
loop-i-preserved c =
    started_more c.loop-i.invariant c.loop-i-test.true c.put.ensures

pub returns : goal.returns
returns c =
    let e : c.loop-i.i ≡ 8 = omega arith in started_wf _ (rw e at c.loop-i.invariant)
