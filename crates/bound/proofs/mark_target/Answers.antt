use Rattle.bound.proofs.Marking.{variable_low, aiming_first, aiming_tuple, aiming_variable, aiming_other, aiming_end}
use Rattle.image.proofs.Here.{here, stop_up}
use native.Mathlib.Omega.{arith}
use Rattle.bound.proofs.mark_target.Goals as goal

pub loop-j-init : goal.loop-j-init
loop-j-init c =
    aiming_first _ _ _ _ c.requires.nodes_value.1

pub loop-j-preserved-in-28 : goal.loop-j-preserved-in-28
loop-j-preserved-in-28 c =
    aiming_tuple c.loop-j.invariant (here _ c.requires.sound (omega arith) c.node_at-node.ensures) c.loop-j-test.true c.in-28.is

pub bounds-marks-node : goal.bounds-marks-node
bounds-marks-node c =
    variable_low (here _ c.requires.sound (omega arith) c.node_at-node.ensures) c.in-21.is

pub loop-j-smaller-in-21 : goal.loop-j-smaller-in-21
loop-j-smaller-in-21 c =
    omega (arith, stop_up (here _ c.requires.sound (omega arith) c.node_at-node.ensures))

pub loop-j-preserved-in-21 : goal.loop-j-preserved-in-21
loop-j-preserved-in-21 c =
    aiming_variable c.loop-j.invariant (here _ c.requires.sound (omega arith) c.node_at-node.ensures) c.loop-j-test.true c.in-21.is

pub loop-j-smaller : goal.loop-j-smaller
loop-j-smaller c =
    omega (arith, stop_up (here _ c.requires.sound (omega arith) c.node_at-node.ensures))

pub loop-j-preserved : goal.loop-j-preserved
loop-j-preserved c =
    aiming_other c.loop-j.invariant (here _ c.requires.sound (omega arith) c.node_at-node.ensures) c.loop-j-test.true (omega arith) (omega arith)

pub returns : goal.returns
returns c =
    aiming_end c.loop-j.invariant (omega arith)
