use Rattle.bound.proofs.Marking.{for_low, target_in, step_assign, step_for, step_block, step_branch, step_over}
use Rattle.image.proofs.Here.{here, stop_in}
use Rattle.meaning.proofs.Faults.{sizes}
use mathlib.Core.Logic.{inl, inr}
use native.Mathlib.Omega.{arith}
use Rattle.bound.proofs.mark_node.Goals as goal
use Rattle.bound.proofs.mark_node.Goals.{in_default-via-then-node-lt8, in_default-via-else-node-lt8+else-node-lt10, in-12-1, in_default+else-node-lt8+then-node-lt10}

pub overflow_add-i : goal.overflow_add-i
overflow_add-i c =
    omega (arith, (sizes c.requires.sound.headed).nodes)

pub node_at-target-requires-clause-nodes_value : goal.node_at-target-requires-clause-nodes_value
node_at-target-requires-clause-nodes_value c =
    (c.requires.nodes_value.0, (target_in (here _ c.requires.sound c.requires.nodes_value.1 c.node_at-node.ensures) c.in-5.is))

pub overflow_add-i-in-5 : goal.overflow_add-i-in-5
overflow_add-i-in-5 c =
    omega (arith, (sizes c.requires.sound.headed).nodes)

pub mark_target-requires-clause-nodes_value : goal.mark_target-requires-clause-nodes_value
mark_target-requires-clause-nodes_value c =
    (c.requires.nodes_value.0, stop_in (here _ c.requires.sound (target_in (here _ c.requires.sound c.requires.nodes_value.1 c.node_at-node.ensures) c.in-5.is) c.node_at-target.ensures))

pub bounds-marks-node : goal.bounds-marks-node
bounds-marks-node c =
    for_low (here _ c.requires.sound c.requires.nodes_value.1 c.node_at-node.ensures) c.in-10.is

pub overflow_add-result : goal.overflow_add-result
overflow_add-result c =
    omega (arith, (sizes c.requires.sound.headed).nodes)

pub overflow_add-result-in-8 : goal.overflow_add-result-in-8
overflow_add-result-in-8 c =
    omega (arith, (sizes c.requires.sound.headed).nodes)

pub returns-in-5 : goal.returns-in-5
returns-in-5 c =
    step_assign (here _ c.requires.sound c.requires.nodes_value.1 c.node_at-node.ensures) _ c.in-5.is (here _ c.requires.sound (target_in (here _ c.requires.sound c.requires.nodes_value.1 c.node_at-node.ensures) c.in-5.is) c.node_at-target.ensures) c.mark_target.ensures

pub returns-in-10 : goal.returns-in-10
returns-in-10 c =
    step_for (here _ c.requires.sound c.requires.nodes_value.1 c.node_at-node.ensures) _ c.in-10.is

pub returns-in_default : goal.returns-in_default
returns-in_default c =
    let h = here _ c.requires.sound c.requires.nodes_value.1 c.node_at-node.ensures in
    elim c.in_default.branch [
      | in_default-via-then-node-lt8 w ↦ step_over h _ (λ q. omega arith) (λ q. omega arith) (λ q. omega arith) (inl (omega arith))
      | in_default-via-else-node-lt8+else-node-lt10 w ↦ step_over h _ (λ q. omega arith) (λ q. omega arith) (λ q. omega arith) (inr (omega arith))
    ]

pub returns-in-8 : goal.returns-in-8
returns-in-8 c =
    let h = here _ c.requires.sound c.requires.nodes_value.1 c.node_at-node.ensures in
    elim c.in-8-1.branch [
      | in-12-1 w ↦ step_block h _ (omega arith)
      | in_default+else-node-lt8+then-node-lt10 w ↦ step_branch h _ (omega arith) (omega arith)
    ]
