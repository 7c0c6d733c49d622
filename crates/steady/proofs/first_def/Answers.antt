use Rattle.steady.proofs.Passing.{passing_first, passing_inner, passing_if, passing_def, passing_block, passing_loop, passing_over, passing_found, passing_end}
use Rattle.image.proofs.Here.{here, stop_up}
use Rattle.image.proofs.Records.{head_long}
use mathlib.Core.Logic.{inl, inr}
use native.Mathlib.Omega.{arith}
use Rattle.steady.proofs.first_def.Goals as goal
use Rattle.steady.proofs.first_def.Goals.{then-until-i, else-until-i, in_default-via-then-node-lt8, in_default-via-else-node-lt8+else-node-lt11, in-12-1, in_default+else-node-lt8+then-node-lt11}

pub areas-l-requires : goal.areas-l-requires
areas-l-requires c =
    head_long c.requires.headed

pub loop-i-init : goal.loop-i-init
loop-i-init c =
    passing_first c.requires

pub loop-i-preserved-in-8-1 : goal.loop-i-preserved-in-8-1
loop-i-preserved-in-8-1 c =
    let h = here _ c.requires (omega (arith, c.areas-l.ensures.count)) c.node_at-node.ensures in
    elim c.if-until-i.branch [
      | then-until-i w ↦ rw w.until-is (passing_if c.loop-i.invariant h c.in-8.is w.if-until-i.true)
      | else-until-i w ↦ rw w.until-is (passing_inner c.loop-i.invariant h c.in-8.is (omega (arith, w.if-until-i.false)))
    ]

pub returns-then-i-until : goal.returns-then-i-until
returns-then-i-until c =
    passing_found c.loop-i.invariant (here _ c.requires (omega (arith, c.areas-l.ensures.count)) c.node_at-node.ensures) c.in-11.is c.if-i-until.true

pub loop-i-preserved-in-11-1 : goal.loop-i-preserved-in-11-1
loop-i-preserved-in-11-1 c =
    passing_def c.loop-i.invariant (here _ c.requires (omega (arith, c.areas-l.ensures.count)) c.node_at-node.ensures) c.in-11.is (omega (arith, c.if-i-until.false))

pub loop-i-smaller-in_default-1 : goal.loop-i-smaller-in_default-1
loop-i-smaller-in_default-1 c =
    omega (arith, stop_up (here _ c.requires (omega (arith, c.areas-l.ensures.count)) c.node_at-node.ensures), c.areas-l.ensures.count)

pub loop-i-preserved-in_default-1 : goal.loop-i-preserved-in_default-1
loop-i-preserved-in_default-1 c =
    let h = here _ c.requires (omega (arith, c.areas-l.ensures.count)) c.node_at-node.ensures in
    elim c.in_default.branch [
      | in_default-via-then-node-lt8 w ↦ passing_over c.loop-i.invariant h (λ q. omega arith) (λ q. omega arith) (λ q. omega arith) (inl (omega arith))
      | in_default-via-else-node-lt8+else-node-lt11 w ↦ passing_over c.loop-i.invariant h (λ q. omega arith) (λ q. omega arith) (λ q. omega arith) (inr (omega arith))
    ]

pub loop-i-preserved : goal.loop-i-preserved
loop-i-preserved c =
    let h = here _ c.requires (omega (arith, c.areas-l.ensures.count)) c.node_at-node.ensures in
    elim c.in-9-1.branch [
      | in-12-1 w ↦ passing_block c.loop-i.invariant h (omega arith)
      | in_default+else-node-lt8+then-node-lt11 w ↦ passing_loop c.loop-i.invariant h (omega arith) (omega arith)
    ]

pub returns : goal.returns
returns c =
    passing_end c.loop-i.invariant (omega (arith, c.areas-l.ensures.count))
