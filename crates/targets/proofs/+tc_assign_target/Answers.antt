use Rattle.image.proofs.Moving.{parent_of, stops}
use Rattle.meaning.proofs.Faults.{sizes}
use Rattle.state.proofs.Noting.{is_noted, code_well, kept_none, kept_ok, kept_trans, settled_err, settled_ill, settled_ok}
use Rattle.std.specs.Prelude.{None}
use Rattle.targets.proofs.Answers.{settled_ends}
use Rattle.targets.proofs.Endings.{assigned_well}
use Rattle.targets.proofs.Singles.{only_checked, single_checked, single_name, single_other, small_name}
use Rattle.targets.proofs.Targets.{child_inside, levels_left, loop_at, loop_end, loop_first, loop_next, loop_ready, loop_sharing, loop_wrong, part_below, targets_within, tuple_assigned, tuple_refused}
use mathlib.Core.Path.{◌∙◌, refl, sym}
use native.Mathlib.Numerals.{add-one}
use native.Mathlib.Omega.{arith}
use Rattle.targets.proofs.+tc_assign_target.Goals as goal

pub assign_each-loop-j-init : goal.assign_each-loop-j-init
assign_each-loop-j-init t c =
    (loop_first c.requires.0 c.requires.1.0 c.requires.1.1.0 c.requires.1.1.1 c.next.ensures, kept_none (λ e. e), refl)

pub assign_each-part_for-part-requires : goal.assign_each-part_for-part-requires
assign_each-part_for-part-requires t c = loop_sharing c.loop-j.invariant.0 (omega arith)

pub assign_each-tc_assign_target-requires : goal.assign_each-tc_assign_target-requires
assign_each-tc_assign_target-requires t c =
    (omega (arith, c.decreases), (rw c.loop-j.invariant.2 (loop_ready c.loop-j.invariant.0 (omega arith)), (loop_at c.loop-j.invariant.0 (omega arith), part_below c.loop-j.invariant.0 (omega arith) c.part_for-part.ensures)))

pub assign_each-returns-in_err-tc_assign_target : goal.assign_each-returns-in_err-tc_assign_target
assign_each-returns-in_err-tc_assign_target t c =
    let d = rw c.in_err-tc_assign_target.was at c.tc_assign_target.ensures in
    rw (is_noted _ c.from_residual.ensures.0, ← (parent_of c.next.ensures)) (loop_wrong c.loop-j.invariant.0 (omega arith) c.part_for-part.ensures d.0 (d.1.coded refl), kept_trans c.loop-j.invariant.1 d.1)

pub assign_each-loop-j-preserved : goal.assign_each-loop-j-preserved
assign_each-loop-j-preserved t c = (
  loop_next c.loop-j.invariant.0 (omega arith) c.part_for-part.ensures c.tc_assign_target.ensures.0 (code_well _ c.in_ok-tc_assign_target.was) _ _ (stops c.over.ensures) (add-one _),
  kept_ok (λ e. e) (kept_trans c.loop-j.invariant.1 c.tc_assign_target.ensures.1),
  c.over.ensures.nodes ∙ sym c.loop-j.invariant.0.ready.nodes_at,
)

pub assign_each-returns : goal.assign_each-returns
assign_each-returns t c =
    (rw (← (parent_of c.next.ensures)) (loop_end c.loop-j.invariant.0 (omega arith) refl), kept_ok (λ e. cc) c.loop-j.invariant.1)

pub tc_assign_target-assign_name-requires : goal.tc_assign_target-assign_name-requires
tc_assign_target-assign_name-requires t c =
    let r = c.requires.0 in
    (r.fit.high, omega (arith, (sizes r.sound.headed).nodes, c.requires.1.0.there), small_name c.requires.0 c.requires.1.0 c.requires.1.1 _ c.next.ensures.node c.in-21.is, omega (arith, c.requires.1.1, r.wf.room, r.wf.most))

pub tc_assign_target-returns-in-21 : goal.tc_assign_target-returns-in-21
tc_assign_target-returns-in-21 t c =
    settled_ends c.assign_name.ensures.settled (single_name c.requires.0 c.requires.1.0 c.requires.1.1 _ c.next.ensures.node c.in-21.is c.assign_name.ensures.written)

pub tc_assign_target-tc_expr-requires : goal.tc_assign_target-tc_expr-requires
tc_assign_target-tc_expr-requires t c = (c.requires.0, c.requires.1.0)

pub tc_assign_target-returns-in_err-tc_expr-in-25 : goal.tc_assign_target-returns-in_err-tc_expr-in-25
tc_assign_target-returns-in_err-tc_expr-in-25 t c =
    let d = rw c.in_err-tc_expr-in-25.was at c.tc_expr.ensures in
    rw (is_noted _ c.from_residual.ensures.0) (single_checked c.requires.0 c.requires.1.0 c.requires.1.1 _ c.next.ensures.node c.in-25.is (only_checked _ _ c.requires.0.fit d.0), d.1)

pub tc_assign_target-returns-in_ok-tc_expr-in-25 : goal.tc_assign_target-returns-in_ok-tc_expr-in-25
tc_assign_target-returns-in_ok-tc_expr-in-25 t c = (
  single_checked c.requires.0 c.requires.1.0 c.requires.1.1 _ c.next.ensures.node c.in-25.is (assigned_well (code_well _ c.in_ok-tc_expr-in-25.was) refl (only_checked _ None c.requires.0.fit c.tc_expr.ensures.0)),
  kept_ok (λ e. cc) c.tc_expr.ensures.1,
)

pub tc_assign_target-returns-in_err-unpack-in-28 : goal.tc_assign_target-returns-in_err-unpack-in-28
tc_assign_target-returns-in_err-unpack-in-28 t c =
    let u = rw c.in_err-unpack-in-28.was at c.unpack.ensures in
    rw (is_noted _ c.from_residual-in_err-unpack-in-28.ensures.0)
    (settled_ends u.settled (tuple_refused c.requires.0 c.requires.1.0 c.requires.1.1 _ c.next.ensures.node c.in-28.is u.unpacks (settled_err u.settled refl)))

pub tc_assign_target-overflow_sub-depth : goal.tc_assign_target-overflow_sub-depth
tc_assign_target-overflow_sub-depth t c =
    omega (arith, levels_left c.requires.0 c.requires.1.0 c.requires.1.1 _ c.next.ensures.node)

pub tc_assign_target-returns-in_ok-unpack-in-28 : goal.tc_assign_target-returns-in_ok-unpack-in-28
tc_assign_target-returns-in_ok-unpack-in-28 t c =
    let u = c.unpack.ensures in
    let q = settled_ok u.settled c.in_ok-unpack-in-28.was in (
      tuple_assigned c.requires.0 c.requires.1.0 c.requires.1.1 _ c.next.ensures.node c.in-28.is (u.unpacks.well q.0 _ refl c.requires.0.wf c.requires.1.1) (rw q.1 at c.assign_each.ensures.0),
      rw q.1 at c.assign_each.ensures.1,
    )

pub tc_assign_target-returns-in_default : goal.tc_assign_target-returns-in_default
tc_assign_target-returns-in_default t c =
    settled_ends (settled_ill (λ e. absurd (omega arith)) c.refuse.ensures)
    (single_other c.requires.0 c.requires.1.0 c.requires.1.1 _ c.next.ensures.node (λ z. grind arith) (λ z. grind arith) (λ z. grind arith) (λ z. grind arith))

pub tc_assign_target-assign_each-requires : goal.tc_assign_target-assign_each-requires
tc_assign_target-assign_each-requires t c =
    let u = c.unpack.ensures in
    let q = settled_ok u.settled c.in_ok-unpack-in-28.was in (
      omega (arith, c.decreases, levels_left c.requires.0 c.requires.1.0 c.requires.1.1 _ c.next.ensures.node),
      rw q.1 (c.requires.0, (targets_within c.requires.0 c.requires.1.0 c.requires.1.1 _ c.next.ensures.node, (c.requires.1.1, u.unpacks.well q.0 _ refl c.requires.0.wf c.requires.1.1))),
    )

pub assign_each-over-requires-clause-on : goal.assign_each-over-requires-clause-on
assign_each-over-requires-clause-on t c =
    record { nodes = c.loop-j.invariant.2 ∙ c.loop-j.invariant.0.ready.nodes_at; within = (child_inside c.loop-j.invariant.0 (omega arith)).0 }
