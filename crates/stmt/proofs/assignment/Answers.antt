use Rattle.state.proofs.Noting.{is_noted, kept_trans}
use Rattle.stmt.proofs.Laws.{ready_nodes, second_of}
use Rattle.stmt.proofs.Cells.{checks_ok}
use Rattle.stmt.proofs.Leaves.{assignment_bad, assignment_done, target_ready, value_at, value_ready}
use mathlib.Core.Path.{refl}
use Rattle.stmt.proofs.assignment.Goals as goal

pub tc_expr-requires : goal.tc_expr-requires
tc_expr-requires c =
    let k = second_of c.next.ensures c.over.ensures in
    (ready_nodes c.over.ensures.nodes (value_ready c.requires.0 c.requires.1 k), value_at c.requires.0 c.requires.1 k)

pub returns-in_err-ty : goal.returns-in_err-ty
returns-in_err-ty c =
    let d = rw c.in_err-ty.was at c.tc_expr.ensures in
    rw (is_noted _ c.from_residual.ensures.0) (assignment_bad c.requires.0 c.requires.1 (second_of c.next.ensures c.over.ensures) d.0 (d.1.coded refl), d.1)

pub tc_assign_target-requires : goal.tc_assign_target-requires
tc_assign_target-requires c =
    let d = checks_ok _ c.in_ok-ty.was c.tc_expr.ensures.0 in
    rw c.next.ensures.at (ready_nodes c.next.ensures.nodes (target_ready c.requires.0 c.requires.1 (second_of c.next.ensures c.over.ensures) d), (c.requires.1.first, d.below refl))

pub returns : goal.returns
returns c =
    let d = checks_ok _ c.in_ok-ty.was c.tc_expr.ensures.0 in
    (assignment_done c.requires.0 c.requires.1 (second_of c.next.ensures c.over.ensures) d refl (rw c.next.ensures.at at c.tc_assign_target.ensures.0), kept_trans c.tc_expr.ensures.1 c.tc_assign_target.ensures.1)
