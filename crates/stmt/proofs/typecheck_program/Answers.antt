use Rattle.stmt.proofs.Cells.{end_err, end_ok, standing_nodes}
use Rattle.stmt.proofs.Modules.{running_at, running_end, running_first, running_here, running_next, running_out, running_standing}
use Rattle.image.proofs.Moving.{stops}
use native.Mathlib.Omega.{arith}
use lib.ListN.{length-replicate}
use Prim.Native.Nat.{ℕ, ◌+◌}
use mathlib.Core.Path.{◌∙◌, ap}
use Rattle.stmt.proofs.typecheck_program.Goals as goal

pub loop-init : goal.loop-init
loop-init c =
    let z = c.first.ensures.at_value in (
      rw (c.next-read.ensures.at ∙ ap (λ i. i + 1) z) (running_first c.requires (length-replicate {A = ℕ} 2048 1) c.next-read.ensures.nodes (omega (arith, ap (λ d. d.children) (rw z at c.next-read.ensures.node)))),
      c.next-read.ensures.nodes,
    )

pub tc_stmt-end-requires : goal.tc_stmt-end-requires
tc_stmt-end-requires c =
    (standing_nodes c.loop.invariant.1 (running_standing c.loop.invariant.0 (omega arith)), running_at c.loop.invariant.0 (omega arith))

pub returns-then-is_err-clause-ran : goal.returns-then-is_err-clause-ran
returns-then-is_err-clause-ran c =
    running_out c.loop.invariant.0 (omega arith) c.tc_stmt-end.ensures.0 (end_err _ c.if-is_err.ensures.value c.tc_stmt-end.ensures.1)

pub over-requires-clause-on : goal.over-requires-clause-on
over-requires-clause-on c =
    record { nodes = c.loop.invariant.1; within = running_here c.loop.invariant.0 (omega arith) }

pub loop-preserved : goal.loop-preserved
loop-preserved c =
    (running_next c.loop.invariant.0 (omega arith) c.tc_stmt-end.ensures.0 (stops c.over.ensures) (omega arith) (end_ok c.tc_stmt-end.result _ c.if-is_err.ensures.value), c.over.ensures.nodes)

pub returns-clause-ran : goal.returns-clause-ran
returns-clause-ran c = running_end c.loop.invariant.0 (omega arith)
