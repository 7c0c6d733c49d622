use Rattle.std.specs.Prelude.{None, Err}
use Rattle.stmt.proofs.Laws.{done_any, drops_if, few_nodes, pair_for, pair_while, ready_nodes, second_of}
use Rattle.stmt.proofs.Cells.{armed_from, assigned_ok, body_from, done_ends, done_noted, done_refused, end_other, end_shallow, end_well, iterated_ok, refused_at, standing_as, standing_nodes, stmt_at_lem, stopped, tells_kept, tells_ok, tells_refused}
use Rattle.stmt.proofs.Bodies.{loop_at, loop_begin, loop_deep, loop_end, loop_next, loop_standing, loop_wrong, stmt_done, stmt_here}
use Rattle.stmt.proofs.Branching.{arm_bad, arm_done, arm_last, choosing_begin, choosing_branch, choosing_end, choosing_next, choosing_out, choosing_standing, first_place, last_standing, when_at, when_ready, when_standing}
use Rattle.stmt.proofs.Compound.{def_at_block, def_bad, def_deep, def_done, def_params, def_some, def_standing, first_ready, for_bad, for_done, for_name, for_small, for_standing, second_at, second_standing, while_bad, while_done}
use Rattle.image.proofs.Moving.{parent_of, stops}
use Rattle.std.proofs.lemmas.Bool.{not-true, not-false}
use mathlib.Core.Bool.{true}
use mathlib.Core.Logic.{inl, inr}
use mathlib.Core.Path.{◌∙◌, ap, refl, sym}
use Rattle.expr.proofs.Rows.{shallow}
use native.Mathlib.Omega.{arith}
use Rattle.stmt.proofs.+tc_stmt.Goals as goal
use Rattle.stmt.proofs.+tc_stmt.Goals.{block-in-Ok, block-in-Err-Wrong+else-not-how}

-- ---- tc_stmt

pub tc_stmt-overflow_sub-d : goal.tc_stmt-overflow_sub-d
tc_stmt-overflow_sub-d t c = let h = shallow c.requires.0.ready.sound c.requires.1 in omega arith

pub tc_stmt-choices-requires : goal.tc_stmt-choices-requires
tc_stmt-choices-requires t c =
    (omega (arith, c.decreases, shallow c.requires.0.ready.sound c.requires.1), (c.requires.0, stmt_here c.requires.0.ready.sound c.requires.1 (sym c.in-8.is ∙ (ap (λ d. d.kind) c.next.ensures.node))))

pub tc_stmt-returns-in-8 : goal.tc_stmt-returns-in-8
tc_stmt-returns-in-8 t c = (stmt_done c.requires.0.ready.sound c.requires.1 _ _ _ c.choices.ensures.0, c.choices.ensures.1)

pub tc_stmt-returns-in-9 : goal.tc_stmt-returns-in-9
tc_stmt-returns-in-9 t c = (stmt_done c.requires.0.ready.sound c.requires.1 _ _ _ c.repeat.ensures.0, c.repeat.ensures.1)

pub tc_stmt-returns-in-10 : goal.tc_stmt-returns-in-10
tc_stmt-returns-in-10 t c = (stmt_done c.requires.0.ready.sound c.requires.1 _ _ _ c.each.ensures.0, c.each.ensures.1)

pub tc_stmt-returns-in-11 : goal.tc_stmt-returns-in-11
tc_stmt-returns-in-11 t c = (stmt_done c.requires.0.ready.sound c.requires.1 _ _ _ c.define.ensures.0, c.define.ensures.1)

pub tc_stmt-returns-in_err-simple-in_default : goal.tc_stmt-returns-in_err-simple-in_default
tc_stmt-returns-in_err-simple-in_default t c =
    let d = rw c.in_err-simple-in_default.was at c.simple.ensures in
    rw (stopped _ c.from_residual.ensures.1) (stmt_done c.requires.0.ready.sound c.requires.1 _ _ _ (d.0 _), record { coded = λ _. d.1.coded refl; typing = λ _. d.1.typing refl })

pub tc_stmt-returns-in_ok-simple-in_default : goal.tc_stmt-returns-in_ok-simple-in_default
tc_stmt-returns-in_ok-simple-in_default t c =
    let d = rw c.in_ok-simple-in_default.was at c.simple.ensures in
    (stmt_done c.requires.0.ready.sound c.requires.1 _ _ _ (d.0 _), tells_ok (λ e. cc))

-- ---- block

pub block-loop-init : goal.block-loop-init
block-loop-init t c =
    (loop_begin _ _ (standing_nodes c.next-read.ensures.nodes c.requires.0) c.requires.1 c.next-read.ensures (omega arith), c.next-read.ensures.nodes)

pub block-overflow_sub-depth : goal.block-overflow_sub-depth
block-overflow_sub-depth t c = let h = shallow c.requires.0.ready.sound c.requires.1 in omega arith

pub block-tc_stmt-requires : goal.block-tc_stmt-requires
block-tc_stmt-requires t c =
    (omega (arith, c.decreases, shallow c.requires.0.ready.sound c.requires.1), (standing_nodes c.loop.invariant.1 (loop_standing c.loop.invariant.0 (omega arith)), loop_at c.loop.invariant.0 (omega arith)))

pub block-returns-then-not-how : goal.block-returns-then-not-how
block-returns-then-not-how t c =
    let d = rw c.in-Err-Wrong.is at c.tc_stmt.ensures in
    let d' = rw c.in-Err-Wrong.field-0-is at d in
    (rw (← (parent_of c.next-read.ensures)) (loop_wrong c.loop.invariant.0 (omega arith) d'.0 (d'.1.coded refl) (d'.1.typing refl) (not-true _ c.if-not-how.true)), d'.1)

pub block-returns-in-Err-TooDeep : goal.block-returns-in-Err-TooDeep
block-returns-in-Err-TooDeep t c =
    let d = rw c.in-Err-TooDeep.is at c.tc_stmt.ensures in
    let d' = rw c.in-Err-TooDeep.field-0-is at d in
    (rw (← (parent_of c.next-read.ensures)) (loop_deep c.loop.invariant.0 (omega arith) d'.0 refl), d'.1)

pub block-over-requires-clause-on : goal.block-over-requires-clause-on
block-over-requires-clause-on t c =
    record { nodes = c.loop.invariant.1; within = (loop_at c.loop.invariant.0 (omega arith)).there }

pub block-loop-preserved : goal.block-loop-preserved
block-loop-preserved t c = (
  loop_next c.loop.invariant.0 (omega arith) c.tc_stmt.ensures.0 (stops c.over.ensures) (omega arith)
      (elim c.match-tc_stmt.branch [
        | block-in-Ok w ↦ end_shallow _ (inl w.in-Ok.is) c.tc_stmt.ensures.1
        | block-in-Err-Wrong+else-not-how w ↦ end_shallow _ (inr (w.in-Err-Wrong.is ∙ ap Err w.in-Err-Wrong.field-0-is)) c.tc_stmt.ensures.1
      ])
      (elim c.match-tc_stmt.branch [
        | block-in-Ok w ↦ inl (end_well _ w.in-Ok.is)
        | block-in-Err-Wrong+else-not-how w ↦ inr (not-false _ w.if-not-how.false)
      ]),
  c.over.ensures.nodes,
)

pub block-returns : goal.block-returns
block-returns t c =
    (rw (← (parent_of c.next-read.ensures)) (done_any refl refl (loop_end c.loop.invariant.0 (omega arith))), tells_ok (λ e. cc))

-- ---- choices

pub choices-loop-k-init : goal.choices-loop-k-init
choices-loop-k-init t c =
    (choosing_begin _ (standing_nodes c.next-read.ensures.nodes c.requires.0) c.requires.1 c.next-read.ensures (omega arith), refl, c.next-read.ensures.nodes)

pub choices-one_arm-end-requires : goal.choices-one_arm-end-requires
choices-one_arm-end-requires t c = (
  omega (arith, c.decreases),
  (
    rw c.loop-k.invariant.1 (standing_nodes c.loop-k.invariant.2 (choosing_standing c.loop-k.invariant.0 (omega arith))),
    choosing_branch c.loop-k.invariant.0 (omega arith),
  ),
)

pub choices-returns-in_err-end : goal.choices-returns-in_err-end
choices-returns-in_err-end t c =
    let d = rw c.in_err-end.was at c.one_arm-end.ensures in
    rw (stopped _ c.from_residual.ensures.1, ← (parent_of c.next-read.ensures)) (choosing_out c.loop-k.invariant.0 (omega arith) (armed_from _ _ _ _ _ _ _ _ c.loop-k.invariant.1 d.0) (end_other d.1), d.1)

pub choices-after_arm-next-requires : goal.choices-after_arm-next-requires
choices-after_arm-next-requires t c =
    let b = choosing_branch c.loop-k.invariant.0 (omega arith) in
    (c.requires.0.ready.sound.headed, (record { nodes = c.loop-k.invariant.2; within = b.first.there }, b.block.there))

pub choices-loop-k-preserved : goal.choices-loop-k-preserved
choices-loop-k-preserved t c =
    let d = rw c.in_ok-end.was at c.one_arm-end.ensures in
    (choosing_next c.loop-k.invariant.0 (omega arith) (armed_from _ _ _ _ _ _ _ _ c.loop-k.invariant.1 d.0) c.after_arm-next.ensures.0 (omega arith) refl refl c.note_branch.ensures, refl, c.after_arm-next.ensures.1)

pub choices-returns-in-Ok : goal.choices-returns-in-Ok
choices-returns-in-Ok t c = (
  rw (← (parent_of c.next-read.ensures)) (done_any refl refl (done_ends c.loop-k.invariant.1 refl
      (choosing_end {n = None} (stmt_at_lem (parent_of c.next-read.ensures) c.requires.1) c.loop-k.invariant.0 (omega arith) c.in-Ok.ensures tt))),
  tells_ok (λ e. cc),
)

pub choices-returns-in-Err : goal.choices-returns-in-Err
choices-returns-in-Err t c =
    let f = refused_at (first_place c.next-read.ensures) c.conflict-noted.ensures.refused in
    rw (c.from.ensures, ← (parent_of c.next-read.ensures)) (
      done_refused f (done_ends c.loop-k.invariant.1 refl
          (choosing_end (stmt_at_lem (parent_of c.next-read.ensures) c.requires.1) c.loop-k.invariant.0 (omega arith) c.in-Err.ensures c.conflict-noted.ensures.since)),
      tells_refused (λ z. omega arith) (λ z. omega arith) f,
    )

-- ---- one_arm

pub one_arm-ensure_bool-requires : goal.one_arm-ensure_bool-requires
one_arm-ensure_bool-requires t c =
    (when_ready true c.requires.0 c.requires.1 c.if-left-gt1.true, c.requires.1.first)

pub one_arm-returns-in_err-ensure_bool : goal.one_arm-returns-in_err-ensure_bool
one_arm-returns-in_err-ensure_bool t c =
    let d = rw c.in_err-ensure_bool.was at c.ensure_bool.ensures in
    rw (stopped _ c.from_residual.ensures.1) (done_ends d.1.top d.1.ret (arm_bad _ c.requires.0 c.requires.1 c.if-left-gt1.true d.0 _ (d.1.coded refl)), tells_kept refl d.1 d.0.typing)

pub one_arm-block-requires : goal.one_arm-block-requires
one_arm-block-requires t c =
    let k = c.ensure_bool.ensures.1 in
    let a = assigned_ok _ c.in_ok-ensure_bool.was c.ensure_bool.ensures.0 in (
      omega (arith, c.decreases),
      (
        standing_as k.top k.ret (standing_nodes c.over.ensures.nodes (when_standing true c.requires.0 c.requires.1 c.if-left-gt1.true a (stops c.over.ensures))),
        when_at true c.requires.0 c.requires.1 c.if-left-gt1.true a (stops c.over.ensures),
      ),
    )

pub one_arm-returns-then-left-gt1 : goal.one_arm-returns-then-left-gt1
one_arm-returns-then-left-gt1 t c =
    let k = c.ensure_bool.ensures.1 in
    let a = assigned_ok _ c.in_ok-ensure_bool.was c.ensure_bool.ensures.0 in
    (arm_done _ c.requires.0 c.requires.1 c.if-left-gt1.true a (stops c.over.ensures) _ (drops_if _) refl (body_from _ _ _ _ _ _ _ k.top k.ret c.block.ensures.0), c.block.ensures.1)

pub one_arm-block-requires-2 : goal.one_arm-block-requires-2
one_arm-block-requires-2 t c =
    (omega (arith, c.decreases), (last_standing true c.requires.0 c.requires.1 c.if-left-gt1.false, c.requires.1.first))

pub one_arm-returns : goal.one_arm-returns
one_arm-returns t c =
    (arm_last _ c.requires.0 c.requires.1 c.if-left-gt1.false _ (drops_if _) c.block-2.ensures.0, c.block-2.ensures.1)

-- ---- define

pub define-returns-then-top-ge-LAST_FRAME : goal.define-returns-then-top-ge-LAST_FRAME
define-returns-then-top-ge-LAST_FRAME t c =
    (def_deep c.requires.0 c.requires.1 refl (omega arith) _ _, tells_ok (λ e. cc))

pub define-overflow_sub-n : goal.define-overflow_sub-n
define-overflow_sub-n t c =
    omega (arith, def_some c.requires.0 c.requires.1 (ap (λ d. d.children) c.next-read.ensures.node))

pub define-parameters-body-requires : goal.define-parameters-body-requires
define-parameters-body-requires t c =
    (c.requires.0.ready.sound, (c.next-read.ensures.nodes, (omega arith, def_params c.requires.0 c.requires.1 (ap (λ d. d.children) c.next-read.ensures.node) c.next-read.ensures.at)))

pub define-block-end-requires : goal.define-block-end-requires
define-block-end-requires t c =
    let m = ap (λ d. d.children) c.next-read.ensures.node in
    let p = c.parameters-body.ensures in (
      omega (arith, c.decreases),
      (
        standing_nodes p.0.1 (def_standing c.requires.0 c.requires.1 m c.if-top-ge-LAST_FRAME.false c.clear.ensures c.next-read.ensures.at p.1 p.0.0),
        def_at_block c.requires.0 c.requires.1 m c.if-top-ge-LAST_FRAME.false c.clear.ensures c.next-read.ensures.at p.1 p.0.0,
      ),
    )

pub define-returns-in_err-end : goal.define-returns-in_err-end
define-returns-in_err-end t c =
    let d = rw c.in_err-end.was at c.block-end.ensures in
    let p = c.parameters-body.ensures in
    rw (stopped _ c.from_residual.ensures.1) (
      def_bad c.requires.0 c.requires.1 (ap (λ d. d.children) c.next-read.ensures.node) c.if-top-ge-LAST_FRAME.false c.clear.ensures c.next-read.ensures.at p.1 p.0.0 _ d.0 (end_other d.1) _,
      d.1,
    )

pub define-returns : goal.define-returns
define-returns t c =
    let d = rw c.in_ok-end.was at c.block-end.ensures in
    let p = c.parameters-body.ensures in (
      done_any refl refl (def_done c.requires.0 c.requires.1 (ap (λ d. d.children) c.next-read.ensures.node) c.if-top-ge-LAST_FRAME.false c.clear.ensures c.next-read.ensures.at p.1 p.0.0 _ d.0 refl _),
      tells_ok (λ e. cc),
    )

-- ---- each

pub each-elements-requires : goal.each-elements-requires
each-elements-requires t c =
    let p = pair_for c.requires.0.ready.sound c.requires.1 in
    rw c.next-read.ensures.at (ready_nodes c.next-read.ensures.nodes (first_ready c.requires.0 p), p.first)

pub each-returns-in_err-ty : goal.each-returns-in_err-ty
each-returns-in_err-ty t c =
    let d = rw c.in_err-ty.was at c.elements.ensures in
    let a = rw c.next-read.ensures.at at d.0 in
    rw (stopped _ c.from_residual.ensures.1) (done_ends d.1.top d.1.ret (for_bad c.requires.0 c.requires.1 (ap (λ d. d.arg) c.next-read.ensures.node) a (d.1.coded refl) _ _), tells_kept refl d.1 a.typing)

pub each-bind-requires-clause-top_lt_most_frames : goal.each-bind-requires-clause-top_lt_most_frames
each-bind-requires-clause-top_lt_most_frames t c =
    (c.requires.0.ready.fit.high, for_name c.requires.0 c.requires.1 (ap (λ d. d.arg) c.next-read.ensures.node) (iterated_ok _ c.in_ok-ty.was (rw c.next-read.ensures.at at c.elements.ensures.0)))

pub each-bind-requires-clause-ty_lt_cell_room : goal.each-bind-requires-clause-ty_lt_cell_room
each-bind-requires-clause-ty_lt_cell_room t c = (
  rw c.since.ensures.type_is (for_small c.requires.0 c.requires.1 (ap (λ d. d.arg) c.next-read.ensures.node) (iterated_ok _ c.in_ok-ty.was (rw c.next-read.ensures.at at c.elements.ensures.0)) refl),
  c.since.ensures.near tt (omega (arith, few_nodes c.requires.0.ready.sound, (pair_for c.requires.0.ready.sound c.requires.1).first.there, c.next-read.ensures.at)),
)

pub each-over-requires-clause-on : goal.each-over-requires-clause-on
each-over-requires-clause-on t c =
    record { nodes = c.next-read.ensures.nodes; within = rw c.next-read.ensures.at (pair_for c.requires.0.ready.sound c.requires.1).first.there }

pub each-block-end-requires : goal.each-block-end-requires
each-block-end-requires t c =
    let k = c.elements.ensures.1 in
    let o = second_of c.next-read.ensures c.over.ensures in (
      omega (arith, c.decreases),
      (
        standing_as k.top k.ret (standing_nodes c.over.ensures.nodes (for_standing c.requires.0 c.requires.1 (ap (λ d. d.arg) c.next-read.ensures.node) (iterated_ok _ c.in_ok-ty.was (rw c.next-read.ensures.at at c.elements.ensures.0)) refl c.next-read.ensures.at c.since.ensures c.bind.ensures o)),
        second_at c.requires.0 (pair_for c.requires.0.ready.sound c.requires.1) o,
      ),
    )

pub each-returns : goal.each-returns
each-returns t c =
    let k = c.elements.ensures.1 in (
      for_done c.requires.0 c.requires.1 (ap (λ d. d.arg) c.next-read.ensures.node) (iterated_ok _ c.in_ok-ty.was (rw c.next-read.ensures.at at c.elements.ensures.0)) refl c.next-read.ensures.at c.since.ensures c.bind.ensures _ (second_of c.next-read.ensures c.over.ensures)
          (body_from _ _ _ _ _ _ _ k.top k.ret c.block-end.ensures.0) _,
      c.block-end.ensures.1,
    )

-- ---- repeat

pub repeat-ensure_bool-requires : goal.repeat-ensure_bool-requires
repeat-ensure_bool-requires t c =
    let p = pair_while c.requires.0.ready.sound c.requires.1 in
    rw c.next.ensures.at (ready_nodes c.next.ensures.nodes (first_ready c.requires.0 p), p.first)

pub repeat-returns-in_err-ensure_bool : goal.repeat-returns-in_err-ensure_bool
repeat-returns-in_err-ensure_bool t c =
    let d = rw c.in_err-ensure_bool.was at c.ensure_bool.ensures in
    let a = rw c.next.ensures.at at d.0 in
    rw (stopped _ c.from_residual.ensures.1) (done_ends d.1.top d.1.ret (while_bad c.requires.0 c.requires.1 a (d.1.coded refl) _ _), tells_kept refl d.1 a.typing)

pub repeat-over-requires-clause-on : goal.repeat-over-requires-clause-on
repeat-over-requires-clause-on t c =
    record { nodes = c.next.ensures.nodes; within = rw c.next.ensures.at (pair_while c.requires.0.ready.sound c.requires.1).first.there }

pub repeat-block-end-requires : goal.repeat-block-end-requires
repeat-block-end-requires t c =
    let k = c.ensure_bool.ensures.1 in
    let p = pair_while c.requires.0.ready.sound c.requires.1 in
    let o = second_of c.next.ensures c.over.ensures in
    let a = assigned_ok _ c.in_ok-ensure_bool.was (rw c.next.ensures.at at c.ensure_bool.ensures.0) in
    (omega (arith, c.decreases), (standing_as k.top k.ret (standing_nodes c.over.ensures.nodes (second_standing c.requires.0 p o a.left a.left.fit)), second_at c.requires.0 p o))

pub repeat-returns : goal.repeat-returns
repeat-returns t c =
    let k = c.ensure_bool.ensures.1 in
    let a = assigned_ok _ c.in_ok-ensure_bool.was (rw c.next.ensures.at at c.ensure_bool.ensures.0) in
    (while_done c.requires.0 c.requires.1 a _ (drops_if _) refl (second_of c.next.ensures c.over.ensures) (body_from _ _ _ _ _ _ _ k.top k.ret c.block-end.ensures.0) _, c.block-end.ensures.1)
