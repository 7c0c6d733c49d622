use mathlib.Core.Logic.{inl, inr}
use mathlib.Core.Path.{◌∙◌, ap, refl, sym}
use native.Mathlib.Numerals.{add-one}
use native.Mathlib.Omega.{arith}
use Prim.Native.Nat.{◌-◌}
use Rattle.image.proofs.Moving.{stops}
use Rattle.state.proofs.Noting.{code_well, is_noted, kept_none, kept_ok, kept_trans, refused_kept, same_tab, settles_counts}
use Rattle.nodes.proofs.Deciding.{judged, judged_by_number, operated}
use Rattle.expr.proofs.Arguing.{as_each, as_filter, as_first, as_input, as_len, as_map, as_range, call_coded, call_done, call_ready, call_refused, call_row, each_done, each_refused, first_at, first_done, first_judges, first_ready, first_refused, input_done, input_none, input_refused, len_done, len_refused}
use Rattle.expr.proofs.Arms.{expr_done, lambda_done, literal_done, variable_done, variable_there}
use Rattle.expr.proofs.Bounding.{bounding_end, bounding_first, bounding_judges, bounding_next, bounding_refused, bounding_wrong}
use Rattle.expr.proofs.Calling.{OfOperands, call_operand, call_some, callee_there, children_ready, children_row, dict_done, list_done, name_there, operand_any, operands_decidable, operands_done, operands_refused}
use Rattle.expr.proofs.Leaving.{ready_moved}
use Rattle.expr.proofs.Listing.{listing_asks, listing_end, listing_opened, listing_last, listing_next, listing_refused, listing_stop}
use Rattle.expr.proofs.Looping.{loop_at, loop_child}
use Rattle.expr.proofs.Operation.{binary_done, binary_operable, binary_ready, binary_ready_2, binary_refused, binary_refused_2, operand_at, operand_at_2}
use Rattle.expr.proofs.Pairing.{pairing_asks, pairing_at, pairing_at_2, pairing_child, pairing_child_2, pairing_end, pairing_opened, pairing_last, pairing_next, pairing_refused, pairing_refused_2, pairing_stop}
use Rattle.expr.proofs.Rows.{behind, inner, opened, shallow}
use Rattle.expr.proofs.Streaming.{first_names, function_at, iterable_at, stream_able, stream_child, stream_child_2, stream_done, stream_judges, stream_refused, stream_refused_2, stream_wrong}
use Rattle.expr.proofs.Telling.{done_as, done_refused}
use Rattle.expr.proofs.Valuing.{valuing_at, valuing_end, valuing_first, valuing_next, valuing_ready, valuing_refused, valuing_room}
use Rattle.expr.proofs.+expression.Goals as goal
use Rattle.expr.proofs.+expression.Goals.{compound-in-22-1, compound-in_default+else-kind-lt22+then-kind-lt32}

pub arguments-returns-in-Each : goal.arguments-returns-in-Each
arguments-returns-in-Each t c =
    (done_as (as_each _ _ c.in-Each.is) c.each_then.ensures.0, c.each_then.ensures.1)

pub arguments-returns-in-First : goal.arguments-returns-in-First
arguments-returns-in-First t c =
    (done_as (as_first _ _ c.in-First.is) c.first_then.ensures.0, c.first_then.ensures.1)

pub arguments-returns-in-Input : goal.arguments-returns-in-Input
arguments-returns-in-Input t c =
    (done_as (as_input _ _ c.in-Input.is) c.input.ensures.0, c.input.ensures.1)

pub arguments-returns-in-Len : goal.arguments-returns-in-Len
arguments-returns-in-Len t c =
    (done_as (as_len _ _ c.in-Len.is) c.len.ensures.0, c.len.ensures.1)

pub arguments-returns-in-Range : goal.arguments-returns-in-Range
arguments-returns-in-Range t c =
    (done_as (as_range _ _ c.in-Range.is) c.range.ensures.0, c.range.ensures.1)

pub arguments-returns-in-Map : goal.arguments-returns-in-Map
arguments-returns-in-Map t c =
    (done_as (as_map _ _ c.in-Map.is) c.stream.ensures.0, c.stream.ensures.1)

pub arguments-returns-in-Filter : goal.arguments-returns-in-Filter
arguments-returns-in-Filter t c =
    (done_as (as_filter _ _ c.in-Filter.is) c.stream-in-Filter.ensures.0, c.stream-in-Filter.ensures.1)

pub binary-expression-requires : goal.binary-expression-requires
binary-expression-requires t c =
    (omega (arith, c.decreases), (ready_moved c.next-read.ensures.nodes (binary_ready c.requires.0 (opened c.next-read.ensures c.requires.1)), operand_at c.requires.0 (opened c.next-read.ensures c.requires.1)))

pub binary-returns-in_err-a : goal.binary-returns-in_err-a
binary-returns-in_err-a t c =
    let d = rw c.in_err-a.was at c.expression.ensures in rw (is_noted _ c.from_residual.ensures.0) (binary_refused c.requires.0 (opened c.next-read.ensures c.requires.1) d.0 (d.1.coded refl), d.1)

pub binary-over-requires-clause-on : goal.binary-over-requires-clause-on
binary-over-requires-clause-on t c =
    record { nodes = c.next-read.ensures.nodes; within = (operand_at c.requires.0 (opened c.next-read.ensures c.requires.1)).there }

pub binary-expression-requires-2 : goal.binary-expression-requires-2
binary-expression-requires-2 t c =
    (omega (arith, c.decreases), (ready_moved c.over.ensures.nodes (binary_ready_2 c.requires.0 (opened c.next-read.ensures c.requires.1) (rw c.in_ok-a.was at c.expression.ensures.0) (stops c.over.ensures)), operand_at_2 c.requires.0 (opened c.next-read.ensures c.requires.1) (rw c.in_ok-a.was at c.expression.ensures.0) (stops c.over.ensures)))

pub binary-returns-in_err-b : goal.binary-returns-in_err-b
binary-returns-in_err-b t c =
    let d = rw c.in_err-b.was at c.expression-2.ensures in rw (is_noted _ c.from_residual-in_err-b.ensures.0) (binary_refused_2 c.requires.0 (opened c.next-read.ensures c.requires.1) (rw c.in_ok-a.was at c.expression.ensures.0) (stops c.over.ensures) refl d.0 (d.1.coded refl), kept_trans c.expression.ensures.1 d.1)

pub binary-binary-decision-requires-clause-op_bound : goal.binary-binary-decision-requires-clause-op_bound
binary-binary-decision-requires-clause-op_bound t c =
    (binary_operable c.requires.0 (opened c.next-read.ensures c.requires.1) (rw c.in_ok-a.was at c.expression.ensures.0) (stops c.over.ensures) refl (rw c.in_ok-b.was at c.expression-2.ensures.0) refl).operator

pub binary-returns : goal.binary-returns
binary-returns t c =
    let g = operated (binary_operable c.requires.0 (opened c.next-read.ensures c.requires.1) (rw c.in_ok-a.was at c.expression.ensures.0) (stops c.over.ensures) refl (rw c.in_ok-b.was at c.expression-2.ensures.0) refl) c.binary-decision.ensures c.settle.ensures in
    (binary_done c.requires.0 (opened c.next-read.ensures c.requires.1) (rw c.in_ok-a.was at c.expression.ensures.0) (stops c.over.ensures) refl (rw c.in_ok-b.was at c.expression-2.ensures.0) refl g.0, kept_trans c.expression.ensures.1 (kept_trans c.expression-2.ensures.1 g.1))

pub call-over-passed-requires-clause-on : goal.call-over-passed-requires-clause-on
call-over-passed-requires-clause-on t c =
    record { nodes = c.next-read.ensures.nodes; within = rw (opened c.next-read.ensures c.requires.1).first (callee_there c.requires.0.sound (opened c.next-read.ensures c.requires.1)) }

pub call-operands-requires : goal.call-operands-requires
call-operands-requires t c =
    (omega (arith, c.decreases), (c.requires.0, (c.requires.1.0, (call_operand c.requires.0.sound (opened c.next-read.ensures c.requires.1) (behind (opened c.next-read.ensures c.requires.1) c.over-passed.ensures) c.if-function-ne-VARIABLE.true, λ e. omega (arith, e, c.requires.1.1)))))

pub call-overflow_sub-count : goal.call-overflow_sub-count
call-overflow_sub-count t c =
    omega (arith, call_some c.requires.0.sound (opened c.next-read.ensures c.requires.1))

pub call-plan_of-requires-clause-x_bound : goal.call-plan_of-requires-clause-x_bound
call-plan_of-requires-clause-x_bound t c =
    name_there c.requires.0.sound (opened c.next-read.ensures c.requires.1) (behind (opened c.next-read.ensures c.requires.1) c.over-passed.ensures) c.if-function-ne-VARIABLE.false

pub call-arguments-requires : goal.call-arguments-requires
call-arguments-requires t c =
    (omega (arith, c.decreases), (ready_moved c.over-passed.ensures.nodes (call_ready c.requires.0 (opened c.next-read.ensures c.requires.1) (behind (opened c.next-read.ensures c.requires.1) c.over-passed.ensures) c.if-function-ne-VARIABLE.false refl), (call_row c.requires.0 (opened c.next-read.ensures c.requires.1) (behind (opened c.next-read.ensures c.requires.1) c.over-passed.ensures) c.if-function-ne-VARIABLE.false refl, (c.requires.1.0.there, c.plan_of.ensures.enough _ c.in-Ok.is))))

pub call-returns-in-Ok : goal.call-returns-in-Ok
call-returns-in-Ok t c =
    (call_done c.requires.0 (opened c.next-read.ensures c.requires.1) (behind (opened c.next-read.ensures c.requires.1) c.over-passed.ensures) c.if-function-ne-VARIABLE.false refl refl refl c.plan_of.ensures c.in-Ok.is c.arguments.ensures.0, c.arguments.ensures.1)

pub call-returns-in-Err : goal.call-returns-in-Err
call-returns-in-Err t c =
    let z = call_coded c.plan_of.ensures c.in-Err.is in (
      done_refused z (call_refused c.requires.0 (opened c.next-read.ensures c.requires.1) (behind (opened c.next-read.ensures c.requires.1) c.over-passed.ensures) c.if-function-ne-VARIABLE.false {number = 0} refl refl c.plan_of.ensures c.in-Err.is) c.refuse.ensures,
      refused_kept z c.refuse.ensures,
    )

pub expression-lookup-requires : goal.expression-lookup-requires
expression-lookup-requires t c =
    variable_there c.requires.0 c.requires.1 c.next-read.ensures.node c.in-21.is refl

pub expression-returns-in-20 : goal.expression-returns-in-20
expression-returns-in-20 t c =
    (literal_done c.requires.0 c.requires.1 c.next-read.ensures.node c.in-20.is refl c.literal.ensures, kept_none (λ e. cc))

pub expression-returns-in-21 : goal.expression-returns-in-21
expression-returns-in-21 t c =
    (variable_done c.requires.0 c.requires.1 c.next-read.ensures.node c.in-21.is refl refl refl c.lookup.ensures, kept_none (λ e. cc))

pub dict-loop-init : goal.dict-loop-init
dict-loop-init t c =
    (pairing_opened c.requires.0 (opened c.next-read.ensures c.requires.1) c.next-read.ensures.nodes (sym (ap (λ y. y.children) c.next-read.ensures.node)) (omega arith), kept_none (λ e. e), c.next-read.ensures.nodes)

pub dict-expression-requires : goal.dict-expression-requires
dict-expression-requires t c =
    (omega (arith, c.decreases), (ready_moved c.loop.invariant.2 (pairing_child c.loop.invariant.0 (omega (arith, ap (λ y. y.children) c.next-read.ensures.node))), pairing_at c.loop.invariant.0 (omega (arith, ap (λ y. y.children) c.next-read.ensures.node))))

pub dict-returns-in_err-key : goal.dict-returns-in_err-key
dict-returns-in_err-key t c =
    let d = rw c.in_err-key.was at c.expression.ensures in rw (is_noted _ c.from_residual.ensures.0)
    (dict_done c.requires.0 (sym (ap (λ y. y.children) c.next-read.ensures.node)) (opened c.next-read.ensures c.requires.1) (pairing_refused c.loop.invariant.0 (omega (arith, ap (λ y. y.children) c.next-read.ensures.node)) d.0 (d.1.coded refl)), kept_trans c.loop.invariant.1 d.1)

pub dict-over-requires-clause-on : goal.dict-over-requires-clause-on
dict-over-requires-clause-on t c =
    record { nodes = c.loop.invariant.2; within = (pairing_at c.loop.invariant.0 (omega (arith, ap (λ y. y.children) c.next-read.ensures.node))).there }

pub dict-expression-requires-in-loop : goal.dict-expression-requires-in-loop
dict-expression-requires-in-loop t c =
    (omega (arith, c.decreases), (ready_moved c.over.ensures.nodes (pairing_child_2 c.loop.invariant.0 (omega (arith, ap (λ y. y.children) c.next-read.ensures.node)) (rw c.in_ok-key.was at c.expression.ensures.0) (stops c.over.ensures)), pairing_at_2 c.loop.invariant.0 (omega (arith, ap (λ y. y.children) c.next-read.ensures.node)) (rw c.in_ok-key.was at c.expression.ensures.0) (stops c.over.ensures)))

pub dict-returns-in_err-value : goal.dict-returns-in_err-value
dict-returns-in_err-value t c =
    let d = rw c.in_err-value.was at c.expression-in-loop.ensures in rw (is_noted _ c.from_residual-in_err-value.ensures.0)
    (dict_done c.requires.0 (sym (ap (λ y. y.children) c.next-read.ensures.node)) (opened c.next-read.ensures c.requires.1) (pairing_refused_2 c.loop.invariant.0 (omega (arith, ap (λ y. y.children) c.next-read.ensures.node)) (rw c.in_ok-key.was at c.expression.ensures.0) (stops c.over.ensures) refl d.0 (d.1.coded refl)), kept_trans c.loop.invariant.1 (kept_trans c.expression.ensures.1 d.1))

pub dict-dict_of-requires-clause-asks : goal.dict-dict_of-requires-clause-asks
dict-dict_of-requires-clause-asks t c =
    pairing_asks c.loop.invariant.0 (omega (arith, ap (λ y. y.children) c.next-read.ensures.node)) (rw c.in_ok-key.was at c.expression.ensures.0) (stops c.over.ensures) refl (rw c.in_ok-value.was at c.expression-in-loop.ensures.0)

pub dict-dict_of-requires-clause-asks_2 : goal.dict-dict_of-requires-clause-asks_2
dict-dict_of-requires-clause-asks_2 t c =
    pairing_asks c.loop.invariant.0 (omega (arith, ap (λ y. y.children) c.next-read.ensures.node)) (rw c.in_ok-key.was at c.expression.ensures.0) (stops c.over.ensures) refl (rw c.in_ok-value.was at c.expression-in-loop.ensures.0)

pub dict-returns-in_default : goal.dict-returns-in_default
dict-returns-in_default t c =
    let k = kept_trans c.loop.invariant.1 (kept_trans c.expression.ensures.1 c.expression-in-loop.ensures.1) in
    (dict_done c.requires.0 (sym (ap (λ y. y.children) c.next-read.ensures.node)) (opened c.next-read.ensures c.requires.1) (pairing_stop c.loop.invariant.0 (omega (arith, ap (λ y. y.children) c.next-read.ensures.node)) (rw c.in_ok-key.was at c.expression.ensures.0) (stops c.over.ensures) refl (rw c.in_ok-value.was at c.expression-in-loop.ensures.0) refl c.dict_step.ensures c.in_default.is refl c.dict_of.ensures), record { ret = k.ret; top = k.top; coded = λ e. cc })

pub dict-over-requires-in-loop-clause-on : goal.dict-over-requires-in-loop-clause-on
dict-over-requires-in-loop-clause-on t c =
    record { nodes = c.over.ensures.nodes; within = (pairing_at_2 c.loop.invariant.0 (omega (arith, ap (λ y. y.children) c.next-read.ensures.node)) (rw c.in_ok-key.was at c.expression.ensures.0) (stops c.over.ensures)).there }

pub dict-loop-preserved : goal.dict-loop-preserved
dict-loop-preserved t c = (
  pairing_next c.loop.invariant.0 (omega (arith, ap (λ y. y.children) c.next-read.ensures.node)) (rw c.in_ok-key.was at c.expression.ensures.0) (stops c.over.ensures) refl (rw c.in_ok-value.was at c.expression-in-loop.ensures.0) refl c.dict_step.ensures c.in-Some.is (stops c.over-in-loop.ensures) (omega arith),
  kept_ok (λ e. e) (kept_trans c.loop.invariant.1 (kept_trans c.expression.ensures.1 c.expression-in-loop.ensures.1)),
  c.over-in-loop.ensures.nodes,
)

pub dict-dict_of-requires-2-clause-asks : goal.dict-dict_of-requires-2-clause-asks
dict-dict_of-requires-2-clause-asks t c =
    (pairing_last c.loop.invariant.0).0

pub dict-dict_of-requires-2-clause-asks_2 : goal.dict-dict_of-requires-2-clause-asks_2
dict-dict_of-requires-2-clause-asks_2 t c =
    (pairing_last c.loop.invariant.0).1

pub dict-returns : goal.dict-returns
dict-returns t c =
    let k = c.loop.invariant.1 in
    (dict_done c.requires.0 (sym (ap (λ y. y.children) c.next-read.ensures.node)) (opened c.next-read.ensures c.requires.1) (pairing_end c.loop.invariant.0 (omega (arith, ap (λ y. y.children) c.next-read.ensures.node)) refl c.dict_of-2.ensures), record { ret = k.ret; top = k.top; coded = λ e. cc })

pub each_then-returns-in_err-values : goal.each_then-returns-in_err-values
each_then-returns-in_err-values t c =
    let d = rw c.in_err-values.was at c.values.ensures in rw (is_noted _ c.from_residual.ensures.0) (each_refused c.requires.0 c.requires.1.0 d.0 _ (d.1.coded refl), d.1)

pub each_then-returns : goal.each_then-returns
each_then-returns t c =
    (each_done c.requires.0 c.requires.1.0 (rw c.in_ok-values.was at c.values.ensures.0) _ c.requires.1.1.1 refl refl, kept_ok (λ e. cc) c.values.ensures.1)

pub first_then-expression-requires : goal.first_then-expression-requires
first_then-expression-requires t c =
    (omega (arith, c.decreases), (first_ready c.requires.0 c.requires.1.0 c.requires.1.1.1.1, first_at c.requires.0 c.requires.1.0 c.requires.1.1.1.1))

pub first_then-returns-in_err-expression : goal.first_then-returns-in_err-expression
first_then-returns-in_err-expression t c =
    let d = rw c.in_err-expression.was at c.expression.ensures in rw (is_noted _ c.from_residual.ensures.0) (first_refused c.requires.0 c.requires.1.0 c.requires.1.1.1.1 d.0 _ (d.1.coded refl), d.1)

pub first_then-returns : goal.first_then-returns
first_then-returns t c =
    (first_done c.requires.0 c.requires.1.0 c.requires.1.1.1.1 (rw c.in_ok-expression.was at c.expression.ensures.0) _ c.requires.1.1.1.0 refl refl, kept_ok (λ e. cc) c.expression.ensures.1)

pub input-returns-then-call-ne1 : goal.input-returns-then-call-ne1
input-returns-then-call-ne1 t c =
    (input_none c.requires.0 c.requires.1.0 _ c.if-call-ne1.true refl, kept_none (λ e. cc))

pub input-expression-requires : goal.input-expression-requires
input-expression-requires t c =
    (omega (arith, c.decreases), (first_ready c.requires.0 c.requires.1.0 (omega (arith, c.if-call-ne1.false)), first_at c.requires.0 c.requires.1.0 (omega (arith, c.if-call-ne1.false))))

pub input-returns-in_err-ty : goal.input-returns-in_err-ty
input-returns-in_err-ty t c =
    let d = rw c.in_err-ty.was at c.expression.ensures in rw (is_noted _ c.from_residual.ensures.0) (input_refused c.requires.0 c.requires.1.0 (omega (arith, c.if-call-ne1.false)) d.0 _ c.if-call-ne1.false (d.1.coded refl), d.1)

pub input-returns : goal.input-returns
input-returns t c =
    let g = judged_by_number (first_judges c.requires.0 c.requires.1.0 (omega (arith, c.if-call-ne1.false)) (rw c.in_ok-ty.was at c.expression.ensures.0) refl c.requires.1.1.0) c.prompt.ensures c.settle.ensures in
    (input_done c.requires.0 c.requires.1.0 (omega (arith, c.if-call-ne1.false)) (rw c.in_ok-ty.was at c.expression.ensures.0) _ c.if-call-ne1.false c.requires.1.1.0 refl g.0, kept_trans c.expression.ensures.1 g.1)

pub len-expression-requires : goal.len-expression-requires
len-expression-requires t c =
    (omega (arith, c.decreases), (first_ready c.requires.0 c.requires.1.0 c.requires.1.1.1, first_at c.requires.0 c.requires.1.0 c.requires.1.1.1))

pub len-returns-in_err-ty : goal.len-returns-in_err-ty
len-returns-in_err-ty t c =
    let d = rw c.in_err-ty.was at c.expression.ensures in rw (is_noted _ c.from_residual.ensures.0) (len_refused c.requires.0 c.requires.1.0 c.requires.1.1.1 d.0 _ (d.1.coded refl), d.1)

pub len-returns : goal.len-returns
len-returns t c =
    let g = judged (first_judges c.requires.0 c.requires.1.0 c.requires.1.1.1 (rw c.in_ok-ty.was at c.expression.ensures.0) refl c.requires.1.1.0) c.len.ensures c.settle.ensures in
    (len_done c.requires.0 c.requires.1.0 c.requires.1.1.1 (rw c.in_ok-ty.was at c.expression.ensures.0) _ c.requires.1.1.0 refl g.0, kept_trans c.expression.ensures.1 g.1)

pub list-loop-init : goal.list-loop-init
list-loop-init t c =
    (listing_opened c.requires.0 (opened c.next-read.ensures c.requires.1) c.next-read.ensures.nodes refl (omega arith), kept_none (λ e. e), c.next-read.ensures.nodes)

pub list-expression-requires : goal.list-expression-requires
list-expression-requires t c =
    (omega (arith, c.decreases), (ready_moved c.loop.invariant.2 (loop_child c.loop.invariant.0.loop (omega arith)), loop_at c.loop.invariant.0.loop (omega arith)))

pub list-returns-in_err-ty : goal.list-returns-in_err-ty
list-returns-in_err-ty t c =
    let d = rw c.in_err-ty.was at c.expression.ensures in rw (is_noted _ c.from_residual.ensures.0)
    (list_done c.requires.0 refl (opened c.next-read.ensures c.requires.1) (listing_refused c.loop.invariant.0 (omega arith) d.0 (d.1.coded refl)), kept_trans c.loop.invariant.1 d.1)

pub list-list_of-requires : goal.list-list_of-requires
list-list_of-requires t c =
    listing_asks c.loop.invariant.0 (omega arith) (rw c.in_ok-ty.was at c.expression.ensures.0)

pub list-returns-in_default : goal.list-returns-in_default
list-returns-in_default t c =
    let k = kept_trans c.loop.invariant.1 c.expression.ensures.1 in
    (list_done c.requires.0 refl (opened c.next-read.ensures c.requires.1) (listing_stop c.loop.invariant.0 (omega arith) (rw c.in_ok-ty.was at c.expression.ensures.0) refl c.list_step.ensures c.in_default.is refl c.list_of.ensures), record { ret = k.ret; top = k.top; coded = λ e. cc })

pub list-over-requires-clause-on : goal.list-over-requires-clause-on
list-over-requires-clause-on t c =
    record { nodes = c.loop.invariant.2; within = (loop_at c.loop.invariant.0.loop (omega arith)).there }

pub list-loop-preserved : goal.list-loop-preserved
list-loop-preserved t c = (
  listing_next c.loop.invariant.0 (omega arith) (rw c.in_ok-ty.was at c.expression.ensures.0) refl c.list_step.ensures c.in-Some.is (stops c.over.ensures) (omega arith),
  kept_ok (λ e. e) (kept_trans c.loop.invariant.1 c.expression.ensures.1),
  c.over.ensures.nodes,
)

pub list-list_of-requires-2 : goal.list-list_of-requires-2
list-list_of-requires-2 t c =
    listing_last c.loop.invariant.0

pub list-returns : goal.list-returns
list-returns t c =
    let k = c.loop.invariant.1 in
    (list_done c.requires.0 refl (opened c.next-read.ensures c.requires.1) (listing_end c.loop.invariant.0 (omega arith) refl c.list_of-2.ensures), record { ret = k.ret; top = k.top; coded = λ e. cc })

pub operands-values-requires : goal.operands-values-requires
operands-values-requires t c =
    (omega (arith, c.decreases), (ready_moved c.next-read.ensures.nodes (children_ready c.requires.0 c.requires.1.0 (c.next-read.ensures.at ∙ add-one _) (ap (λ y. y.children) c.next-read.ensures.node)), children_row c.requires.0 c.requires.1.0 (c.next-read.ensures.at ∙ add-one _) (ap (λ y. y.children) c.next-read.ensures.node)))

pub operands-returns-in_err-values : goal.operands-returns-in_err-values
operands-returns-in_err-values t c =
    let d = rw c.in_err-values.was at c.values.ensures in rw (is_noted _ c.from_residual.ensures.0) (operands_refused c.requires.0 c.requires.1.0 c.requires.1.1.0 (c.next-read.ensures.at ∙ add-one _) (ap (λ y. y.children) c.next-read.ensures.node) d.0 (d.1.coded refl), d.1)

pub operands-decide-requires-clause-decidable : goal.operands-decide-requires-clause-decidable
operands-decide-requires-clause-decidable t c =
    operands_decidable c.requires.0 c.requires.1.0 c.requires.1.1.0 (c.next-read.ensures.at ∙ add-one _) (ap (λ y. y.children) c.next-read.ensures.node) (rw c.in_ok-values.was at c.values.ensures.0) refl refl refl

pub operands-returns : goal.operands-returns
operands-returns t c =
    (operands_done c.requires.0 c.requires.1.0 c.requires.1.1.0 (c.next-read.ensures.at ∙ add-one _) (ap (λ y. y.children) c.next-read.ensures.node) (rw c.in_ok-values.was at c.values.ensures.0) refl c.decide.ensures.0, kept_trans c.values.ensures.1 c.decide.ensures.1)

pub range-loop-init : goal.range-loop-init
range-loop-init t c =
    (bounding_first {j = c.args.call.first.at - 1} (omega (arith, c.requires.1.0.behind)) c.requires.0 c.requires.1.0 (omega arith), kept_none (λ e. e), c.requires.0.nodes_at)

pub range-expression-requires : goal.range-expression-requires
range-expression-requires t c =
    (omega (arith, c.decreases), (ready_moved c.loop.invariant.2 (loop_child c.loop.invariant.0.loop (omega arith)), loop_at c.loop.invariant.0.loop (omega arith)))

pub range-returns-in_err-ty : goal.range-returns-in_err-ty
range-returns-in_err-ty t c =
    let d = rw c.in_err-ty.was at c.expression.ensures in rw (is_noted _ c.from_residual.ensures.0) (bounding_refused c.loop.invariant.0 (omega arith) d.0 (d.1.coded refl), kept_trans c.loop.invariant.1 d.1)

pub range-returns-in_err-settle : goal.range-returns-in_err-settle
range-returns-in_err-settle t c =
    let g = rw c.in_err-settle.was at (judged_by_number (bounding_judges c.loop.invariant.0 (omega arith) (rw c.in_ok-ty.was at c.expression.ensures.0) refl c.requires.1.1.0) c.bound.ensures c.settle.ensures) in rw (is_noted _ c.from_residual-in_err-settle.ensures.0)
    (bounding_wrong c.loop.invariant.0 (omega arith) (rw c.in_ok-ty.was at c.expression.ensures.0) refl c.requires.1.1.0 g.0 (g.1.coded refl), kept_trans c.loop.invariant.1 (kept_trans c.expression.ensures.1 g.1))

pub range-over-requires-clause-on : goal.range-over-requires-clause-on
range-over-requires-clause-on t c =
    record { nodes = c.loop.invariant.2; within = (loop_at c.loop.invariant.0.loop (omega arith)).there }

pub range-loop-preserved : goal.range-loop-preserved
range-loop-preserved t c =
    let g = judged_by_number (bounding_judges c.loop.invariant.0 (omega arith) (rw c.in_ok-ty.was at c.expression.ensures.0) refl c.requires.1.1.0) c.bound.ensures c.settle.ensures in (
      bounding_next c.loop.invariant.0 (omega arith) (rw c.in_ok-ty.was at c.expression.ensures.0) refl c.requires.1.1.0 g.0 (code_well _ c.in_ok-settle.was) (same_tab (settles_counts _ c.settle.ensures) _) (stops c.over.ensures) (omega arith),
      kept_ok (λ e. e) (kept_trans c.loop.invariant.1 (kept_trans c.expression.ensures.1 g.1)),
      c.over.ensures.nodes,
    )

pub range-returns : goal.range-returns
range-returns t c =
    (bounding_end c.loop.invariant.0 (omega arith) refl refl, kept_ok (λ e. cc) c.loop.invariant.1)

pub stream-expression-requires : goal.stream-expression-requires
stream-expression-requires t c =
    (omega (arith, c.decreases), (stream_child c.args.filters c.requires.0 c.requires.1.0 c.requires.1.1.1, function_at c.args.filters c.requires.0 c.requires.1.0 c.requires.1.1.1))

pub stream-returns-in_err-function : goal.stream-returns-in_err-function
stream-returns-in_err-function t c =
    let d = rw c.in_err-function.was at c.expression.ensures in rw (is_noted _ c.from_residual.ensures.0) (stream_refused c.args.filters c.requires.0 c.requires.1.0 c.requires.1.1.1 d.0 (d.1.coded refl), d.1)

pub stream-callable-judged-requires : goal.stream-callable-judged-requires
stream-callable-judged-requires t c =
    rw c.first_code.ensures (first_names _)

pub stream-returns-in_err-settle : goal.stream-returns-in_err-settle
stream-returns-in_err-settle t c =
    let g = rw c.in_err-settle.was at (judged_by_number (stream_judges c.args.filters c.requires.0 c.requires.1.0 c.requires.1.1.1 (rw c.in_ok-function.was at c.expression.ensures.0) refl) (rw c.first_code.ensures at c.callable-judged.ensures) c.settle.ensures) in rw (is_noted _ c.from_residual-in_err-settle.ensures.0)
    (stream_wrong c.args.filters c.requires.0 c.requires.1.0 c.requires.1.1.1 (rw c.in_ok-function.was at c.expression.ensures.0) refl g.0 (g.1.coded refl), kept_trans c.expression.ensures.1 g.1)

pub stream-over-requires-clause-on : goal.stream-over-requires-clause-on
stream-over-requires-clause-on t c =
    record { nodes = c.requires.0.nodes_at; within = (function_at c.args.filters c.requires.0 c.requires.1.0 c.requires.1.1.1).there }

pub stream-expression-requires-2 : goal.stream-expression-requires-2
stream-expression-requires-2 t c =
    let g = judged_by_number (stream_judges c.args.filters c.requires.0 c.requires.1.0 c.requires.1.1.1 (rw c.in_ok-function.was at c.expression.ensures.0) refl) (rw c.first_code.ensures at c.callable-judged.ensures) c.settle.ensures in
    (omega (arith, c.decreases), (ready_moved c.over.ensures.nodes (stream_child_2 c.args.filters c.requires.0 c.requires.1.0 c.requires.1.1.1 (rw c.in_ok-function.was at c.expression.ensures.0) refl g.0 (same_tab (settles_counts _ c.settle.ensures) _) (stops c.over.ensures)), iterable_at c.args.filters c.requires.0 c.requires.1.0 c.requires.1.1.1 (rw c.in_ok-function.was at c.expression.ensures.0) refl g.0 (same_tab (settles_counts _ c.settle.ensures) _) (stops c.over.ensures)))

pub stream-returns-in_err-iterable : goal.stream-returns-in_err-iterable
stream-returns-in_err-iterable t c =
    let g = judged_by_number (stream_judges c.args.filters c.requires.0 c.requires.1.0 c.requires.1.1.1 (rw c.in_ok-function.was at c.expression.ensures.0) refl) (rw c.first_code.ensures at c.callable-judged.ensures) c.settle.ensures in
    let d = rw c.in_err-iterable.was at c.expression-2.ensures in rw (is_noted _ c.from_residual-in_err-iterable.ensures.0)
    (stream_refused_2 c.args.filters c.requires.0 c.requires.1.0 c.requires.1.1.1 (rw c.in_ok-function.was at c.expression.ensures.0) refl g.0 (same_tab (settles_counts _ c.settle.ensures) _) (stops c.over.ensures) (code_well _ c.in_ok-settle.was) d.0 (d.1.coded refl), kept_trans c.expression.ensures.1 (kept_trans g.1 d.1))

pub stream-streamed-requires : goal.stream-streamed-requires
stream-streamed-requires t c =
    let g = judged_by_number (stream_judges c.args.filters c.requires.0 c.requires.1.0 c.requires.1.1.1 (rw c.in_ok-function.was at c.expression.ensures.0) refl) (rw c.first_code.ensures at c.callable-judged.ensures) c.settle.ensures in
    stream_able c.args.filters c.requires.0 c.requires.1.0 c.requires.1.1.1 (rw c.in_ok-function.was at c.expression.ensures.0) refl g.0 (same_tab (settles_counts _ c.settle.ensures) _) (stops c.over.ensures) (code_well _ c.in_ok-settle.was) (rw c.in_ok-iterable.was at c.expression-2.ensures.0) refl

pub stream-returns : goal.stream-returns
stream-returns t c =
    let g = judged_by_number (stream_judges c.args.filters c.requires.0 c.requires.1.0 c.requires.1.1.1 (rw c.in_ok-function.was at c.expression.ensures.0) refl) (rw c.first_code.ensures at c.callable-judged.ensures) c.settle.ensures in
    (stream_done c.args.filters c.requires.0 c.requires.1.0 c.requires.1.1.1 (rw c.in_ok-function.was at c.expression.ensures.0) refl g.0 (same_tab (settles_counts _ c.settle.ensures) _) (stops c.over.ensures) (code_well _ c.in_ok-settle.was) (rw c.in_ok-iterable.was at c.expression-2.ensures.0) refl c.streamed.ensures.0, kept_trans c.expression.ensures.1 (kept_trans g.1 (kept_trans c.expression-2.ensures.1 c.streamed.ensures.1)))

pub compound-overflow_sub-depth : goal.compound-overflow_sub-depth
compound-overflow_sub-depth t c =
    omega (arith, shallow c.requires.0.sound c.requires.1.0)

pub compound-binary-requires : goal.compound-binary-requires
compound-binary-requires t c =
    (omega (arith, c.decreases, shallow c.requires.0.sound c.requires.1.0), (c.requires.0, (inner c.requires.0.sound c.requires.1.0 refl, c.requires.1.1.0 ∙ c.in-23.is)))

pub compound-returns-in-23 : goal.compound-returns-in-23
compound-returns-in-23 t c =
    (expr_done c.requires.0 c.requires.1.0 refl c.binary.ensures.0, c.binary.ensures.1)

pub compound-overflow_sub-depth-in-24 : goal.compound-overflow_sub-depth-in-24
compound-overflow_sub-depth-in-24 t c =
    omega (arith, shallow c.requires.0.sound c.requires.1.0)

pub compound-call-requires : goal.compound-call-requires
compound-call-requires t c =
    (omega (arith, c.decreases, shallow c.requires.0.sound c.requires.1.0), (c.requires.0, (inner c.requires.0.sound c.requires.1.0 refl, c.requires.1.1.0 ∙ c.in-24.is)))

pub compound-returns-in-24 : goal.compound-returns-in-24
compound-returns-in-24 t c =
    (expr_done c.requires.0 c.requires.1.0 refl c.call.ensures.0, c.call.ensures.1)

pub compound-overflow_sub-depth-in-26 : goal.compound-overflow_sub-depth-in-26
compound-overflow_sub-depth-in-26 t c =
    omega (arith, shallow c.requires.0.sound c.requires.1.0)

pub compound-list-requires : goal.compound-list-requires
compound-list-requires t c =
    (omega (arith, c.decreases, shallow c.requires.0.sound c.requires.1.0), (c.requires.0, (inner c.requires.0.sound c.requires.1.0 refl, c.requires.1.1.0 ∙ c.in-26.is)))

pub compound-returns-in-26 : goal.compound-returns-in-26
compound-returns-in-26 t c =
    (expr_done c.requires.0 c.requires.1.0 refl c.list.ensures.0, c.list.ensures.1)

pub compound-overflow_sub-depth-in-27 : goal.compound-overflow_sub-depth-in-27
compound-overflow_sub-depth-in-27 t c =
    omega (arith, shallow c.requires.0.sound c.requires.1.0)

pub compound-dict-requires : goal.compound-dict-requires
compound-dict-requires t c =
    (omega (arith, c.decreases, shallow c.requires.0.sound c.requires.1.0), (c.requires.0, (inner c.requires.0.sound c.requires.1.0 refl, c.requires.1.1.0 ∙ c.in-27.is)))

pub compound-returns-in-27 : goal.compound-returns-in-27
compound-returns-in-27 t c =
    (expr_done c.requires.0 c.requires.1.0 refl c.dict.ensures.0, c.dict.ensures.1)

pub compound-overflow_sub-depth-in-22 : goal.compound-overflow_sub-depth-in-22
compound-overflow_sub-depth-in-22 t c =
    omega (arith, shallow c.requires.0.sound c.requires.1.0)

pub compound-operands-requires : goal.compound-operands-requires
compound-operands-requires t c =
    let k = c.args.kind in
    let bounds : OfOperands k =
    elim c.in-22-1.branch [
      | compound-in-22-1 w ↦ record { low = omega arith; high = omega arith; binary = λ e. omega arith; call = λ e. omega arith; list = λ e. omega arith; dict = λ e. omega arith }
      | compound-in_default+else-kind-lt22+then-kind-lt32 w ↦ record { low = omega arith; high = omega arith; binary = λ e. omega arith; call = λ e. omega arith; list = λ e. omega arith; dict = λ e. omega arith }
    ] in
    let o = inner c.requires.0.sound c.requires.1.0 refl in (
      omega (arith, c.decreases, shallow c.requires.0.sound c.requires.1.0),
      (c.requires.0, (o, (operand_any c.requires.0.sound o (rw c.requires.1.1.0 bounds), λ e. bounds.binary (sym c.requires.1.1.0 ∙ e)))),
    )

pub compound-returns-in-22 : goal.compound-returns-in-22
compound-returns-in-22 t c =
    (expr_done c.requires.0 c.requires.1.0 refl c.operands.ensures.0, c.operands.ensures.1)

pub compound-returns-in_default : goal.compound-returns-in_default
compound-returns-in_default t c =
    (lambda_done c.requires.0 c.requires.1.0 refl (inl (omega arith)) refl refl, kept_none (λ e. cc))

pub compound-returns-in_default-2 : goal.compound-returns-in_default-2
compound-returns-in_default-2 t c =
    (lambda_done c.requires.0 c.requires.1.0 refl (inr (omega arith)) refl refl, kept_none (λ e. cc))

pub values-loop-i-init : goal.values-loop-i-init
values-loop-i-init t c =
    (valuing_first c.requires.0 c.requires.1 (omega arith) (omega arith), kept_none (λ e. e), c.requires.0.nodes_at)

pub values-overflow_add-sp : goal.values-overflow_add-sp
values-overflow_add-sp t c =
    omega (arith, valuing_room c.loop-i.invariant.0 (omega arith))

pub values-overflow_add-w : goal.values-overflow_add-w
values-overflow_add-w t c =
    omega (arith, valuing_room c.loop-i.invariant.0 (omega arith))

pub values-bounds-w-sp : goal.values-bounds-w-sp
values-bounds-w-sp t c =
    valuing_room c.loop-i.invariant.0 (omega arith)

pub values-offset_bounds-w-sp : goal.values-offset_bounds-w-sp
values-offset_bounds-w-sp t c =
    omega (arith, valuing_room c.loop-i.invariant.0 (omega arith))

pub values-expression-requires : goal.values-expression-requires
values-expression-requires t c =
    (omega (arith, c.decreases), (ready_moved c.loop-i.invariant.2 (valuing_ready c.loop-i.invariant.0 (omega arith)), valuing_at c.loop-i.invariant.0 (omega arith)))

pub values-returns-in_err-ty : goal.values-returns-in_err-ty
values-returns-in_err-ty t c =
    let d = rw c.in_err-ty.was at c.expression.ensures in rw (is_noted _ c.from_residual.ensures.0)
    (valuing_refused c.loop-i.invariant.0 (omega arith) d.0 (d.1.coded refl), kept_trans c.loop-i.invariant.1 d.1)

pub values-over-requires-clause-on : goal.values-over-requires-clause-on
values-over-requires-clause-on t c =
    record { nodes = c.loop-i.invariant.2; within = (valuing_at c.loop-i.invariant.0 (omega arith)).there }

pub values-loop-i-preserved : goal.values-loop-i-preserved
values-loop-i-preserved t c = (
  valuing_next c.loop-i.invariant.0 (omega arith) (rw c.in_ok-ty.was at c.expression.ensures.0) refl (stops c.over.ensures) (omega arith) (omega arith),
  kept_ok (λ e. e) (kept_trans c.loop-i.invariant.1 c.expression.ensures.1),
  c.over.ensures.nodes,
)

pub values-returns : goal.values-returns
values-returns t c =
    (valuing_end c.loop-i.invariant.0 (omega arith) refl, kept_ok (λ e. cc) c.loop-i.invariant.1)
