use Rattle.state.proofs.Noting.{is_noted, code_well}
use Rattle.targets.proofs.Endings.{assigned_well}
use Rattle.targets.proofs.Singles.{only_checked}
use Rattle.stmt.proofs.Laws.{done_any, one_child, pair_assign, ready_nodes}
use Rattle.stmt.proofs.Cells.{done_ends, done_settled, tells_kept, tells_ok, tells_outside, tells_typing}
use Rattle.stmt.proofs.Leaves.{simple_assign, simple_break, simple_continue, simple_expr, simple_nothing, simple_ready, simple_return}
use Rattle.std.specs.Prelude.{None}
use mathlib.Core.Bool.{true}
use mathlib.Core.Logic.{inl, inr}
use mathlib.Core.Path.{◌∙◌, ap, refl, sym}
use native.Mathlib.Omega.{arith}
use Rattle.stmt.proofs.simple.Goals as goal

pub returns-in-1 : goal.returns-in-1
returns-in-1 c = (
  λ setting. done_settled c.outside.ensures (simple_break _ c.requires.0 c.requires.1.0 setting (sym (ap (λ d. d.kind) c.next-read.ensures.node) ∙ c.in-1.is) refl),
  tells_outside c.args.looped 20 c.outside.ensures (λ z. omega arith),
)

pub returns-in-2 : goal.returns-in-2
returns-in-2 c = (
  λ setting. done_settled c.outside-in-2.ensures (simple_continue _ c.requires.0 c.requires.1.0 setting (sym (ap (λ d. d.kind) c.next-read.ensures.node) ∙ c.in-2.is) refl),
  tells_outside c.args.looped 21 c.outside-in-2.ensures (λ z. omega arith),
)

pub assignment-requires : goal.assignment-requires
assignment-requires c =
    (c.requires.0.ready, pair_assign c.requires.0.ready.sound (rw (sym (ap (λ d. d.kind) c.next-read.ensures.node) ∙ c.in-5.is) at c.requires.1.0))

pub returns-in-5 : goal.returns-in-5
returns-in-5 c =
    let k = c.assignment.ensures.1 in
    let d = c.assignment.ensures.0 in
    (λ setting. done_ends k.top k.ret (simple_assign _ c.requires.0 c.requires.1.0 setting (sym (ap (λ d. d.kind) c.next-read.ensures.node) ∙ c.in-5.is) d), tells_typing _ k d.typing)

pub tc_expr-requires : goal.tc_expr-requires
tc_expr-requires c =
    let k = inl (sym (ap (λ d. d.kind) c.next-read.ensures.node) ∙ c.in-6.is) in
    rw c.next-read.ensures.at (ready_nodes c.next-read.ensures.nodes (simple_ready true c.requires.0 c.requires.1.0 k), (one_child c.requires.0.ready.sound c.requires.1.0 k).0)

pub returns-in_err-tc_expr-in-6 : goal.returns-in_err-tc_expr-in-6
returns-in_err-tc_expr-in-6 c =
    let d = rw c.in_err-tc_expr-in-6.was at c.tc_expr.ensures in
    let k = d.1 in
    let e = only_checked _ _ c.requires.0.ready.fit d.0 in
    rw (is_noted _ c.from_residual.ensures.0)
    (λ setting. done_ends k.top k.ret (simple_expr _ c.requires.0 c.requires.1.0 setting (sym (ap (λ d. d.kind) c.next-read.ensures.node) ∙ c.in-6.is) c.next-read.ensures.at e), tells_kept refl k e.typing)

pub returns-in_ok-tc_expr-in-6 : goal.returns-in_ok-tc_expr-in-6
returns-in_ok-tc_expr-in-6 c =
    let k = c.tc_expr.ensures.1 in
    let e = only_checked _ None c.requires.0.ready.fit c.tc_expr.ensures.0 in
    (λ setting. done_ends k.top k.ret (simple_expr _ c.requires.0 c.requires.1.0 setting (sym (ap (λ d. d.kind) c.next-read.ensures.node) ∙ c.in-6.is) c.next-read.ensures.at (assigned_well (code_well _ c.in_ok-tc_expr-in-6.was) refl e)), tells_ok (λ e. cc))

pub give-requires : goal.give-requires
give-requires c =
    let k = inr (sym (ap (λ d. d.kind) c.next-read.ensures.node) ∙ c.in-7.is) in
    rw c.next-read.ensures.at (
      record { ready = ready_nodes c.next-read.ensures.nodes (simple_ready true c.requires.0 c.requires.1.0 k); kept = c.requires.0.kept },
      (one_child c.requires.0.ready.sound c.requires.1.0 k).0,
    )

pub returns-in-7 : goal.returns-in-7
returns-in-7 c =
    (λ setting. simple_return _ c.requires.0 c.requires.1.0 setting (sym (ap (λ d. d.kind) c.next-read.ensures.node) ∙ c.in-7.is) (rw c.next-read.ensures.at at c.give.ensures.0), c.give.ensures.1)

pub returns-in_default : goal.returns-in_default
returns-in_default c =
    let h = ap (λ d. d.kind) c.next-read.ensures.node in
    (λ setting. done_any refl refl (simple_nothing _ c.requires.0 c.requires.1.0 setting (λ e. grind arith) (λ e. grind arith) (λ e. grind arith) (λ e. grind arith) (λ e. grind arith) c.requires.1.1), tells_ok (λ e. cc))
