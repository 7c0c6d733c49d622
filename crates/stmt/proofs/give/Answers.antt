use Rattle.state.proofs.Noting.{is_noted}
use Rattle.stmt.proofs.Laws.{done_any, typing}
use Rattle.stmt.proofs.Cells.{checks_ok, done_ends, done_refused, refused_from, tells_kept, tells_ok, tells_refused}
use Rattle.stmt.proofs.Leaves.{give_agreed, give_bad, give_wrong}
use mathlib.Core.Path.{refl}
use native.Mathlib.Omega.{arith}
use Rattle.stmt.proofs.give.Goals as goal

pub returns-in_err-ty : goal.returns-in_err-ty
returns-in_err-ty c =
    let r = c.requires.0.ready in
    let d = rw c.in_err-ty.was at c.tc_expr.ensures in
    let k = d.1 in
    rw (is_noted _ c.from_residual.ensures.0) (done_ends k.top k.ret (give_bad r c.requires.1 d.0 c.requires.0.kept (k.coded refl)), tells_kept refl k (typing _ r.fit d.0))

pub returns-in_default : goal.returns-in_default
returns-in_default c =
    let k = c.tc_expr.ensures.1 in
    let d = checks_ok _ c.in_ok-ty.was c.tc_expr.ensures.0 in
    let f = refused_from k.ret c.refuse.ensures in
    (done_refused f (done_ends k.top k.ret (give_wrong c.requires.0.ready c.requires.1 d c.requires.0.kept refl (rw k.ret at c.in_default.ensures) refl)), tells_refused (λ z. omega arith) (λ z. omega arith) f)

pub returns : goal.returns
returns c =
    let k = c.tc_expr.ensures.1 in
    let d = checks_ok _ c.in_ok-ty.was c.tc_expr.ensures.0 in
    (done_ends k.top refl (done_any refl refl (give_agreed c.requires.0.ready c.requires.1 d c.requires.0.kept refl (rw k.ret at c.in-Some.ensures) refl)), tells_ok (λ e. cc))
