use Rattle.state.proofs.Noting.{is_noted, kept_ok, kept_trans, refused_kept}
use Rattle.targets.proofs.Endings.{assigned_noted, assigned_well}
use Rattle.stmt.proofs.Cells.{checks_ok}
use Rattle.stmt.proofs.Leaves.{condition_bad, condition_done, condition_other}
use mathlib.Core.Path.{refl}
use native.Mathlib.Omega.{arith}
use Rattle.stmt.proofs.ensure_bool.Goals as goal

pub returns-in_err-ty : goal.returns-in_err-ty
returns-in_err-ty c =
    let d = rw c.in_err-ty.was at c.tc_expr.ensures in
    rw (is_noted _ c.from_residual.ensures.0) (condition_bad c.requires.0 c.requires.1 d.0 (d.1.coded refl), d.1)

pub returns-then-ty-ne-BOOL : goal.returns-then-ty-ne-BOOL
returns-then-ty-ne-BOOL c = (
  assigned_noted (condition_other c.requires.0 c.requires.1 (checks_ok _ c.in_ok-ty.was c.tc_expr.ensures.0) refl c.if-ty-ne-BOOL.true) c.refuse.ensures,
  kept_trans c.tc_expr.ensures.1 (refused_kept (λ z. omega arith) c.refuse.ensures),
)

pub returns : goal.returns
returns c =
    (assigned_well refl refl (condition_done c.requires.0 c.requires.1 (checks_ok _ c.in_ok-ty.was c.tc_expr.ensures.0) refl c.if-ty-ne-BOOL.false), kept_ok (λ e. cc) c.tc_expr.ensures.1)
