use Rattle.state.proofs.Noting.{is_noted, kept_ok, kept_trans, refused_kept}
use Rattle.stmt.proofs.Cells.{checks_ok, iterated_refused}
use Rattle.stmt.proofs.Compound.{elements_bad, elements_done, elements_none}
use mathlib.Core.Path.{refl}
use native.Mathlib.Omega.{arith}
use Rattle.stmt.proofs.elements.Goals as goal

pub returns-in_err-ty : goal.returns-in_err-ty
returns-in_err-ty c =
    let d = rw c.in_err-ty.was at c.tc_expr.ensures in
    rw (is_noted _ c.from_residual.ensures.0) (elements_bad c.requires.0 c.requires.1 d.0 (d.1.coded refl), d.1)

pub returns-in-Some : goal.returns-in-Some
returns-in-Some c =
    (elements_done c.requires.0 c.requires.1 (checks_ok _ c.in_ok-ty.was c.tc_expr.ensures.0) refl c.in-Some.ensures refl refl, kept_ok (λ e. cc) c.tc_expr.ensures.1)

pub returns-in-None : goal.returns-in-None
returns-in-None c = (
  iterated_refused c.refuse.ensures (elements_none c.requires.0 c.requires.1 (checks_ok _ c.in_ok-ty.was c.tc_expr.ensures.0) refl c.in-None.ensures refl),
  kept_trans c.tc_expr.ensures.1 (refused_kept (λ z. omega arith) c.refuse.ensures),
)
