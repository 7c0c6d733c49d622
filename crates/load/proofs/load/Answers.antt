use Rattle.std.proofs.lemmas.Result.{err_from_is_err_and}
use mathlib.Core.Path.{sym}
use lib.ListN.{length-take}
use Rattle.load.proofs.Cases.{refused_told, sheet_in, loads_told, look_told}
use native.Mathlib.Omega.{arith}
use Rattle.load.proofs.load.Goals as goal

pub returns-in_err-n : goal.returns-in_err-n
returns-in_err-n c =
    let p = err_from_is_err_and c.from_residual.result c.from_residual.ensures.1 in
    rw (p.1, p.2) (refused_told _ _ c.in_err-n.ensures)

pub slice_bounds-same-end : goal.slice_bounds-same-end
slice_bounds-same-end c =
    let x = c.in_ok-n.ensures in
    sheet_in _ _ _ _ x.replies

pub slice_bounds-same-end-2 : goal.slice_bounds-same-end-2
slice_bounds-same-end-2 c =
    let x = c.in_ok-n.ensures in
    rw length-take (omega (arith, sheet_in _ _ _ _ x.replies))

pub returns-then-same : goal.returns-then-same
returns-then-same c =
    loads_told _ c.in_ok-n.ensures (sym c.if-same.ensures)

pub returns : goal.returns
returns c =
    look_told _ c.in_ok-n.ensures (sym c.if-same.ensures)
