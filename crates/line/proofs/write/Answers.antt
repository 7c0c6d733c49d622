use Rattle.line.proofs.Pieces.{accepted_whole, refused_whole}
use native.Mathlib.Omega.{arith}
use Rattle.line.proofs.write.Goals as goal

pub accepted_line-requires-clause-in_bounds : goal.accepted_line-requires-clause-in_bounds
accepted_line-requires-clause-in_bounds c =
    c.requires.headed c.if-code-eq0.true

pub accepted_line-requires-clause-sheet_len_bound : goal.accepted_line-requires-clause-sheet_len_bound
accepted_line-requires-clause-sheet_len_bound c =
    c.requires.short

pub accepted_line-requires-clause-in_bounds_2 : goal.accepted_line-requires-clause-in_bounds_2
accepted_line-requires-clause-in_bounds_2 c =
    omega (arith, c.requires.room)

pub returns-then-code-eq0 : goal.returns-then-code-eq0
returns-then-code-eq0 c =
    let w = accepted_whole _ _ _ _ _ _ c.if-code-eq0.true c.accepted_line.ensures.wrote in
    record { out_after = w.0; value = w.1; upper_bound = omega (arith, c.accepted_line.ensures.upper_bound) }

pub returns-else-code-eq0 : goal.returns-else-code-eq0
returns-else-code-eq0 c =
    let w = refused_whole _ _ _ _ _ _ c.if-code-eq0.false c.refused_line.ensures.wrote in
    record { out_after = w.0; value = w.1; upper_bound = c.refused_line.ensures.upper_bound }
