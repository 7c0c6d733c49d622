use Prim.Native.Nat.{ℕ}
use lib.ListN.{length-replicate}
use Rattle.meaning.specs.Limits.{sheet_buffer, message_buffer}
use Rattle.typecheck.proofs.Printed.{shows}
use native.Mathlib.Omega.{arith}
use Rattle.typecheck.proofs.print_line.Goals as goal

pub returns-clause-shows : goal.returns-clause-shows
returns-clause-shows c =
    let n = length-replicate {A = ℕ} sheet_buffer 0 in
    let m = length-replicate {A = ℕ} message_buffer 0 in
    let l = rw (n, m) at c.of_image-p.ensures.lined in
    shows _ _ l (omega (arith, n)) _ c.setting_told-setting.ensures
