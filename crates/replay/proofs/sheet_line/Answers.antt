use Rattle.std.proofs.Common.{ℕ, arith, rules}
use lib.ListN.{length-replicate}
use Rattle.replay.proofs.Fronts.{again_in, again_headed, read_fronted, refused_fronted}
use Rattle.replay.proofs.sheet_line.Goals as goal

pub text-requires : goal.text-requires
text-requires c =
    omega (arith, again_in _ _ _ c.cablebirch_write_sheet-p.ensures)

pub read_line-requires-clause-in_bounds : goal.read_line-requires-clause-in_bounds
read_line-requires-clause-in_bounds c =
    rw c.text.ensures (again_headed _ _ _ c.cablebirch_write_sheet-p.ensures c.if-code-eq-ACCEPTED.true)

pub returns-then-code-eq-ACCEPTED : goal.returns-then-code-eq-ACCEPTED
returns-then-code-eq-ACCEPTED c =
    read_fronted _ _ _ c.cablebirch_write_sheet-p.ensures (length-replicate {A = ℕ} 42532 0) c.if-code-eq-ACCEPTED.true (rw c.text.ensures at c.read_line.ensures)

pub returns : goal.returns
returns c =
    let after = rw (c.text-2.ensures, c.text-3.ensures) at c.write.ensures.out_after in
    let value = rw (c.text-2.ensures, c.text-3.ensures) at c.write.ensures.value in
    refused_fronted _ _ _ c.cablebirch_write_sheet-p.ensures (length-replicate {A = ℕ} 42532 0) c.if-code-eq-ACCEPTED.false (after, value) (search rules)
