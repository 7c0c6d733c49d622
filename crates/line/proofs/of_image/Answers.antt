use Rattle.line.proofs.Answered.{place_near, sheet_in, message_in, printable, lined, seconds, line_short}
use native.Mathlib.Omega.{arith}
use borrow.Author.Rules.{rules}
use Rattle.line.proofs.of_image.Goals as goal

pub word-requires : goal.word-requires
word-requires c =
    place_near _ _ _ _ _ _ c.cablebirch_check-a.ensures

pub text-requires : goal.text-requires
text-requires c =
    omega (arith, sheet_in _ _ _ _ _ _ c.cablebirch_check-a.ensures)

pub text-requires-2 : goal.text-requires-2
text-requires-2 c =
    omega (arith, message_in _ _ _ _ _ _ c.cablebirch_check-a.ensures)

pub write-length-requires : goal.write-length-requires
write-length-requires c =
    rw (c.text.ensures, c.text-2.ensures) (printable _ _ _ _ _ _ c.cablebirch_check-a.ensures c.requires)

pub returns-clause-lined : goal.returns-clause-lined
returns-clause-lined c =
    let after = rw (c.text.ensures, c.text-2.ensures) at c.write-length.ensures.out_after in
    let value = rw (c.text.ensures, c.text-2.ensures) at c.write-length.ensures.value in
    lined _ _ _ _ _ _ c.cablebirch_check-a.ensures c.word.ensures (after, value) (search rules)

pub returns-clause-second_told : goal.returns-clause-second_told
returns-clause-second_told c =
    seconds _ _ _ _ _ _ c.cablebirch_check-a.ensures

pub returns-clause-length_bound : goal.returns-clause-length_bound
returns-clause-length_bound c =
    line_short _ _ _ _ _ _ c.cablebirch_check-a.ensures (rw c.text-2.ensures at c.write-length.ensures.upper_bound)
