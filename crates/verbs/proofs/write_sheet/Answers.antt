use lib.ListN.{length-replicate}
use Prim.Native.Nat.{ℕ}
use Rattle.meaning.specs.Limits.{message_buffer}
use Rattle.verbs.proofs.Said.{writes_fine, writes_refused}
use borrow.Author.Rules.{rules}
use Rattle.verbs.proofs.write_sheet.Goals as goal

pub returns-then-p-eq0 : goal.returns-then-p-eq0
returns-then-p-eq0 c =
    let m = length-replicate {A = ℕ} message_buffer 0 in
    let all = writes_fine (rw m at c.of_image-p.ensures.lined) (rw m at c.of_image-p.ensures.second_told) c.put_first-line.ensures.wrote (search rules) c.if-p-eq0.true in
    record { writes = all.0; sheet_in_bounds = all.1 }

pub returns : goal.returns
returns c =
    let m = length-replicate {A = ℕ} message_buffer 0 in
    let all = writes_refused (rw m at c.of_image-p.ensures.lined) (rw m at c.of_image-p.ensures.second_told) c.put_first-line.ensures.wrote (search rules) c.if-p-eq0.false in
    record { writes = all.0; sheet_in_bounds = all.1 }
