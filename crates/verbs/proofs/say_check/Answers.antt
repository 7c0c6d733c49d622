use Rattle.verbs.proofs.Said.{says_check}
use Prim.Native.Nat.{ℕ}
use lib.ListN.{length-replicate}
use Rattle.meaning.specs.Limits.{sheet_buffer, message_buffer}
use Rattle.verbs.proofs.say_check.Goals as goal

pub returns-clause-says : goal.returns-clause-says
returns-clause-says c =
    let n = length-replicate {A = ℕ} sheet_buffer 0 in
    let m = length-replicate {A = ℕ} message_buffer 0 in
    says_check (rw (n, m) at c.of_image-p.ensures.lined) (rw (n, m) at c.of_image-p.ensures.second_told) c.put_first-length.ensures.wrote c.status_of-status.ensures
