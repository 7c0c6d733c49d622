use mathlib.Core.Path.{refl}
use lib.ListN.{length-replicate}
use Prim.Native.Nat.{ℕ}
use Rattle.meaning.specs.Limits.{sheet_buffer, message_buffer}
use Rattle.line.proofs.Answered.{sheet_in, message_in, printable, lined, seconds}
use Rattle.verbs.proofs.Said.{says_loads, look_sheet, says_look, says_refused}
use Rattle.words.proofs.Laws.{wrote}
use Rattle.meaning.specs.Base.{bytes}
use native.Mathlib.Omega.{arith}
use borrow.Author.Rules.{rules}
use Rattle.verbs.proofs.say_load.Goals as goal

pub text-requires : goal.text-requires
text-requires c =
    let d = rw c.in-Ok-Look.field-0-is at c.in-Ok-Look.ensures.decides in
    omega (arith, c.in-Ok-Look.n-is, sheet_in _ _ _ _ _ _ d.replies)

pub put_look-requires-clause-sheet_value : goal.put_look-requires-clause-sheet_value
put_look-requires-clause-sheet_value c =
    let d = rw c.in-Ok-Look.field-0-is at c.in-Ok-Look.ensures.decides in
    look_sheet _ (rw (length-replicate {A = ℕ} sheet_buffer 0, length-replicate {A = ℕ} message_buffer 0) at d) (rw c.in-Ok-Look.n-is at c.text.ensures) refl

pub text-requires-in-Err : goal.text-requires-in-Err
text-requires-in-Err c =
    let d = rw (← c.replied-p.ensures) at c.in-Err.ensures.decides in
    omega (arith, sheet_in _ _ _ _ _ _ d.replies)

pub text-requires-in-Err-2 : goal.text-requires-in-Err-2
text-requires-in-Err-2 c =
    let d = rw (← c.replied-p.ensures) at c.in-Err.ensures.decides in
    omega (arith, message_in _ _ _ _ _ _ d.replies)

pub write-line-requires : goal.write-line-requires
write-line-requires c =
    let d = rw (← c.replied-p.ensures) at c.in-Err.ensures.decides in
    rw (c.text-in-Err.ensures, c.text-in-Err-2.ensures) (printable _ _ _ _ _ _ d.replies (omega (arith, c.requires, length-replicate {A = ℕ} message_buffer 0)))

pub returns-in-Ok-Loads-clause-says : goal.returns-in-Ok-Loads-clause-says
unfolding bytes
returns-in-Ok-Loads-clause-says c =
    let d = rw c.in-Ok-Loads.field-0-is at c.in-Ok-Loads.ensures.decides in
    (says_loads _ (rw (length-replicate {A = ℕ} sheet_buffer 0, length-replicate {A = ℕ} message_buffer 0) at d) refl
    (wrote (bytes "loads\n") (omega arith) c.put.ensures.buf_after c.put.ensures.value)).0

pub returns-in-Ok-Look-clause-says : goal.returns-in-Ok-Look-clause-says
returns-in-Ok-Look-clause-says c =
    let d = rw c.in-Ok-Look.field-0-is at c.in-Ok-Look.ensures.decides in
    (says_look _ (rw (length-replicate {A = ℕ} sheet_buffer 0, length-replicate {A = ℕ} message_buffer 0) at d) (rw c.in-Ok-Look.n-is at c.text.ensures) refl
    c.put_look.ensures).0

pub returns-in-Err-clause-says : goal.returns-in-Err-clause-says
returns-in-Err-clause-says c =
    let n = length-replicate {A = ℕ} sheet_buffer 0 in
    let m = length-replicate {A = ℕ} message_buffer 0 in
    let d = rw (← c.replied-p.ensures) at c.in-Err.ensures.decides in
    let after = rw (c.text-in-Err.ensures, c.text-in-Err-2.ensures) at c.write-line.ensures.out_after in
    let value = rw (c.text-in-Err.ensures, c.text-in-Err-2.ensures) at c.write-line.ensures.value in
    (says_refused _ (rw (n, m) at d) (λ e. omega (arith, e)) (λ e. omega (arith, e))
    (rw (n, m) at (lined _ _ _ _ _ _ d.replies c.word.ensures (after, value) (search rules))) (rw (n, m) at (seconds _ _ _ _ _ _ d.replies))
    c.put_first.ensures.wrote).0
