use lib.ListN.{length-replicate}
use Prim.Native.Nat.{ℕ}
use Rattle.meaning.specs.Limits.{largest_changes}
use Rattle.words.proofs.Laws.{wrote}
use Rattle.meaning.specs.Base.{bytes}
use Rattle.verbs.proofs.Said.{part_short, looks, look_front}
use native.Mathlib.Omega.{arith}
use Rattle.verbs.proofs.put_look.Goals as goal

pub returns : goal.returns
unfolding bytes
returns c =
    let a = wrote (bytes "look\n") (omega arith) c.put-at.ensures.buf_after c.put-at.ensures.value in
    let b = wrote _ (omega (arith, a.long, a.ends, length-replicate {A = ℕ} largest_changes 0, part_short c.put_changed-n.ensures c.text.ensures)) c.put.ensures.buf_after c.put.ensures.value in
    looks _ _ (look_front c.put_changed-n.ensures c.text.ensures a b)
