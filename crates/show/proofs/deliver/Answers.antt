use mathlib.Core.Path.{refl}
use lib.Seq.{length-take-le}
use Rattle.show.proofs.Whole.{no_room, handed_out}
use native.Mathlib.Omega.{arith}
use Rattle.show.proofs.deliver.Goals as goal

pub returns-then-out-n : goal.returns-then-out-n
returns-then-out-n c =
    no_room _ c.args.n c.args.text.now c.args.out.now c.requires refl c.if-out-n.true

pub put-requires : goal.put-requires
put-requires c =
    rw c.text.ensures (omega (arith, c.if-out-n.false, length-take-le c.args.n c.args.text.now c.requires))

pub returns : goal.returns
returns c =
    handed_out _ c.args.n c.args.text.now c.args.out.now c.requires refl c.if-out-n.false (rw c.text.ensures at c.put.ensures.buf_after) (rw c.text.ensures at c.put.ensures.value)
