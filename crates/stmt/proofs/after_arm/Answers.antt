use Rattle.stmt.proofs.Branching.{block_last, block_when}
use Rattle.image.proofs.Moving.{stops}
use Rattle.stmt.proofs.after_arm.Goals as goal

pub over-requires-then-left-gt1-clause-on : goal.over-requires-then-left-gt1-clause-on
over-requires-then-left-gt1-clause-on c =
    let h = rw (block_when _ c.args.left _ c.if-left-gt1.true) at c.requires.1.1 in
    record { nodes = c.over.ensures.nodes; within = rw (stops c.over.ensures) h }

pub returns-then-left-gt1 : goal.returns-then-left-gt1
returns-then-left-gt1 c =
    (rw (block_when _ c.args.left _ c.if-left-gt1.true, ← (stops c.over.ensures)) (stops c.over-then-left-gt1.ensures), c.over-then-left-gt1.ensures.nodes)

pub returns : goal.returns
returns c =
    (rw (block_last _ c.args.left _ c.if-left-gt1.false) (stops c.over.ensures), c.over.ensures.nodes)
