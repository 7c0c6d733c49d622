use mathlib.Core.Path.{refl}
use Rattle.frames.proofs.Merging.{committing_first, committing_skip, committing_put, committing_clash, committing_end}
use Rattle.frames.proofs.commit.Goals as goal
use Rattle.frames.proofs.commit.Goals.{then-m-ne-ABSENT+else-clashes-x, else-m-ne-ABSENT}

pub loop-x-init : goal.loop-x-init
loop-x-init c =
    committing_first _ _ _ _ c.requires.1

pub returns-then-clashes-x : goal.returns-then-clashes-x
returns-then-clashes-x c =
    committing_clash c.loop-x.invariant c.loop-x-test.true _ _ refl c.if-m-ne-ABSENT.true c.first_in.ensures.0 c.first_in.ensures.1 c.if-clashes-x.true

pub loop-x-preserved : goal.loop-x-preserved
loop-x-preserved c =
    elim c.if-m-ne-ABSENT.branch [
      | then-m-ne-ABSENT+else-clashes-x w ↦ rw w.frames-is (committing_put c.loop-x.invariant c.loop-x-test.true _ refl w.if-m-ne-ABSENT.true w.if-clashes-x.false c.requires.0)
      | else-m-ne-ABSENT w ↦ rw w.frames-is (committing_skip c.loop-x.invariant c.loop-x-test.true w.if-m-ne-ABSENT.false)
    ]

pub returns : goal.returns
returns c =
    committing_end c.loop-x.invariant c.loop-x-test.false
