use Rattle.frames.specs.Env.{cell_room}
use Rattle.frames.proofs.Laws.{none_below}
use Rattle.stmt.proofs.Leaves.{entering_end, entering_first, entering_here, entering_last, entering_next}
use Rattle.image.proofs.Moving.{stops}
use mathlib.Core.Path.{ap}
use native.Mathlib.Omega.{arith}
use Rattle.stmt.proofs.parameters.Goals as goal

pub loop-init : goal.loop-init
loop-init c =
    (entering_first _ _ (omega arith) c.requires.1.1.1, c.requires.1.0)

pub over-passed-requires-clause-on : goal.over-passed-requires-clause-on
over-passed-requires-clause-on c =
    record { nodes = c.loop.invariant.1; within = (entering_here c.requires.0 c.loop.invariant.0 (omega arith)).0 }

pub bind-requires-clause-top_lt_most_frames : goal.bind-requires-clause-top_lt_most_frames
bind-requires-clause-top_lt_most_frames c =
    (c.requires.1.1.0, rw (ap (λ d. d.arg) c.over-passed.ensures.node) (entering_here c.requires.0 c.loop.invariant.0 (omega arith)).1)

pub bind-requires-clause-ty_lt_cell_room : goal.bind-requires-clause-ty_lt_cell_room
bind-requires-clause-ty_lt_cell_room c =
    (omega (arith, c.blank.ensures.0), none_below c.blank.result.first cell_room c.blank.ensures.1)

pub loop-preserved : goal.loop-preserved
loop-preserved c =
    (entering_next c.requires.0 c.loop.invariant.0 (omega arith) (ap (λ d. d.arg) c.over-passed.ensures.node) (stops c.over-passed.ensures) (omega arith) c.blank.ensures.0 c.blank.ensures.1 c.bind.ensures, c.over-passed.ensures.nodes)

pub returns : goal.returns
returns c =
    ((entering_last c.loop.invariant.0 (omega arith), c.loop.invariant.1), entering_end c.loop.invariant.0 (omega arith))
