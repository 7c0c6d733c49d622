use Rattle.sheet.proofs.Names.{meet_first, meet_visit, meet_next, meet_end}
use mathlib.Core.Path.{refl, ◌∙◌}
use native.Mathlib.Omega.{arith}
use Rattle.sheet.proofs.writer.meet_each.Goals as goal

pub loop-name-init : goal.loop-name-init
loop-name-init c =
    (meet_first c.requires.meeting, refl)

pub visit-requires : goal.visit-requires
visit-requires c =
    meet_visit c.loop-name.invariant.0 c.requires.open_room c.loop-name.invariant.1 (omega arith)

pub loop-name-preserved : goal.loop-name-preserved
loop-name-preserved c =
    (meet_next c.loop-name.invariant.0 (omega arith) c.visit.ensures.visited, c.visit.ensures.path_len_unchanged ∙ c.loop-name.invariant.1)

pub returns : goal.returns
returns c =
    meet_end c.loop-name.invariant.0 (λ h. absurd (omega arith))
