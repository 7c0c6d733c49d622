use Rattle.sheet.proofs.Visiting.{begun_long, visit_number, visit_nothing, walk_first, walk_step, walk_less, walk_next, walk_end}
use mathlib.Core.Path.{refl, ◌∙◌}
use native.Mathlib.Omega.{arith}
use Rattle.sheet.proofs.writer.visit.Goals as goal

pub is_new-requires : goal.is_new-requires
is_new-requires c =
    visit_number c.requires

pub returns-then-not-is_new-clause-visited : goal.returns-then-not-is_new-clause-visited
returns-then-not-is_new-clause-visited c =
    visit_nothing c.requires c.is_new.ensures c.if-not-is_new.true

pub returns-then-not-is_new-clause-path_len_unchanged : goal.returns-then-not-is_new-clause-path_len_unchanged
returns-then-not-is_new-clause-path_len_unchanged c =
    refl

pub loop-depth-init : goal.loop-depth-init
loop-depth-init c =
    walk_first c.requires c.is_new.ensures c.if-not-is_new.false refl

pub step-depth-requires : goal.step-depth-requires
step-depth-requires c =
    walk_step c.loop-depth.invariant c.loop-depth-test.true

pub loop-depth-smaller : goal.loop-depth-smaller
loop-depth-smaller c =
    walk_less c.loop-depth.invariant c.step-depth.ensures

pub loop-depth-preserved : goal.loop-depth-preserved
loop-depth-preserved c =
    walk_next c.loop-depth.invariant c.step-depth.ensures

pub returns-clause-visited : goal.returns-clause-visited
returns-clause-visited c =
    walk_end c.loop-depth.invariant (λ h. absurd (omega (arith, c.loop-depth-test.false)))

pub returns-clause-path_len_unchanged : goal.returns-clause-path_len_unchanged
returns-clause-path_len_unchanged c =
    c.loop-depth.invariant.long ∙ begun_long c.args.path.now 0 c.args.i refl
