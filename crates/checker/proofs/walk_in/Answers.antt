use Rattle.checker.proofs.Lending.{lent_started}
use Rattle.checker.proofs.Outcomes.{answers_accepted, answers_deep, ran_refusing, answers_refused}
use mathlib.Core.Path.{◌≡◌, refl, ap, ◌∙◌}
use Rattle.std.specs.Prelude.{Err}
use Rattle.stmt.specs.Contract.{Answer as Ended}
use Rattle.stmt.specs.declared.Stop.{Stop}
use Rattle.stmt.specs.declared.Stop.TheVariants.{Wrong, TooDeep}
use native.Mathlib.Omega.{arith}
use Rattle.checker.proofs.walk_in.Goals as goal

pub typecheck_program-w-requires : goal.typecheck_program-w-requires
typecheck_program-w-requires c =
    lent_started c.requires c.start.auto.table c.start.ensures

pub refuse-requires-clause-refusing : goal.refuse-requires-clause-refusing
refuse-requires-clause-refusing c =
    let w = c.typecheck_program-w in
    let e : ◌≡◌ {A = Ended} w.result.end (Err Wrong) = c.in-Err-Wrong.is ∙ ap Err (rw c.in-Err-Wrong.is at c.in-Err-Wrong.field-0-is) in
    ran_refusing _ c.requires.sound (rw e at w.ensures.ran) (w.ensures.refuses.coded e) (w.ensures.refuses.typing e) c.requires.nodes_at

pub refuse-requires-clause-points : goal.refuse-requires-clause-points
refuse-requires-clause-points c =
    let w = c.typecheck_program-w in
    let e : ◌≡◌ {A = Ended} w.result.end (Err Wrong) = c.in-Err-Wrong.is ∙ ap Err (rw c.in-Err-Wrong.is at c.in-Err-Wrong.field-0-is) in
    rw e at w.ensures.points

pub returns-in-Ok : goal.returns-in-Ok
returns-in-Ok c =
    rw (← c.is_plain.ensures) (answers_accepted c.requires.sound c.typecheck_program-w.ensures.ran refl (rw c.in-Ok.is) c.accept.ensures)

pub returns-in-Err-Wrong : goal.returns-in-Err-Wrong
returns-in-Err-Wrong c =
    let w = c.typecheck_program-w in
    let e : ◌≡◌ {A = Ended} w.result.end (Err Wrong) = c.in-Err-Wrong.is ∙ ap Err (rw c.in-Err-Wrong.is at c.in-Err-Wrong.field-0-is) in
    rw (← c.is_plain.ensures) (answers_refused _ c.requires.sound (rw e at w.ensures.ran) (w.ensures.refuses.coded e) (w.ensures.refuses.typing e) _ c.refuse.ensures)

pub returns-in-Err-TooDeep : goal.returns-in-Err-TooDeep
returns-in-Err-TooDeep c =
    let w = c.typecheck_program-w in
    let e : ◌≡◌ {A = Ended} w.result.end (Err TooDeep) = c.in-Err-TooDeep.is ∙ ap Err (rw c.in-Err-TooDeep.is at c.in-Err-TooDeep.field-0-is) in
    rw (← c.is_plain.ensures) (answers_deep c.requires.sound w.ensures.ran _ _ (rw e))
