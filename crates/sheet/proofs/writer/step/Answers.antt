use Rattle.sheet.proofs.Visiting.{step_room, step_next, step_completing, step_closed, step_place, step_part, step_begun, step_passed}
use mathlib.Core.Path.{refl}
use native.Mathlib.Omega.{arith}
use Rattle.sheet.proofs.writer.step.Goals as goal

pub parts_of-requires : goal.parts_of-requires
parts_of-requires c =
    step_room c.requires refl c.from-i.ensures c.from-j.ensures

pub complete-requires : goal.complete-requires
complete-requires c =
    step_completing c.requires refl c.from-i.ensures c.from-j.ensures c.parts_of.ensures c.if-j-parts_of.true

pub returns-then-j-parts_of : goal.returns-then-j-parts_of
returns-then-j-parts_of c =
    step_closed c.requires refl c.from-i.ensures c.from-j.ensures c.parts_of.ensures c.if-j-parts_of.true c.complete.ensures

pub part_at-p-requires : goal.part_at-p-requires
part_at-p-requires c =
    step_place c.requires refl c.from-i.ensures c.from-j.ensures c.parts_of.ensures c.if-j-parts_of.false

pub is_new-requires : goal.is_new-requires
is_new-requires c =
    step_part c.requires refl c.from-i.ensures c.from-j.ensures c.parts_of.ensures c.if-j-parts_of.false c.part_at-p.ensures

pub returns-then-is_new : goal.returns-then-is_new
returns-then-is_new c =
    step_begun c.requires refl c.from-i.ensures c.from-j.ensures c.parts_of.ensures c.if-j-parts_of.false c.part_at-p.ensures c.is_new.ensures c.if-is_new.true refl

pub overflow_add-path : goal.overflow_add-path
overflow_add-path c =
    omega (arith, step_next c.requires refl c.from-i.ensures c.from-j.ensures, c.from-j.ensures)

pub returns : goal.returns
returns c =
    step_passed c.requires refl c.from-i.ensures c.from-j.ensures c.parts_of.ensures c.if-j-parts_of.false c.part_at-p.ensures c.is_new.ensures c.if-is_new.false refl
