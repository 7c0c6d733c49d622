use Rattle.message.proofs.Types.{known_kind, known_parts, known_part, part_is}
use Rattle.message.proofs.Writing.{due_all, due_last, opened_due, comma_due, part_due, closing_due, whole_size}
use native.Mathlib.Omega.{arith}
use Rattle.types.proofs.Readers.{known_room}
use Rattle.message.proofs.size_of.Goals as goal

pub kind_of-kind-requires : goal.kind_of-kind-requires
kind_of-kind-requires c = known_room c.requires.known

pub parts_of-j-end-requires : goal.parts_of-j-end-requires
parts_of-j-end-requires c = known_room c.requires.known

pub loop-j-init : goal.loop-j-init
loop-j-init c =
    due_all _ (opened_due _ _ (known_kind c.requires.known c.kind_of-kind.ensures) (rw c.opening.ensures at c.clip-size.ensures)).low

pub part_at-requires : goal.part_at-requires
part_at-requires c = known_part c.requires.known (omega (arith, known_parts c.requires.known c.parts_of-j-end.ensures))

pub bounds-lens-part_at : goal.bounds-lens-part_at
bounds-lens-part_at c =
    let below = known_parts c.requires.known c.parts_of-j-end.ensures in
    omega (arith, (part_is c.requires.known c.part_at.ensures (omega arith)).lower)

pub loop-j-preserved : goal.loop-j-preserved
loop-j-preserved c =
    let below = known_parts c.requires.known c.parts_of-j-end.ensures in
    let part = part_is c.requires.known c.part_at.ensures (omega arith) in
    part_due c.requires.sized part (comma_due _ _ _ c.loop-j.invariant (omega arith) (rw c.comma.ensures at c.clip-size-in-loop-j.ensures) part)
    c.clip-size-in-loop-j-2.ensures

pub returns : goal.returns
returns c =
    let below = known_parts c.requires.known c.parts_of-j-end.ensures in
    whole_size _ _ _
    (due_last _ (opened_due _ _ (known_kind c.requires.known c.kind_of-kind.ensures) (rw c.opening.ensures at c.clip-size.ensures))
    (closing_due _ _ _ c.loop-j.invariant (omega arith) (known_kind c.requires.known c.kind_of-kind.ensures) (rw c.closing.ensures at c.clip.ensures)))
