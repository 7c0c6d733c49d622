use Rattle.message.proofs.Types.{known_kind, known_parts, known_part, part_is}
use Rattle.message.proofs.Writing.{left_all, left_step, opening_fits, opened, comma_fits, comma_put, part_fits, closing_left, written}
use native.Mathlib.Omega.{arith}
use Rattle.types.proofs.Readers.{known_room}
use Rattle.message.proofs.+put_type.Goals as goal

pub kind_of-requires : goal.kind_of-requires
kind_of-requires t c = known_room c.requires.known

pub put_opening-end-requires : goal.put_opening-end-requires
put_opening-end-requires t c =
    opening_fits _ _ _ _ (known_kind c.requires.known c.kind_of.ensures) c.requires.i_in_bounds

pub parts_of-j-end-requires : goal.parts_of-j-end-requires
parts_of-j-end-requires t c = known_room c.requires.known

pub loop-j-init : goal.loop-j-init
loop-j-init t c =
    left_all _ _ _
    (opened _ _ (known_kind c.requires.known c.kind_of.ensures) c.requires.i_in_bounds c.put_opening-end.ensures.out_after
    c.put_opening-end.ensures.value).fits

pub put_comma-end-requires : goal.put_comma-end-requires
put_comma-end-requires t c =
    (comma_fits _ _ _ c.loop-j.invariant (omega (arith, known_parts c.requires.known c.parts_of-j-end.ensures)))

pub part_at-requires : goal.part_at-requires
part_at-requires t c = known_part c.requires.known (omega (arith, known_parts c.requires.known c.parts_of-j-end.ensures))

pub put_type-end-requires : goal.put_type-end-requires
put_type-end-requires t c =
    let below = known_parts c.requires.known c.parts_of-j-end.ensures in
    let part = part_is c.requires.known c.part_at.ensures (omega arith) in (
      omega (arith, c.decreases, part.lower),
      (
        part.known,
        part_fits _ _ _ c.loop-j.invariant (omega arith) c.put_comma-end.ensures.out_after
            c.put_comma-end.ensures.value part,
      ),
    )

pub loop-j-preserved : goal.loop-j-preserved
loop-j-preserved t c =
    let below = known_parts c.requires.known c.parts_of-j-end.ensures in
    let part = part_is c.requires.known c.part_at.ensures (omega arith) in
    left_step _ _
    (comma_put _ _ _ c.loop-j.invariant (omega arith) c.put_comma-end.ensures.out_after
    c.put_comma-end.ensures.value part)
    c.put_type-end.ensures.out_after c.put_type-end.ensures.value

pub kind_of-requires-2 : goal.kind_of-requires-2
kind_of-requires-2 t c = known_room c.requires.known

pub put_closing-requires : goal.put_closing-requires
put_closing-requires t c =
    (closing_left _ _ _ c.loop-j.invariant (omega (arith, known_parts c.requires.known c.parts_of-j-end.ensures)) (known_kind c.requires.known c.kind_of-2.ensures)).fits

pub returns : goal.returns
returns t c =
    let first = opened _ _ (known_kind c.requires.known c.kind_of.ensures) c.requires.i_in_bounds c.put_opening-end.ensures.out_after
    c.put_opening-end.ensures.value in
    let last = closing_left _ _ _ c.loop-j.invariant (omega (arith, known_parts c.requires.known c.parts_of-j-end.ensures)) (known_kind c.requires.known c.kind_of-2.ensures) in
    let all = written first last c.put_closing.ensures.out_after c.put_closing.ensures.value in
    record { out_after = all.0; value = all.1 }
