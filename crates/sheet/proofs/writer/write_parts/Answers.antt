use Rattle.sheet.proofs.Areas.{parts_first, parts_place, parts_small, parts_room, parts_next, parts_end, put_one, met_room}
use native.Mathlib.Omega.{arith}
use Rattle.sheet.proofs.writer.write_parts.Goals as goal

pub elements_in-n-requires : goal.elements_in-n-requires
elements_in-n-requires c =
    met_room c.requires.met

pub loop-j-init : goal.loop-j-init
loop-j-init c =
    parts_first c.requires.met c.requires.i_in_bounds c.elements_in-n.ensures

pub part_at-requires : goal.part_at-requires
part_at-requires c =
    parts_place c.loop-j.invariant c.loop-j-test.true

pub number_of-w-requires : goal.number_of-w-requires
number_of-w-requires c =
    parts_small c.loop-j.invariant c.loop-j-test.true c.part_at.ensures

pub overflow_mul-j : goal.overflow_mul-j
overflow_mul-j c =
    omega (arith, parts_room c.loop-j.invariant c.loop-j-test.true)

pub overflow_add-at : goal.overflow_add-at
overflow_add-at c =
    omega (arith, parts_room c.loop-j.invariant c.loop-j-test.true)

pub put_word-requires : goal.put_word-requires
put_word-requires c =
    parts_room c.loop-j.invariant c.loop-j-test.true

pub loop-j-preserved : goal.loop-j-preserved
loop-j-preserved c =
    parts_next c.loop-j.invariant c.loop-j-test.true c.part_at.ensures c.number_of-w.ensures.number_of (put_one (c.put_word.ensures.buf_after, c.put_word.ensures.buf_len_unchanged))

pub returns-clause-put : goal.returns-clause-put
returns-clause-put c =
    parts_end c.loop-j.invariant (λ h. absurd (omega (arith, c.loop-j-test.false)))

pub returns-clause-value : goal.returns-clause-value
returns-clause-value c =
    rw c.loop-j.invariant.many
