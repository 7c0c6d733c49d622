use Rattle.replay.specs.Lines.{checked_line}
use Rattle.line.proofs.One.{sheet_inside}
use Rattle.replay.proofs.Fronts.{some_line, summed, pointed, fronted}
use Rattle.std.proofs.Common.{arith}
use Rattle.replay.proofs.summed_line.Goals as goal

pub overflow_sub-length : goal.overflow_sub-length
overflow_sub-length c =
    some_line c.of_image-p.ensures.lined

pub text-requires : goal.text-requires
text-requires c =
    omega (arith, sheet_inside _ _ c.of_image-p.ensures.lined)

pub overflow_sub-length-in-25 : goal.overflow_sub-length-in-25
overflow_sub-length-in-25 c =
    some_line c.of_image-p.ensures.lined

pub returns-in-0 : goal.returns-in-0
unfolding checked_line
returns-in-0 c =
    summed c.of_image-p.ensures.lined c.in-0.is (rw c.text.ensures at c.put_checksum.ensures)

pub returns-in-25 : goal.returns-in-25
unfolding checked_line
returns-in-25 c =
    pointed c.of_image-p.ensures.lined c.in-25.is c.of_image-p.ensures.second_told c.put_second.ensures

pub returns-in_default : goal.returns-in_default
unfolding checked_line
returns-in_default c =
    fronted c.of_image-p.ensures.lined (omega arith) (omega arith)
