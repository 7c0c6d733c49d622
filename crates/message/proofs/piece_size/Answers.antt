use Rattle.message.proofs.Filling.{small_type, counts_none, counts_type, counts_text, counts_number, counts_range, counts_any}
use native.Mathlib.Omega.{arith}
use Rattle.message.proofs.piece_size.Goals as goal

pub offset_bounds-lens-i : goal.offset_bounds-lens-i
offset_bounds-lens-i c =
    let low = small_type (rw c.in-OfType.is at c.requires) in omega (arith, c.well_formed)

pub bounds-lens-i : goal.bounds-lens-i
bounds-lens-i c =
    small_type (rw c.in-OfType.is at c.requires)

pub overflow_add-result : goal.overflow_add-result
overflow_add-result c =
    omega (arith, c.decimal_length-in-OfRange.ensures.lower_bound)

pub overflow_add-result-in-OfRange : goal.overflow_add-result-in-OfRange
overflow_add-result-in-OfRange c =
    omega (arith, c.decimal_length-in-OfRange.ensures.lower_bound, c.decimal_length-in-OfRange-2.ensures.lower_bound)

pub returns-in-Nothing : goal.returns-in-Nothing
returns-in-Nothing c =
    rw c.in-Nothing.is (counts_none _)

pub returns-in-OfType : goal.returns-in-OfType
returns-in-OfType c =
    rw c.in-OfType.is (counts_type _ _)

pub returns-in-OfText : goal.returns-in-OfText
returns-in-OfText c =
    rw c.in-OfText.is (counts_text _ _ _)

pub returns-in-OfNumber : goal.returns-in-OfNumber
returns-in-OfNumber c =
    rw c.in-OfNumber.is (counts_number _ _ c.decimal_length.ensures.value)

pub returns-in-OfRange : goal.returns-in-OfRange
returns-in-OfRange c =
    rw c.in-OfRange.is (counts_range _ _ _ c.decimal_length-in-OfRange.ensures.value c.decimal_length-in-OfRange-2.ensures.value)

pub returns-in-OfAny : goal.returns-in-OfAny
returns-in-OfAny c =
    rw c.in-OfAny.is (counts_any _)
