use Rattle.sheet.proofs.Sizes.{number_low, number_high}
use native.Mathlib.Omega.{arith}
use Rattle.sheet.proofs.writer.Marks.number_of.Goals as goal

pub returns-then-i-lt-STRUCTURED-clause-number_of : goal.returns-then-i-lt-STRUCTURED-clause-number_of
returns-then-i-lt-STRUCTURED-clause-number_of c =
    number_low _ _ c.if-i-lt-STRUCTURED.true

pub returns-clause-number_of : goal.returns-clause-number_of
returns-clause-number_of c =
    number_high _ _ _ (λ h. absurd (omega (arith, c.if-i-lt-STRUCTURED.false))) c.from.ensures
