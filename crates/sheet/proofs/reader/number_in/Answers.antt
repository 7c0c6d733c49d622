use Rattle.sheet.proofs.Reading.{number_plain, number_found, number_none}
use mathlib.Core.Path.{sym, ◌∙◌}
use native.Mathlib.Omega.{arith}
use Rattle.sheet.proofs.reader.number_in.Goals as goal

pub returns-then-n-lt-STRUCTURED-clause-value : goal.returns-then-n-lt-STRUCTURED-clause-value
returns-then-n-lt-STRUCTURED-clause-value c =
    sym (number_plain _ _ c.if-n-lt-STRUCTURED.true)

pub returns-then-n-numbers-clause-value : goal.returns-then-n-numbers-clause-value
returns-then-n-numbers-clause-value c =
    c.from.ensures ∙ number_found c.args.numbers.now c.args.n (λ h. absurd (omega (arith, c.if-n-lt-STRUCTURED.false)))

pub returns-clause-value : goal.returns-clause-value
returns-clause-value c =
    number_none c.args.numbers.now c.args.n (λ h. absurd (omega (arith, c.if-n-lt-STRUCTURED.false))) (λ h. absurd (omega (arith, c.if-n-numbers.false)))
