use Rattle.sheet.proofs.Reading.{sheet_bounds}
use Rattle.meaning.proofs.Choices.{not_so}
use native.Mathlib.Omega.{arith}
use Rattle.sheet.proofs.reader.areas_of.Goals as goal

pub returns-then-sheet-lt-LENGTH : goal.returns-then-sheet-lt-LENGTH
returns-then-sheet-lt-LENGTH c =
    not_so _ (λ h. let b = sheet_bounds _ h in absurd (omega (arith, b.long, b.short)))

pub returns-then-types-gt-MOST_TYPES : goal.returns-then-types-gt-MOST_TYPES
returns-then-types-gt-MOST_TYPES c =
    not_so _ (λ h. let b = sheet_bounds _ h in absurd (omega (arith, b.types, b.elements, b.names)))

pub returns-then-sheet-texts_at : goal.returns-then-sheet-texts_at
returns-then-sheet-texts_at c =
    not_so _ (λ h. let b = sheet_bounds _ h in absurd (omega (arith, b.long)))
