use native.Mathlib.Omega.{arith}
use Rattle.sheet.proofs.Reading.{form_none, form_asked, form_made}
use Rattle.sheet.proofs.reader.form_other.Goals as goal

pub returns-then-kind-lt-STRUCTURED : goal.returns-then-kind-lt-STRUCTURED
returns-then-kind-lt-STRUCTURED c =
    form_none c.requires _ _ (λ l m. absurd (omega arith))

pub form-requires : goal.form-requires
form-requires c =
    let e = c.numbered-kind.ensures.known (omega arith) in
    rw (← e) (form_asked c.requires _ _ (λ h. absurd (omega arith)) (λ h. absurd (omega arith)) c.number_in-a.ensures.value (rw (← e) at c.second_in-b.ensures))

pub returns : goal.returns
returns c =
    let e = c.numbered-kind.ensures.known (omega arith) in
    form_made c.requires _ _ (λ h. absurd (omega arith)) (λ h. absurd (omega arith)) c.number_in-a.ensures.value (rw (← e) at c.second_in-b.ensures) (rw (← e) at c.form.ensures)
