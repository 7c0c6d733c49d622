-- Answers that may be none: what two types agree on.
use mathlib.Core.Path.{◌≡◌, ◌∙◌}
use mathlib.Core.Option.{none, some}
use mathlib.Core.Logic.{◌⊎◌, inl, inr}
use Prim.Native.Nat.{ℕ, ◌<◌}
use Rattle.std.specs.Prelude.{Option, Some, None}
use borrow.Author.Tests.{eq-eqb, ne_eqb}
use lib.Dec.{eqb}
use Rattle.meaning.specs.Base.{◌or◌, test◌then◌else◌}
use Rattle.meaning.specs.Walk.{agreed}
use Rattle.types.specs.Table.{Tab, Wf, denote}
use Rattle.types.specs.Reading.{perhaps, Agreement}
use Rattle.types.proofs.Laws.{same_number, same_unknown}

pub perhaps_yes : (t : Tab) {r : Option ℕ} {k : ℕ} → r ≡ Some k → perhaps t r ≡ some (denote t k)
unfolding perhaps
perhaps_yes t e = rw e

pub perhaps_no : (t : Tab) {r : Option ℕ} → r ≡ None → perhaps t r ≡ none
unfolding perhaps
perhaps_no t e = rw e

-- ---- agreed, by the numbers

agreed_by : {t : Tab} → Wf t → (a b : ℕ) → a < t.n → b < t.n
    → agreed (denote t a) (denote t b) ≡ (test eqb a 0 or eqb a b then some (denote t b) else test eqb b 0 then some (denote t a) else none)
unfolding agreed
agreed_by w a b ha hb = rw (same_unknown w a ha, same_number w a b ha hb, same_unknown w b hb)

module _ (a b : ℕ) where
  pub agree_new : (a ≡ 0) ⊎ ((a ≡ 0 → ⊥) × (a ≡ b)) → Agreement a b (Some b)
  unfolding perhaps test◌then◌else◌ ◌or◌
  agree_new (inl e) = record { says = λ t w ha hb. agreed_by w a b ha hb ∙ rw (eq-eqb a 0 e); below = λ t ha hb k z. let e : b ≡ k = cc in rw (← e) hb }
  agree_new (inr e) = record {
    says = λ t w ha hb. agreed_by w a b ha hb ∙ rw (ne_eqb a 0 e.0, eq-eqb a b e.1);
    below = λ t ha hb k z. let e : b ≡ k = cc in rw (← e) hb;
  }

  pub agree_old : (a ≡ 0 → ⊥) × (a ≡ b → ⊥) → b ≡ 0 → Agreement a b (Some a)
  unfolding perhaps test◌then◌else◌ ◌or◌
  agree_old n e = record {
    says = λ t w ha hb. agreed_by w a b ha hb ∙ rw (ne_eqb a 0 n.0, ne_eqb a b n.1, eq-eqb b 0 e);
    below = λ t ha hb k z. let e : a ≡ k = cc in rw (← e) ha;
  }

  pub agree_not : (a ≡ 0 → ⊥) × (a ≡ b → ⊥) → (b ≡ 0 → ⊥) → Agreement a b None
  unfolding perhaps test◌then◌else◌ ◌or◌
  agree_not n e = record {
    says = λ t w ha hb. agreed_by w a b ha hb ∙ rw (ne_eqb a 0 n.0, ne_eqb a b n.1, ne_eqb b 0 e);
    below = λ t ha hb k z. absurd (cc);
  }
