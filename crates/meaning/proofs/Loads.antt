-- The load rule: what each of its three answers says, and when nothing is left to look at.
use mathlib.Core.Path.{◌≡◌, refl, ◌∙◌, ap, sym, subst}
use mathlib.Core.Bool.{Bool, true, false, false≢true}
use mathlib.Core.Logic.{◌⊎◌, inl, inr, ⊎_elim, ◌↔◌}
use mathlib.Core.List.{List, []}
use Prim.Native.Nat.{ℕ}
use native.Mathlib.Omega.{arith}
use borrow.Author.Tests.{eqb-true, eq-eqb, eqb-false}
use lib.Dec.{eqb}
use Rattle.meaning.specs.Base.{test◌then◌else◌, same_text}
use Rattle.meaning.specs.Sheet.{Entry}
use Rattle.meaning.specs.Read.{SheetOf}
use Rattle.meaning.specs.Answer.{Answer}
use Rattle.meaning.specs.Show.{changes}
use Rattle.meaning.specs.Load.{Loading, loads, look, refused, loading, loading_number}
use Rattle.meaning.proofs.Choices.{same_text_lem, text_same, not_so}
use Rattle.meaning.proofs.Changed.{sheets_unchanged}

-- ---- the three are three

apart : (a b : Loading) → (loading_number a ≡ loading_number b → ⊥) → a ≡ b → ⊥
apart a b n e = n (ap loading_number e)

loads_look : loads ≡ look → ⊥
loads_look = apart loads look (λ e. omega arith)

loads_refused : loads ≡ refused → ⊥
loads_refused = apart loads refused (λ e. omega arith)

look_refused : look ≡ refused → ⊥
look_refused = apart look refused (λ e. omega arith)

-- ---- which case a number tells

pub number_loads : (k : Loading) → loading_number k ≡ 0 → k ≡ loads
number_loads loads e = refl
number_loads look e = absurd (omega (arith, e))
number_loads refused e = absurd (omega (arith, e))

pub number_look : (k : Loading) → loading_number k ≡ 1 → k ≡ look
number_look loads e = absurd (omega (arith, e))
number_look look e = refl
number_look refused e = absurd (omega (arith, e))

pub number_refused : (k : Loading) → (loading_number k ≡ 0 → ⊥) → (loading_number k ≡ 1 → ⊥) → k ≡ refused
number_refused loads n m = absurd (n refl)
number_refused look n m = absurd (m refl)
number_refused refused n m = refl

-- ---- when each is given

module _ (a : Answer) (approved : List ℕ) where
  when_loads : a.code ≡ 0 → a.sheet ≡ approved → loading a approved ≡ loads
  unfolding loading test◌then◌else◌
  when_loads c e = rw (eq-eqb a.code 0 c, ← e, text_same a.sheet)

  when_look : a.code ≡ 0 → (a.sheet ≡ approved → ⊥) → loading a approved ≡ look
  unfolding loading test◌then◌else◌
  when_look c n = rw (eq-eqb a.code 0 c, not_so (same_text a.sheet approved) (λ h. n (same_text_lem a.sheet approved h)))

  when_refused : (a.code ≡ 0 → ⊥) → loading a approved ≡ refused
  unfolding loading test◌then◌else◌
  when_refused n = rw (not_so (eqb a.code 0) (λ h. n (eqb-true a.code 0 h)))

  decided : ((a.code ≡ 0) × (a.sheet ≡ approved)) ⊎ (((a.code ≡ 0) × (a.sheet ≡ approved → ⊥)) ⊎ (a.code ≡ 0 → ⊥))
  decided = by (eqb a.code 0) refl (same_text a.sheet approved) refl
    where
      by : (x : Bool) → eqb a.code 0 ≡ x → (y : Bool) → same_text a.sheet approved ≡ y
          → ((a.code ≡ 0) × (a.sheet ≡ approved)) ⊎ (((a.code ≡ 0) × (a.sheet ≡ approved → ⊥)) ⊎ (a.code ≡ 0 → ⊥))
      by true p true q = inl (eqb-true a.code 0 p, same_text_lem a.sheet approved q)
      by true p false q =
          inr (inl (eqb-true a.code 0 p, λ e. false≢true (sym q ∙ subst (λ (x : List ℕ). same_text a.sheet x ≡ true) e (text_same a.sheet))))
      by false p y q = inr (inr (eqb-false a.code 0 p))

  -- "exactly when it is accepted and its type sheet equals the last approved sheet, byte for byte"
  pub loads_exactly : (loading a approved ≡ loads) ↔ ((a.code ≡ 0) × (a.sheet ≡ approved))
  loads_exactly = (
    λ e. ⊎_elim (λ p. p)
        (λ r. absurd (⊎_elim (λ p. loads_look (sym e ∙ when_look p.0 p.1)) (λ n. loads_refused (sym e ∙ when_refused n)) r)) decided,
    λ p. when_loads p.0 p.1,
  )

  pub look_exactly : (loading a approved ≡ look) ↔ ((a.code ≡ 0) × (a.sheet ≡ approved → ⊥))
  look_exactly = (
    λ e. ⊎_elim (λ p. absurd (loads_look (sym (when_loads p.0 p.1) ∙ e)))
        (λ r. ⊎_elim (λ p. p) (λ n. absurd (look_refused (sym e ∙ when_refused n))) r) decided,
    λ p. when_look p.0 p.1,
  )

  pub refused_exactly : (loading a approved ≡ refused) ↔ (a.code ≡ 0 → ⊥)
  refused_exactly = (
    λ e. ⊎_elim (λ p. absurd (loads_refused (sym (when_loads p.0 p.1) ∙ e)))
        (λ r. ⊎_elim (λ p. absurd (look_refused (sym (when_look p.0 p.1) ∙ e))) (λ n. n) r) decided,
    λ n. when_refused n,
  )

  -- an accepted script whose sheet and the approved one are of the form: it loads exactly when nothing changed, so that whoever must look
  -- sees at least one line
  pub loads_unchanged : {es fs : List Entry} → a.code ≡ 0 → SheetOf approved es → SheetOf a.sheet fs → (loading a approved ≡ loads) ↔ (changes es fs ≡ [])
  loads_unchanged c x y =
      let s = sheets_unchanged x y in (
        λ e. s.1 (sym (loads_exactly.0 e).1),
        λ e. loads_exactly.1 (c, sym (s.0 e)),
      )
