-- How a decision is made, and how it is used.
use mathlib.Core.Path.{◌≡◌, refl, sym, ap, ◌∙◌}
use mathlib.Core.List.{List, [], ◌∷◌}
use Prim.Native.Nat.{ℕ, ◌≤◌, ◌<◌}
use native.Mathlib.Omega.{arith}
use borrow.Author.Tests.{eq-eqb, ne_eqb}
use Rattle.types.specs.Reading.{Known}
use Rattle.meaning.specs.Base.{test◌then◌else◌, choose, base_open}
use Rattle.meaning.specs.Image.{Name}
use Rattle.meaning.specs.Message.{a_type, refusal}
use Rattle.meaning.specs.Operators.{Checked, ok, refused}
use Rattle.types.specs.Table.{Tab, Wf, denote}
use Rattle.rules.specs.declared.Reason.{Reason}
use Rattle.std.specs.Prelude.{Ok, Err}
use Rattle.codes.specs.declared.Code.{Code}
use Rattle.codes.specs.Codes.{code_number}
use Rattle.rules.specs.Outcome.{Decision, types_named, pieces, because, decision_code, decided, Decides}

pub known : {t : Tab} {i : ℕ} → Wf t → i < t.n → Known t.cells i
known {t} w h = record { table = t; cells = refl; wf = w; below = h }

-- ---- a decision's meaning, by its code

zero_names_none : types_named 0 ≡ 0
unfolding types_named base_open
zero_names_none = refl

pub names_none : {c : ℕ} → c ≡ 0 → types_named c ≡ 0
names_none e = rw e zero_names_none

names_code : (c : ℕ) → 1 ≤ types_named c → c ≡ 0 → ⊥
names_code c h e = omega (arith, names_none e)

pub was_ok : (ws : List Name) (t : Tab) (c n number a b : ℕ) → c ≡ 0 → decided ws t c n number a b ≡ ok (denote t number)
unfolding decided test◌then◌else◌
was_ok ws t c n number a b e = rw (eq-eqb c 0 e)

pub was_refused : (ws : List Name) (t : Tab) (c n number a b : ℕ) → (c ≡ 0 → ⊥)
    → decided ws t c n number a b ≡ refused (refusal c n (pieces ws t c a b))
unfolding decided test◌then◌else◌
was_refused ws t c n number a b e = rw (ne_eqb c 0 e)

one_piece : (ws : List Name) (t : Tab) (c a b : ℕ) → types_named c ≡ 1 → pieces ws t c a b ≡ a_type (denote t a) ∷ []
unfolding pieces choose test◌then◌else◌
one_piece ws t c a b e = rw e

two_pieces : (ws : List Name) (t : Tab) (c a b : ℕ) → types_named c ≡ 2 → pieces ws t c a b ≡ a_type (denote t a) ∷ a_type (denote t b) ∷ []
unfolding pieces choose test◌then◌else◌
two_pieces ws t c a b e = rw e

-- ---- decisions of each form

module _ {ws : List Name} {t : Tab} {r : Checked} (n : ℕ) where
  pub accepts : (number : ℕ) → number < t.n → r ≡ ok (denote t number) → Decides ws t r n (Ok number)
  accepts number h s = record {
    says = s ∙ sym (was_ok ws t 0 n number 0 0 refl);
    below = λ z. h;
    first = λ l. absurd (omega (arith, zero_names_none));
    second = λ l. absurd (omega (arith, zero_names_none));
    small = λ z. absurd (z refl);
  }

  module _ (c : Code) (a b : ℕ) where
    refuses : (code_number c ≡ 0 → ⊥) → (1 ≤ types_named (code_number c) → a < t.n) → (2 ≤ types_named (code_number c) → b < t.n)
        → (types_named (code_number c) ≡ 0 → (a < 4294967296) × (b < 4294967296)) → r ≡ refused (refusal (code_number c) n (pieces ws t (code_number c) a b))
        → Decides ws t r n (Err (because c a b))
    refuses z ha hb hs s = record {
      says = s ∙ sym (was_refused ws t (code_number c) n 0 a b z);
      below = λ e. absurd (z e);
      first = ha;
      second = hb;
      small = λ z. hs;
    }

    pub refuses_one : types_named (code_number c) ≡ 1 → a < t.n → r ≡ refused (refusal (code_number c) n (a_type (denote t a) ∷ []))
        → Decides ws t r n (Err (because c a b))
    refuses_one k h s =
        refuses (names_code (code_number c) (omega arith)) (λ l. h) (λ l. absurd (omega arith)) (λ l. absurd (omega arith))
        (s ∙ ap (λ ps. refused (refusal (code_number c) n ps)) (sym (one_piece ws t (code_number c) a b k)))

    pub refuses_two : types_named (code_number c) ≡ 2 → a < t.n → b < t.n → r ≡ refused (refusal (code_number c) n (a_type (denote t a) ∷ a_type (denote t b) ∷ []))
        → Decides ws t r n (Err (because c a b))
    refuses_two k ha hb s =
        refuses (names_code (code_number c) (omega arith)) (λ l. ha) (λ l. hb) (λ l. absurd (omega arith))
        (s ∙ ap (λ ps. refused (refusal (code_number c) n ps)) (sym (two_pieces ws t (code_number c) a b k)))
