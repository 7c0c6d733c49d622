-- One argument of a builtin, by its number or its kind.
use mathlib.Core.Path.{◌≡◌, refl, sym, ap, ◌∙◌}
use mathlib.Core.Bool.{true, false}
use mathlib.Core.Logic.{◌⊎◌, inl, inr}
use mathlib.Core.List.{List, [], ◌∷◌}
use Prim.Native.Nat.{ℕ, ◌<◌}
use native.Mathlib.Omega.{arith}
use borrow.Author.Tests.{eq-eqb, ne_eqb}
use lib.Dec.{eqb}
use Rattle.meaning.specs.Base.{◌or◌, test◌then◌else◌, is_in, base_open}
use Rattle.meaning.specs.Types.{int, maybe, plain}
use Rattle.meaning.specs.Message.{a_type}
use Rattle.meaning.specs.Operators.{ok, when}
use Rattle.types.specs.Table.{Tab, Wf, denote}
use Rattle.types.specs.declared.Kind.{Kind}
use Rattle.types.specs.declared.Kind.TheVariants as kind
use Rattle.types.proofs.OfKind.{same_kind}
use Rattle.types.specs.Kinds.{kind_number}
use Rattle.types.specs.Reading.{KindOf}
use Rattle.types.proofs.Laws.{plain_number, same_number, same_unknown}
use Rattle.std.specs.Prelude.{Ok, Err}
use Rattle.codes.specs.declared.Code.{Code}
use Rattle.codes.specs.Codes.{code_number}
use Rattle.codes.specs.declared.Code.TheVariants.{Len}
use Rattle.rules.specs.Outcome.{Decision, types_named, because}
use Rattle.rules.specs.Leaves.{OfOne, OfNumber, Expected, prompt_rule, sized_rule, bound_rule, callable_rule}
use Rattle.rules.proofs.Outcomes.{accepts, refuses_one}

-- ---- a type that is expected

pub maybe_number : {t : Tab} → Wf t → (p i : ℕ) → p < t.n → i < t.n → maybe (denote t p) (denote t i) ≡ (eqb i p or eqb i 0)
unfolding maybe
maybe_number w p i hp hi = rw (same_number w i p hi hp, same_unknown w i hi)

module _ (p i : ℕ) (c : Code) (r : ℕ) where
  pub expect_yes : (i ≡ p) ⊎ ((i ≡ p → ⊥) × (i ≡ 0)) → Expected p i (code_number c) r (Ok r)
  unfolding when test◌then◌else◌ ◌or◌
  expect_yes e = record {
    says = λ ws t n k w hi hp hr. accepts n r hr (rw (maybe_number w p i hp hi, agree e));
    codes = inl refl;
  }
    where
      agree : (i ≡ p) ⊎ ((i ≡ p → ⊥) × (i ≡ 0)) → (eqb i p or eqb i 0) ≡ true
      agree (inl a) = rw (eq-eqb i p a)
      agree (inr a) = rw (ne_eqb i p a.0, eq-eqb i 0 a.1)

  pub expect_not : (i ≡ p → ⊥) × (i ≡ 0 → ⊥) → Expected p i (code_number c) r (Err (because c i 0))
  unfolding when test◌then◌else◌ ◌or◌
  expect_not d = record {
    says = λ ws t n k w hi hp hr. refuses_one n c i 0 k hi (rw (maybe_number w p i hp hi, ne_eqb i p d.0, ne_eqb i 0 d.1));
    codes = inr refl;
  }

-- ---- input, range, map and filter

names_prompt : types_named 39 ≡ 1
unfolding types_named base_open
names_prompt = refl

names_sized : types_named 40 ≡ 1
unfolding types_named base_open
names_sized = refl

names_bound : types_named 41 ≡ 1
unfolding types_named base_open
names_bound = refl

module _ {i : ℕ} {d : Decision} where
  pub prompt_is : Expected 3 i 39 3 d → OfNumber prompt_rule i d
  unfolding plain
  prompt_is x = record {
    says = λ ws t n w h. rw (plain_number w 3 (omega arith)) at (x.says ws t n names_prompt w h (omega (arith, w.base)) (omega (arith, w.base)));
  }

  pub bound_is : Expected 1 i 41 1 d → OfNumber bound_rule i d
  unfolding plain
  bound_is x = record {
    says = λ ws t n w h. rw (plain_number w 1 (omega arith)) at (x.says ws t n names_bound w h (omega (arith, w.base)) (omega (arith, w.base)));
  }

  pub callable_is : (c : ℕ) → types_named c ≡ 1 → Expected 7 i c i d → OfNumber (callable_rule c) i d
  unfolding plain
  callable_is c k x = record {
    says = λ ws t n w h. rw (plain_number w 7 (omega arith)) at (x.says ws t n k w h (omega (arith, w.base)) h);
  }

-- ---- len

pub sized_in : {k : Kind} → (k ≡ kind.Unknown) ⊎ ((k ≡ kind.String) ⊎ ((k ≡ kind.List) ⊎ ((k ≡ kind.Dict) ⊎ (k ≡ kind.Tuple))))
    → true ≡ is_in (kind_number k) (0 ∷ 3 ∷ 8 ∷ 9 ∷ 10 ∷ [])
unfolding is_in ◌or◌
sized_in (inl e) = rw e
sized_in (inr (inl e)) = rw e
sized_in (inr (inr (inl e))) = rw e
sized_in (inr (inr (inr (inl e)))) = rw e
sized_in (inr (inr (inr (inr e)))) = rw e

pub sized_none : (k : Kind) → (k ≡ kind.Unknown → ⊥) → (k ≡ kind.String → ⊥) → (k ≡ kind.List → ⊥) → (k ≡ kind.Dict → ⊥) → (k ≡ kind.Tuple → ⊥)
    → false ≡ is_in (kind_number k) (0 ∷ 3 ∷ 8 ∷ 9 ∷ 10 ∷ [])
unfolding is_in ◌or◌
sized_none k a b c d e =
    rw (
      ne_eqb (kind_number k) 0 (λ z. a (same_kind k kind.Unknown z)),
      ne_eqb (kind_number k) 3 (λ z. b (same_kind k kind.String z)),
      ne_eqb (kind_number k) 8 (λ z. c (same_kind k kind.List z)),
      ne_eqb (kind_number k) 9 (λ z. d (same_kind k kind.Dict z)),
      ne_eqb (kind_number k) 10 (λ z. e (same_kind k kind.Tuple z)),
    )

module _ {cs : List ℕ} {i : ℕ} {k : Kind} (kind_is : KindOf cs i k) where
  sized_by : (t : Tab) (n : ℕ) → t.cells ≡ cs → Wf t → i < t.n
      → sized_rule n (denote t i) ≡ when (is_in (kind_number k) (0 ∷ 3 ∷ 8 ∷ 9 ∷ 10 ∷ [])) int 40 n (a_type (denote t i) ∷ [])
  sized_by t n s w h = rw (kind_is.says t s w h)

  pub sized_yes : true ≡ is_in (kind_number k) (0 ∷ 3 ∷ 8 ∷ 9 ∷ 10 ∷ []) → OfOne cs sized_rule i (Ok 1)
  unfolding when test◌then◌else◌ plain
  sized_yes e = record {
    says = λ ws t n s w h.
        accepts n 1 (omega (arith, w.base))
        (sized_by t n s w h ∙ rw (sym e) (ap ok (sym (plain_number w 1 (omega arith)))));
  }

  pub sized_no : false ≡ is_in (kind_number k) (0 ∷ 3 ∷ 8 ∷ 9 ∷ 10 ∷ []) → OfOne cs sized_rule i (Err (because Len i 0))
  unfolding when test◌then◌else◌
  sized_no e = record {
    says = λ ws t n s w h. refuses_one n Len i 0 names_sized h (sized_by t n s w h ∙ rw (sym e));
  }
