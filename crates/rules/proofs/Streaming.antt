-- The second argument of map and filter, and the type that they give.
use mathlib.Core.Path.{◌≡◌, refl, sym, ap, ◌∙◌}
use mathlib.Core.Bool.{Bool, true, false}
use mathlib.Core.Logic.{◌⊎◌, inl, inr}
use mathlib.Core.List.{List}
use Prim.Native.Nat.{ℕ}
use native.Mathlib.Omega.{arith}
use borrow.Author.Tests.{ne_eqb}
use Rattle.meaning.specs.Base.{◌or◌, test◌then◌else◌, choose, if_some, is_in, base_open}
use Rattle.meaning.specs.Operators.{ok}
use Rattle.meaning.specs.Rules.{streamed}
use Rattle.types.specs.Table.{Tab, Wf, Made, shaped, built, denote}
use Rattle.types.specs.Steps.{Asked}
use Rattle.types.specs.declared.Kind.{Kind}
use Rattle.types.specs.declared.Kind.TheVariants as kind
use Rattle.types.proofs.OfKind.{same_kind}
use Rattle.types.specs.Kinds.{kind_number}
use Rattle.types.specs.Reading.{KindOf, perhaps, ElementOf}
use Rattle.types.proofs.Laws.{unknown_number}
use Rattle.types.proofs.Forming.{ask_map, ask_filter}
use Rattle.types.proofs.Answers.{perhaps_yes, perhaps_no}
use Rattle.std.specs.Prelude.{Option, Some, None, Ok, Err}
use Rattle.codes.specs.declared.Code.{Code}
use Rattle.codes.specs.Codes.{code_number}
use Rattle.rules.specs.Outcome.{types_named, because}
use Rattle.rules.specs.Leaves.{StreamedOf, stream_type, second_code, Asks, Streams}
use Rattle.rules.proofs.Outcomes.{names_none, accepts, refuses_one}

-- ---- what a walk gives, but for Dict and Tuple

module _ {cs : List ℕ} {i : ℕ} {k : Kind} (kind_is : KindOf cs i k) where
  pub stream_none : (k ≡ kind.Dict) ⊎ (k ≡ kind.Tuple) → StreamedOf cs i None
  unfolding streamed is_in ◌or◌ test◌then◌else◌ perhaps
  stream_none (inl e) = record { says = λ t s w h. rw (sym (kind_is.says t s w h) ∙ ap kind_number e); below = λ t s w h k z. absurd (cc) }
  stream_none (inr e) = record { says = λ t s w h. rw (sym (kind_is.says t s w h) ∙ ap kind_number e); below = λ t s w h k z. absurd (cc) }

  pub stream_other : {r : Option ℕ} → (k ≡ kind.Dict → ⊥) → (k ≡ kind.Tuple → ⊥) → ElementOf cs i r → StreamedOf cs i r
  unfolding streamed is_in ◌or◌ test◌then◌else◌
  stream_other d f x = record {
    says = λ t s w h.
        rw (
          sym (kind_is.says t s w h),
          ne_eqb (kind_number k) 9 (λ z. d (same_kind k kind.Dict z)),
          ne_eqb (kind_number k) 10 (λ z. f (same_kind k kind.Tuple z)),
        ) (x.says t s w h);
    below = x.below;
  }

-- ---- the type that is formed

module _ {t : Tab} {i : ℕ} (asks : Asks t i) where
  pub asks_filter : Asked t 12 i 0
  asks_filter = ask_filter asks.wf asks.room asks.below

  pub asks_map : Asked t 11 0 0
  asks_map = ask_map asks.wf asks.room (omega (arith, asks.wf.base))

  pub asks_element : {r : Option ℕ} {e : ℕ} → StreamedOf t.cells i r → r ≡ Some e → Asks t e
  asks_element x y = record { wf = asks.wf; room = asks.room; below = x.below t refl asks.wf asks.below _ y }

module _ {t u : Tab} {r : ℕ} (filters : Bool) (e : ℕ) where
  pub filter_made : filters ≡ true → Made t u r (built 12 (denote t e) (denote t 0)) 0 → Made t u r (stream_type filters (denote t e)) 0
  unfolding stream_type built shaped choose test◌then◌else◌
  filter_made f m = rw f m

  pub map_made : Wf t → filters ≡ false → Made t u r (built 11 (denote t 0) (denote t 0)) 0 → Made t u r (stream_type filters (denote t e)) 0
  unfolding stream_type built shaped choose test◌then◌else◌
  map_made w f m = rw (f, ← unknown_number w) m

-- ---- the decision

second_names : (filters : Bool) → types_named (second_code filters) ≡ 1
unfolding types_named second_code base_open
second_names true = refl
second_names false = refl

module _ {t : Tab} {i : ℕ} (filters : Bool) (asks : Asks t i) {element : Option ℕ} (given : StreamedOf t.cells i element) where
  pub second_refuses : {c : Code} → code_number c ≡ second_code filters → element ≡ None → Streams t t filters i (Err (because c i 0))
  unfolding if_some
  second_refuses {c} s n = record {
    says = λ ws m.
        refuses_one m c i 0 (ap types_named s ∙ second_names filters) asks.below
        (rw (given.says t refl asks.wf asks.below, perhaps_no t n, s));
    made = λ z. absurd (omega (arith, names_none z, ap types_named s, second_names filters));
    kept = λ z. refl;
  }

  pub second_gives : {u : Tab} {r e : ℕ} → element ≡ Some e → Made t u r (stream_type filters (denote t e)) 0 → Streams t u filters i (Ok r)
  unfolding if_some
  second_gives {u} {r} y m = record {
    says = λ ws n.
        accepts n r m.below
        (rw (given.says t refl asks.wf asks.below, perhaps_yes t y) (ap ok (sym m.means)));
    made = λ z. rw m.means m;
    kept = λ z. absurd (z refl);
  }
