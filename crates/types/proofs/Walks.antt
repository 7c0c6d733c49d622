-- What a walk over a value of a type gives, by the kind of the type's record.
use mathlib.Core.Path.{◌≡◌, refl, sym, ap, ◌∙◌}
use mathlib.Core.List.{List}
use mathlib.Core.Option.{none, some}
use Prim.Native.Nat.{ℕ, ◌≤◌, ◌<◌}
use Rattle.std.specs.Prelude.{Some, None}
use native.Mathlib.Omega.{arith}
use Rattle.meaning.specs.Base.{choose, test◌then◌else◌}
use Rattle.meaning.specs.Types.{Ty, kind, plain, part}
use Rattle.meaning.specs.Rules.{element_of}
use Rattle.types.specs.declared.Kind.{Kind}
use Rattle.types.specs.Kinds.{kind_number, Numbered}
use Rattle.types.specs.Layout.{kind_in}
use Rattle.types.specs.Table.{Tab, Wf, denote}
use Rattle.types.specs.Reading.{PartOf, CommonOf, perhaps, ElementOf}
use Rattle.types.proofs.Shapes.{each_kind}
use Rattle.types.proofs.Laws.{kind_of, plain_number}
use Rattle.types.proofs.Readers.{kind_told}

-- ---- element_of by kinds

part_element : (ty : Ty) (k : ℕ) → k ≤ 12 → 8 ≤ k → (k ≡ 10 → ⊥) → kind ty ≡ k → element_of ty ≡ some (part 0 ty)
unfolding element_of choose test◌then◌else◌
part_element ty =
    each_kind (λ k. 8 ≤ k → (k ≡ 10 → ⊥) → kind ty ≡ k → element_of ty ≡ some (part 0 ty))
    (λ l n e. absurd (omega arith))
    (λ l n e. absurd (omega arith))
    (λ l n e. absurd (omega arith))
    (λ l n e. absurd (omega arith))
    (λ l n e. absurd (omega arith))
    (λ l n e. absurd (omega arith))
    (λ l n e. absurd (omega arith))
    (λ l n e. absurd (omega arith))
    (λ l n e. rw e)
    (λ l n e. rw e)
    (λ l n e. absurd (n refl))
    (λ l n e. rw e)
    (λ l n e. rw e)

no_element : (ty : Ty) (k : ℕ) → k ≤ 12 → k < 8 → (k ≡ 0 → ⊥) → (k ≡ 3 → ⊥) → (k ≡ 6 → ⊥) → kind ty ≡ k → element_of ty ≡ none
unfolding element_of choose test◌then◌else◌
no_element ty =
    each_kind (λ k. k < 8 → (k ≡ 0 → ⊥) → (k ≡ 3 → ⊥) → (k ≡ 6 → ⊥) → kind ty ≡ k → element_of ty ≡ none)
    (λ l a b c e. absurd (a refl))
    (λ l a b c e. rw e)
    (λ l a b c e. rw e)
    (λ l a b c e. absurd (b refl))
    (λ l a b c e. rw e)
    (λ l a b c e. rw e)
    (λ l a b c e. absurd (c refl))
    (λ l a b c e. rw e)
    (λ l a b c e. absurd (omega arith))
    (λ l a b c e. absurd (omega arith))
    (λ l a b c e. absurd (omega arith))
    (λ l a b c e. absurd (omega arith))
    (λ l a b c e. absurd (omega arith))

some_below : {r n : ℕ} → r < n → (k : ℕ) → Some r ≡ Some k → k < n
some_below {r} h k e = let z : r ≡ k = cc in rw (← z) h

-- ---- element_of, by the kind k that it reads

module _ (cs : List ℕ) (i : ℕ) (k : Kind) (read : Numbered (kind_in cs i) k) where
  own : (t : Tab) → t.cells ≡ cs → Wf t → i < t.n → kind (denote t i) ≡ kind_number k
  own t e w h = sym ((kind_told cs i k read).says t e w h)

  pub walk_tuple : {r : ℕ} → kind_number k ≡ 10 → CommonOf cs i r → ElementOf cs i (Some r)
  unfolding element_of choose test◌then◌else◌ perhaps
  walk_tuple e c = record {
    says = λ t s w h. let o : kind (denote t i) ≡ 10 = own t s w h ∙ e in rw o (ap some (sym (c.says t s w h o).means));
    below = λ t s w h. some_below ((c.says t s w h (own t s w h ∙ e)).below);
  }

  pub walk_part : {r : ℕ} → 8 ≤ kind_number k → (kind_number k ≡ 10 → ⊥) → PartOf cs 0 i r → ElementOf cs i (Some r)
  unfolding test◌then◌else◌ perhaps
  walk_part l n p = record {
    says = λ t s w h.
        let o = own t s w h in
        part_element (denote t i) (kind_number k) (omega (arith, (w.low i h).known, kind_of w i h)) l n o
        ∙ ap some (sym (p.says t s w h (λ z. n (sym o ∙ z))).means);
    below = λ t s w h. some_below ((p.says t s w h (λ z. n (sym (own t s w h) ∙ z))).below);
  }

  pub walk_unknown : kind_number k ≡ 0 → ElementOf cs i (Some 0)
  unfolding element_of choose test◌then◌else◌ perhaps plain
  walk_unknown e = record {
    says = λ t s w h. rw (own t s w h ∙ e) (ap some (sym (plain_number w 0 (omega arith))));
    below = λ t s w h. some_below (omega (arith, w.base));
  }

  pub walk_string : kind_number k ≡ 3 → ElementOf cs i (Some 3)
  unfolding element_of choose test◌then◌else◌ perhaps plain
  walk_string e = record {
    says = λ t s w h. rw (own t s w h ∙ e) (ap some (sym (plain_number w 3 (omega arith))));
    below = λ t s w h. some_below (omega (arith, w.base));
  }

  pub walk_range : kind_number k ≡ 6 → ElementOf cs i (Some 1)
  unfolding element_of choose test◌then◌else◌ perhaps plain
  walk_range e = record {
    says = λ t s w h. rw (own t s w h ∙ e) (ap some (sym (plain_number w 1 (omega arith))));
    below = λ t s w h. some_below (omega (arith, w.base));
  }

  pub walk_not : (kind_number k < 8) → (kind_number k ≡ 0 → ⊥) → (kind_number k ≡ 3 → ⊥) → (kind_number k ≡ 6 → ⊥) → ElementOf cs i None
  unfolding test◌then◌else◌ perhaps
  walk_not l a b c = record {
    says = λ t s w h.
        let m : kind_number k ≤ 12 = omega (arith, (w.low i h).known, kind_of w i h, own t s w h) in
        no_element (denote t i) (kind_number k) m l a b c (own t s w h);
    below = λ t s w h k z. absurd (cc);
  }
