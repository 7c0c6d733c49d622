-- Index, by the kind of the object.
use mathlib.Core.Path.{◌≡◌, refl, sym, ap, ◌∙◌}
use mathlib.Core.Logic.{◌⊎◌, inl, inr}
use mathlib.Core.List.{List, [], ◌∷◌}
use mathlib.Core.Bool.{true}
use Prim.Native.Nat.{ℕ, ◌<◌}
use native.Mathlib.Omega.{arith}
use borrow.Author.Tests.{eq-eqb, ne_eqb}
use lib.Dec.{eqb}
use Rattle.meaning.specs.Base.{◌or◌, test◌then◌else◌, choose, base_open}
use Rattle.meaning.specs.Types.{Ty, unknown, int, string, same, maybe, kind, plain}
use Rattle.meaning.specs.Image.{Name}
use Rattle.meaning.specs.Message.{a_type}
use Rattle.meaning.specs.Operators.{ok, when}
use Rattle.meaning.specs.Rules.{index_rule}
use Rattle.types.specs.Table.{Tab, Wf, denote, Means}
use Rattle.types.specs.declared.Kind.{Kind}
use Rattle.types.specs.Kinds.{kind_number}
use Rattle.types.specs.Reading.{Known, KindOf, PartOf, CommonOf, IsTuple}
use Rattle.types.proofs.Laws.{plain_number, unknown_number, same_unknown}
use Rattle.types.proofs.Readers.{is_tuple}
use Rattle.std.specs.Prelude.{Ok, Err}
use Rattle.codes.specs.declared.Code.TheVariants.{DictKey, NotSubscriptable}
use Rattle.rules.specs.Outcome.{Decision, types_named, because, decision_code, Decides}
use Rattle.rules.specs.Leaves.{Expected, Keyed, index_place, Indexed}
use Rattle.rules.proofs.Outcomes.{accepts, refuses_one, refuses_two}
use Rattle.rules.proofs.Arguments.{maybe_number}

names_key : types_named 47 ≡ 2
unfolding types_named base_open
names_key = refl

-- ---- a Dict's key, by numbers

module _ (k i v : ℕ) where
  key_by : {t : Tab} → Wf t → k < t.n → i < t.n
      → (maybe (denote t k) (denote t i) or same (denote t k) unknown) ≡ (eqb i k or eqb i 0 or eqb k 0)
  key_by w hk hi = rw (maybe_number w k i hk hi, same_unknown w k hk)

  -- one of the three holds
  pub key_yes : (i ≡ k) ⊎ (((i ≡ k → ⊥) × (i ≡ 0)) ⊎ ((i ≡ k → ⊥) × (i ≡ 0 → ⊥) × (k ≡ 0))) → Keyed k i v (Ok v)
  unfolding when test◌then◌else◌ ◌or◌
  key_yes e = record {
    says = λ ws t n w hk hi hv. accepts n v hv (rw (key_by w hk hi, fits e));
    codes = inl refl;
  }
    where
      fits : (i ≡ k) ⊎ (((i ≡ k → ⊥) × (i ≡ 0)) ⊎ ((i ≡ k → ⊥) × (i ≡ 0 → ⊥) × (k ≡ 0))) → (eqb i k or eqb i 0 or eqb k 0) ≡ true
      fits (inl a) = rw (eq-eqb i k a)
      fits (inr (inl a)) = rw (ne_eqb i k a.0, eq-eqb i 0 a.1)
      fits (inr (inr a)) = rw (ne_eqb i k a.0, ne_eqb i 0 a.1, eq-eqb k 0 a.2)

  pub key_not : (i ≡ k → ⊥) × (i ≡ 0 → ⊥) × (k ≡ 0 → ⊥) → Keyed k i v (Err (because DictKey k i))
  unfolding when test◌then◌else◌ ◌or◌
  key_not d = record {
    says = λ ws t n w hk hi hv.
        refuses_two n DictKey k i names_key hk hi (rw (key_by w hk hi, ne_eqb i k d.0, ne_eqb i 0 d.1, ne_eqb k 0 d.2));
    codes = inr refl;
  }

-- ---- the object's kind

pub known_tuple : {cs : List ℕ} {i : ℕ} {k : Kind} → Known cs i → KindOf cs i k → kind_number k ≡ 10 → IsTuple cs i
known_tuple {cs} {i} d r e =
    rw d.cells at (is_tuple d.wf i d.below (sym (r.says d.table d.cells d.wf d.below) ∙ e))

names_list : types_named 46 ≡ 1
unfolding types_named base_open
names_list = refl

names_tuple : types_named 48 ≡ 1
unfolding types_named base_open
names_tuple = refl

names_string : types_named 49 ≡ 1
unfolding types_named base_open
names_string = refl

names_object : types_named 50 ≡ 1
unfolding types_named base_open
names_object = refl

at_index : (code c m n : ℕ) → (c ≡ 50 → ⊥) → (code ≡ 0) ⊎ (code ≡ c) → index_place code m n ≡ n
unfolding index_place test◌then◌else◌
at_index code c m n d (inl e) = rw e
at_index code c m n d (inr e) = rw (e, ne_eqb c 50 d)

-- an Int is expected
by_int : {i c r : ℕ} {d : Decision} → (c ≡ 50 → ⊥) → types_named c ≡ 1 → Expected 1 i c r d
    → (ws : List Name) (t : Tab) (m n : ℕ) (ty : Ty) → Wf t → i < t.n → Means t r ty
    → Decides ws t (when (maybe int (denote t i)) ty c n (a_type (denote t i) ∷ [])) (index_place (decision_code d) m n) d
unfolding plain
by_int {i} {c} {r} {d} z k x ws t m n ty w h y =
    rw (at_index (decision_code d) c m n z x.codes)
    (rw (plain_number w 1 (omega arith), y.means) at (x.says ws t n k w h (omega (arith, w.base)) y.below))

module _ {cs : List ℕ} {o : ℕ} {k : Kind} (kind_is : KindOf cs o k) (i : ℕ) where
  own : (t : Tab) → t.cells ≡ cs → Wf t → o < t.n → {x : ℕ} → kind_number k ≡ x → kind (denote t o) ≡ x
  own t s w h e = sym (kind_is.says t s w h) ∙ e

  pub index_unknown : kind_number k ≡ 0 → Indexed cs o i (Ok 0)
  unfolding index_rule choose test◌then◌else◌
  index_unknown z = record {
    says = λ ws t m n s w ho hi.
        accepts _ 0 (omega (arith, w.base)) (rw (own t s w ho z) (ap ok (sym (unknown_number w))));
  }

  pub index_other : (kind_number k ≡ 0 → ⊥) → (kind_number k ≡ 3 → ⊥) → (kind_number k ≡ 8 → ⊥) → (kind_number k ≡ 9 → ⊥) → (kind_number k ≡ 10 → ⊥) → Indexed cs o i (Err (because NotSubscriptable o 0))
  unfolding index_rule choose test◌then◌else◌ index_place
  index_other d0 d3 d8 d9 d10 = record {
    says = λ ws t m n s w ho hi.
        refuses_one m NotSubscriptable o 0 names_object ho
        (rw (own t s w ho refl, ne_eqb (kind_number k) 0 d0, ne_eqb (kind_number k) 3 d3, ne_eqb (kind_number k) 8 d8, ne_eqb (kind_number k) 9 d9, ne_eqb (kind_number k) 10 d10));
  }

  module _ {d : Decision} where
    pub index_string : kind_number k ≡ 3 → Expected 1 i 49 3 d → Indexed cs o i d
    unfolding index_rule choose test◌then◌else◌ plain
    index_string z x = record {
      says = λ ws t m n s w ho hi.
          rw (own t s w ho z)
          (by_int (λ e. absurd (omega arith)) names_string x ws t m n string w hi
          (record { below = omega (arith, w.base); means = plain_number w 3 (omega arith) }));
    }

    pub index_list : {r : ℕ} → kind_number k ≡ 8 → PartOf cs 0 o r → Expected 1 i 46 r d → Indexed cs o i d
    unfolding index_rule choose test◌then◌else◌
    index_list z y x = record {
      says = λ ws t m n s w ho hi.
          let e : kind (denote t o) ≡ 8 = own t s w ho z in
          rw e (by_int (λ e. absurd (omega arith)) names_list x ws t m n _ w hi (y.says t s w ho (λ f. absurd (omega arith))));
    }

    pub index_tuple : {r : ℕ} → kind_number k ≡ 10 → CommonOf cs o r → Expected 1 i 48 r d → Indexed cs o i d
    unfolding index_rule choose test◌then◌else◌
    index_tuple z y x = record {
      says = λ ws t m n s w ho hi.
          let e : kind (denote t o) ≡ 10 = own t s w ho z in
          rw e (by_int (λ e. absurd (omega arith)) names_tuple x ws t m n _ w hi (y.says t s w ho e));
    }

    pub index_dict : {p q : ℕ} → kind_number k ≡ 9 → PartOf cs 0 o p → PartOf cs 1 o q → Keyed p i q d → Indexed cs o i d
    unfolding index_rule choose test◌then◌else◌
    index_dict z y v x = record {
      says = λ ws t m n s w ho hi.
          let e : kind (denote t o) ≡ 9 = own t s w ho z in
          let y1 = y.says t s w ho (λ f. absurd (omega arith)) in
          let v1 = v.says t s w ho (λ f. absurd (omega arith)) in
          rw (e, at_index (decision_code d) 47 m n (λ f. absurd (omega arith)) x.codes)
          (rw (y1.means, v1.means) at (x.says ws t n w y1.below hi v1.below));
    }
