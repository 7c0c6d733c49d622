-- One turn of a List's or a Dict's rule, by numbers.
use mathlib.Core.Path.{◌≡◌, ◌∙◌}
use mathlib.Core.Bool.{true, false}
use mathlib.Core.Logic.{◌⊎◌, inl, inr}
use mathlib.Core.List.{◌∷◌}
use Rattle.std.specs.Prelude.{Some, None}
use Prim.Native.Nat.{ℕ, ◌<◌}
use native.Mathlib.Omega.{arith}
use borrow.Author.Tests.{eq-eqb, ne_eqb}
use lib.Dec.{eqb}
use Rattle.meaning.specs.Base.{◌and◌, ◌or◌, test◌then◌else◌}
use Rattle.meaning.specs.Types.{unknown, list, dict}
use Rattle.meaning.specs.Operators.{Checked, ok, ◌>>=◌}
use Rattle.meaning.specs.Rules.{Children, list_rule, joined, dict_rule}
use Rattle.types.specs.Table.{Tab, Wf, denote}
use Rattle.types.proofs.Laws.{same_number, same_unknown, unknown_number}
use Rattle.rules.specs.declared.Pair.{Pair}
use Rattle.rules.specs.Leaves.{ListStep, JoinedOf, DictStep}

-- ---- Lists

list_turn : {t : Tab} → Wf t → (a b : ℕ) (c : ℕ × Checked) (cs : Children) → a < t.n → b < t.n → c.1 ≡ ok (denote t b)
    → list_rule (denote t a) (c ∷ cs) ≡ (test eqb a 0 or eqb a b then list_rule (denote t b) cs else ok (list unknown))
unfolding list_rule ◌>>=◌
list_turn w a b c cs ha hb e = rw (e, same_unknown w a ha, same_number w a b ha hb)

-- one of the two holds: a is Unknown, or b's type
agree : (a b : ℕ) → (a ≡ 0) ⊎ ((a ≡ 0 → ⊥) × (a ≡ b)) → (eqb a 0 or eqb a b) ≡ true
unfolding ◌or◌
agree a b (inl e) = rw (eq-eqb a 0 e)
agree a b (inr e) = rw (ne_eqb a 0 e.0, eq-eqb a b e.1)

differ : (a b : ℕ) → (a ≡ 0 → ⊥) × (a ≡ b → ⊥) → (eqb a 0 or eqb a b) ≡ false
unfolding ◌or◌
differ a b n = rw (ne_eqb a 0 n.0, ne_eqb a b n.1)

module _ (a b : ℕ) where
  pub list_goes_on : (a ≡ 0) ⊎ ((a ≡ 0 → ⊥) × (a ≡ b)) → ListStep a b (Some b)
  unfolding test◌then◌else◌
  list_goes_on e = record {
    says = λ t c cs w ha hb s. list_turn w a b c cs ha hb s ∙ rw (agree a b e);
    below = λ t h k z. let x : b ≡ k = cc in rw (← x) h;
  }

  pub list_stops : (a ≡ 0 → ⊥) × (a ≡ b → ⊥) → ListStep a b None
  unfolding test◌then◌else◌
  list_stops n = record {
    says = λ t c cs w ha hb s. list_turn w a b c cs ha hb s ∙ rw (differ a b n);
    below = λ t h k z. absurd (cc);
  }

  -- ---- a key or a value joined

  joined_by : {t : Tab} → Wf t → a < t.n → b < t.n
      → joined (denote t a) (denote t b) ≡ (test eqb a 0 or eqb a b then denote t b else denote t 0)
  unfolding joined
  joined_by w ha hb = rw (same_unknown w a ha, same_number w a b ha hb, unknown_number w)

  pub join_next : (a ≡ 0) ⊎ ((a ≡ 0 → ⊥) × (a ≡ b)) → JoinedOf a b b
  unfolding test◌then◌else◌
  join_next e = record { says = λ t w ha hb. joined_by w ha hb ∙ rw (agree a b e); below = λ t w h. h }

  pub join_not : (a ≡ 0 → ⊥) × (a ≡ b → ⊥) → JoinedOf a b 0
  unfolding test◌then◌else◌
  join_not n = record { says = λ t w ha hb. joined_by w ha hb ∙ rw (differ a b n); below = λ t w h. omega (arith, w.base) }

-- ---- Dicts

module _ {x y : Pair} {key value : ℕ} (keys : JoinedOf x.key y.key key) (values : JoinedOf x.value y.value value) where
  dict_turn : {t : Tab} → Wf t → (c d : ℕ × Checked) (cs : Children) → x.key < t.n → x.value < t.n → y.key < t.n → y.value < t.n
      → c.1 ≡ ok (denote t y.key) → d.1 ≡ ok (denote t y.value)
      → dict_rule (denote t x.key) (denote t x.value) (c ∷ d ∷ cs)
      ≡ (test eqb key 0 and eqb value 0 then ok (dict unknown unknown) else dict_rule (denote t key) (denote t value) cs)
  unfolding dict_rule ◌>>=◌
  dict_turn {t} w c d cs hk hv ha hb e f =
      rw (e, f, keys.says t w hk ha, values.says t w hv hb, same_unknown w key (keys.below t w ha), same_unknown w value (values.below t w hb))

  pub dict_stops : (key ≡ 0) × (value ≡ 0) → DictStep x y None
  unfolding test◌then◌else◌ ◌and◌
  dict_stops z = record {
    says = λ t c d cs w hk hv ha hb e f. dict_turn w c d cs hk hv ha hb e f ∙ rw (z.0, z.1);
    key_below = λ t w h q e. absurd (cc);
    value_below = λ t w h q e. absurd (cc);
  }

  -- one of the two is known
  known_one : (key ≡ 0 → ⊥) ⊎ ((key ≡ 0) × (value ≡ 0 → ⊥)) → (eqb key 0 and eqb value 0) ≡ false
  unfolding ◌and◌
  known_one (inl n) = rw (ne_eqb key 0 n)
  known_one (inr n) = rw (eq-eqb key 0 n.0, ne_eqb value 0 n.1)

  pub dict_goes_on : (key ≡ 0 → ⊥) ⊎ ((key ≡ 0) × (value ≡ 0 → ⊥)) → DictStep x y (Some (record { key = key; value = value }))
  unfolding test◌then◌else◌
  dict_goes_on z = record {
    says = λ t c d cs w hk hv ha hb e f. dict_turn w c d cs hk hv ha hb e f ∙ rw (known_one z);
    key_below = λ t w h q e. let s : key ≡ q.key = cc in rw (← s) (keys.below t w h);
    value_below = λ t w h q e. let s : value ≡ q.value = cc in rw (← s) (values.below t w h);
  }
