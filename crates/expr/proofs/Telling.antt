-- Refusals and types, handed on; and the checks of a row of children.
use mathlib.Core.Path.{◌≡◌, refl, sym, ap, ◌∙◌}
use mathlib.Core.List.{List, [], ◌∷◌}
use Prim.Native.Nat.{ℕ, zero, suc, ◌-◌, ◌≤◌, ◌<◌}
use native.Mathlib.Numerals.{sub-one}
use native.Mathlib.Omega.{arith}
use lib.ListN.{length, take}
use Rattle.meaning.specs.Types.{Ty}
use Rattle.meaning.specs.Tree.{place}
use Rattle.meaning.specs.Image.{Name, nodes_of, names_of}
use Rattle.meaning.specs.Decode.{expr_at, exprs_from, stop_of}
use Rattle.meaning.specs.Frames.{Frames}
use Rattle.meaning.specs.Operators.{Checked, ok, ◌>>=◌}
use Rattle.meaning.specs.Rules.{child, check, check_all}
use Rattle.types.specs.Table.{Tab, denote, Made}
use Rattle.rules.proofs.Outcomes.{names_none}
use Rattle.state.specs.Giving.{Told, Given}
use Rattle.state.specs.Notes.{code_in, place_in, first_in, second_in, tab_in, Refused}
use Rattle.state.specs.declared.Notes.{Notes}
use Rattle.state.proofs.Noting.{same_tab, told_refused}
use Rattle.expr.specs.Contract.{Fine, Done, checks}
use Rattle.expr.proofs.Leaving.{fine_node}

module _ {ws : List Name} {u : Tab} {M code place a b : ℕ} where
  pub told_as : {r s g : Checked} → s ≡ r → Told ws r g u M code place a b → Told ws s g u M code place a b
  told_as e t = record {
    well = λ z. e ∙ t.well z;
    ill = λ z. e ∙ t.ill z;
    first = t.first;
    second = t.second;
    small = t.small;
    placed = t.placed;
  }

  -- a refusal, whatever would have been good
  pub told_ill : {r g : Checked} (h : Checked) → (code ≡ 0 → ⊥) → Told ws r g u M code place a b → Told ws r h u M code place a b
  told_ill h z t = record {
    well = λ e. absurd (z e);
    ill = t.ill;
    first = t.first;
    second = t.second;
    small = t.small;
    placed = t.placed;
  }

  -- what follows a refusal is not looked at
  pub told_bind : {r g : Checked} (k : Ty → Checked) (h : Checked) → (code ≡ 0 → ⊥) → Told ws r g u M code place a b
      → Told ws (r >>= k) h u M code place a b
  unfolding ◌>>=◌
  told_bind k h z t = record {
    well = λ e. absurd (z e);
    ill = λ e. rw (t.ill e);
    first = t.first;
    second = t.second;
    small = t.small;
    placed = t.placed;
  }

  pub told_well : {r g : Checked} → code ≡ 0 → r ≡ g → Told ws r g u M code place a b
  told_well z e = record {
    well = λ w. e;
    ill = λ w. absurd (w z);
    first = λ l. absurd (omega (arith, names_none z));
    second = λ l. absurd (omega (arith, names_none z));
    small = λ w. absurd (w z);
    placed = λ w. absurd (w z);
  }

-- ---- what a node gives after its children

module _ {ws : List Name} {t u v : Tab} {st su : List ℕ} {sp j e n M code place number a b : ℕ} (i : ℕ) (h : i < j) (f : Fine t u st su sp j e n) where
  pub done_given : {r : Checked} (spent : ℕ) → spent ≤ n → Given ws r u v spent M code place number a b
      → Done ws r t v st su sp i e M code place number a b
  done_given spent l g = record {
    told = g.told;
    below = g.below;
    fine = fine_node i h l f g.grown g.room g.space;
  }

  pub done_made : {ty : Ty} → code ≡ 0 → Made u v number ty 0 → Done ws (ok ty) t v st su sp i e M code place number a b
  done_made z m = record {
    told = told_well z (ap ok (sym m.means));
    below = λ w. m.below;
    fine = fine_node i h (omega arith) f m.grown m.room m.space;
  }

pub done_as : {ws : List Name} {r s : Checked} {t u : Tab} {st su : List ℕ} {sp i e M code place number a b : ℕ} → s ≡ r
    → Done ws r t u st su sp i e M code place number a b → Done ws s t u st su sp i e M code place number a b
done_as e d = record { told = told_as e d.told; below = d.below; fine = d.fine }

-- a child that was checked, and what follows
module _ {ws : List Name} {r : Checked} {t u : Tab} {st su : List ℕ} {sp i e M code place number a b : ℕ} (d : Done ws r t u st su sp i e M code place number a b) where
  pub done_bind : (k : Ty → Checked) → Told ws (r >>= k) (k (denote u number)) u M code place a b
  unfolding ◌>>=◌
  done_bind k = record {
    well = λ z. rw (d.told.well z);
    ill = λ z. rw (d.told.ill z);
    first = d.told.first;
    second = d.told.second;
    small = d.told.small;
    placed = d.told.placed;
  }

-- a refusal is noted
pub done_refused : {ws : List Name} {r : Checked} {t : Tab} {cells : List ℕ} {ns ms : Notes} {st su : List ℕ} {sp i e M code place number a b : ℕ} → (code ≡ 0 → ⊥)
    → Done ws r t (tab_in cells ns) st su sp i e M code place number a b → Refused ns ms code place a b
    → Done ws r t (tab_in cells ms) st su sp i e M (code_in ms) (place_in ms) 0 (first_in ms) (second_in ms)
done_refused {cells = cells} {ns} z d f =
    rw (same_tab f.counts cells) record {
      told = told_refused (ok (denote (tab_in cells ns) 0)) z d.told f;
      below = λ e. absurd (z (sym f.coded ∙ e));
      fine = d.fine;
    }

-- ---- a row of children

module _ (bs : List ℕ) (Γ : Frames) (d : ℕ) where
  own_place : (i : ℕ) (d : ℕ) → place (expr_at (nodes_of bs) d i) ≡ i
  unfolding place expr_at
  own_place i zero = refl
  own_place i (suc d) = refl

  pub checks_none : (i : ℕ) → checks bs Γ d 0 i ≡ []
  unfolding checks check_all exprs_from
  checks_none i = refl

  pub checks_suc : (n i : ℕ) → checks bs Γ d (suc n) i
      ≡ (i, check (names_of bs) Γ (expr_at (nodes_of bs) d i)) ∷ checks bs Γ d n (stop_of (nodes_of bs) i)
  unfolding checks check_all exprs_from
  checks_suc n i = rw (own_place i d)

  pub checks_down : (n i : ℕ) → 0 < n → checks bs Γ d n i
      ≡ (i, check (names_of bs) Γ (expr_at (nodes_of bs) d i)) ∷ checks bs Γ d (n - 1) (stop_of (nodes_of bs) i)
  checks_down zero i h = absurd (omega arith)
  checks_down (suc n) i h = rw sub-one (checks_suc n i)

  pub checks_many : (n i : ℕ) → length (checks bs Γ d n i) ≡ n
  checks_many zero i = ap length (checks_none i)
  checks_many (suc n) i = ap length (checks_suc n i) ∙ ap suc (checks_many n (stop_of (nodes_of bs) i))

  pub checks_take : (m n i : ℕ) → m ≤ n → take m (checks bs Γ d n i) ≡ checks bs Γ d m i
  checks_take zero n i h = sym (checks_none i)
  checks_take (suc m) zero i h = absurd (omega arith)
  checks_take (suc m) (suc n) i h =
      ap (take (suc m)) (checks_suc n i) ∙ ap (◌∷◌ (i, check (names_of bs) Γ (expr_at (nodes_of bs) d i))) (checks_take m n (stop_of (nodes_of bs) i) (omega arith)) ∙ sym (checks_suc m i)

  -- the first, and the second
  pub checks_first : (n i : ℕ) → 0 < n → child 0 (checks bs Γ d n i) ≡ (i, check (names_of bs) Γ (expr_at (nodes_of bs) d i))
  unfolding child
  checks_first n i h = rw (checks_down n i h)

  pub checks_second : (n i : ℕ) → 1 < n
      → child 1 (checks bs Γ d n i) ≡ (stop_of (nodes_of bs) i, check (names_of bs) Γ (expr_at (nodes_of bs) d (stop_of (nodes_of bs) i)))
  unfolding child
  checks_second n i h = rw (checks_down n i (omega arith), checks_down (n - 1) (stop_of (nodes_of bs) i) (omega arith))
