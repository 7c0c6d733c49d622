-- How a node's answer is made, and what each leaf shows.
use mathlib.Core.Path.{◌≡◌, refl, sym, ap, ◌∙◌}
use mathlib.Core.List.{List, map}
use Prim.Native.Nat.{ℕ, zero, suc, ◌+◌, ◌≤◌, ◌<◌}
use native.Mathlib.Nat.{add-zero}
use native.Mathlib.Omega.{arith}
use lib.ListN.{length, get_or, take, drop, length-take, length-drop, length-map, get_or-map}
use lib.Seq.{get_or-take, get_or-drop}
use Rattle.meaning.specs.Types.{Ty, unknown, plain}
use Rattle.meaning.specs.Image.{Name}
use Rattle.meaning.specs.Decode.{literal_type}
use Rattle.meaning.specs.Operators.{Checked, ok}
use Rattle.types.specs.Table.{Tab, Wf, Means, Made, Grown, denote}
use Rattle.types.specs.Steps.{Listed}
use Rattle.types.proofs.Laws.{plain_number, unknown_number, grown_refl}
use Rattle.rules.specs.Outcome.{Decision, Decides, decision_code, decision_number, decision_first, decision_second}
use Rattle.rules.proofs.Outcomes.{names_none, was_ok, was_refused}
use Rattle.state.specs.Giving.{Given}
use Rattle.nodes.specs.Operands.{literal_number}

-- ---- what a node gives

-- a decision at a node
pub decides_given : {ws : List Name} {r : Checked} {t : Tab} {place : ℕ} {e : Decision} (spent M : ℕ) → Wf t → place < M
    → Decides ws t r place e → Given ws r t t spent M (decision_code e) place (decision_number e) (decision_first e) (decision_second e)
decides_given {ws} {r} {t} {place} {e} spent M w h d = record {
  told = record {
    well = λ z. d.says ∙ was_ok ws t (decision_code e) place (decision_number e) (decision_first e) (decision_second e) z;
    ill = λ z. d.says ∙ was_refused ws t (decision_code e) place (decision_number e) (decision_first e) (decision_second e) z;
    first = d.first;
    second = d.second;
    small = d.small;
    placed = λ z. h;
  };
  below = d.below;
  grown = grown_refl w;
  room = omega arith;
  space = omega arith;
}

-- a type: code 0, whatever else stands there
pub type_given : {ws : List Name} {r : Checked} {t u : Tab} {spent code number : ℕ} (M place a b : ℕ) → code ≡ 0 → r ≡ ok (denote u number)
    → number < u.n → Grown t u → u.n ≤ t.n + 1 → u.m ≤ t.m + spent → Given ws r t u spent M code place number a b
type_given M place a b e s l g n m = record {
  told = record {
    well = λ z. s;
    ill = λ z. absurd (z e);
    first = λ h. absurd (omega (arith, names_none e));
    second = λ h. absurd (omega (arith, names_none e));
    small = λ z. absurd (z e);
    placed = λ z. absurd (z e);
  };
  below = λ z. l;
  grown = g;
  room = n;
  space = m;
}

-- a type that was formed
pub made_given : {ws : List Name} {r : Checked} {t u : Tab} {spent code number : ℕ} {ty : Ty} (M place a b : ℕ) → code ≡ 0 → r ≡ ok ty
    → Made t u number ty spent → Given ws r t u spent M code place number a b
made_given M place a b e s m = type_given M place a b e (s ∙ ap ok (sym m.means)) m.below m.grown m.room m.space

-- a type that the table has
pub means_given : {ws : List Name} {r : Checked} {t : Tab} {code number : ℕ} {ty : Ty} (spent M place a b : ℕ) → code ≡ 0 → r ≡ ok ty → Wf t
    → Means t number ty → Given ws r t t spent M code place number a b
means_given spent M place a b e s w m =
    type_given M place a b e (s ∙ ap ok (sym m.means)) m.below (grown_refl w) (omega arith) (omega arith)

-- a plain type is its own number
pub plain_means : {t : Tab} → Wf t → (i : ℕ) → i < 8 → Means t i (plain i)
plain_means w i h = record { below = omega (arith, w.base); means = plain_number w i h }

-- ---- Literal

pub literal_other : (a : ℕ) → (a ≡ 0 → ⊥) → (a ≡ 1 → ⊥) → (a ≡ 2 → ⊥) → (a ≡ 3 → ⊥) → (a ≡ 4 → ⊥) → 0 ≡ literal_number a
unfolding literal_number
literal_other zero p q r s t = absurd (p refl)
literal_other (suc zero) p q r s t = absurd (q refl)
literal_other (suc (suc zero)) p q r s t = absurd (r refl)
literal_other (suc (suc (suc zero))) p q r s t = absurd (s refl)
literal_other (suc (suc (suc (suc zero)))) p q r s t = absurd (t refl)
literal_other (suc (suc (suc (suc (suc a))))) p q r s t = refl

pub literal_means : {t : Tab} → Wf t → (a : ℕ) → a < 5 → Means t (literal_number a) (literal_type a)
unfolding literal_number literal_type plain
literal_means w zero h = plain_means w 2 (omega arith)
literal_means w (suc zero) h = plain_means w 1 (omega arith)
literal_means w (suc (suc zero)) h = plain_means w 3 (omega arith)
literal_means w (suc (suc (suc zero))) h = plain_means w 4 (omega arith)
literal_means w (suc (suc (suc (suc zero)))) h = plain_means w 5 (omega arith)
literal_means w (suc (suc (suc (suc (suc a))))) h = absurd (omega arith)

-- ---- the types on the stack

module _ {t : Tab} {st : List ℕ} {sp q : ℕ} (x : Listed t st sp q) where
  pub types_many : length (map (denote t) (take q (drop sp st))) ≡ q
  types_many = simp (length-map, length-take, length-drop) (omega (arith, x.inside))

  pub types_at : (j : ℕ) → j < q → get_or (map (denote t) (take q (drop sp st))) j unknown ≡ denote t (get_or st (sp + j) 0)
  types_at j h =
      ap (get_or (map (denote t) (take q (drop sp st))) j) (sym (unknown_number x.wf))
      ∙ get_or-map (denote t) (take q (drop sp st)) j 0
      ∙ ap (denote t) (get_or-take q (drop sp st) j 0 h ∙ get_or-drop sp st j 0)

  pub first_type : 0 < q → get_or (map (denote t) (take q (drop sp st))) 0 unknown ≡ denote t (get_or st sp 0)
  first_type h = rw add-zero at (types_at 0 h)
