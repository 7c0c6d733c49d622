-- The notes: what is left of them, and what a refusal tells that is noted there.
use mathlib.Core.Path.{◌≡◌, refl, sym, ap, ◌∙◌}
use mathlib.Core.List.{List}
use Prim.Native.Nat.{ℕ, ◌<◌, ◌≤◌}
use native.Mathlib.Omega.{arith}
use native.Mathlib.Decide.{ℕ_discrete}
use Rattle.std.specs.Prelude.{Result, Ok, Err, IsErr}
use Rattle.meaning.specs.Image.{Name}
use Rattle.meaning.specs.Operators.{Checked, ok}
use Rattle.meaning.proofs.Codes.{Fair, fair_judged}
use Rattle.types.specs.Table.{Tab, denote}
use Rattle.types.specs.declared.Counts.{Counts}
use Rattle.codes.proofs.Laws.{least_code}
use Rattle.rules.specs.Outcome.{Decision, decision_code, decision_number, decision_first, decision_second}
use Rattle.rules.specs.declared.Reason.{Reason}
use Rattle.rules.proofs.Outcomes.{names_none}
use Rattle.state.specs.declared.Noted.{Noted}
use Rattle.state.specs.declared.Notes.{Notes}
use Rattle.state.specs.Giving.{Told, Given}
use Rattle.state.specs.Notes.{code_in, place_in, first_in, second_in, tab_of, tab_in, Kept, Refused}
use Rattle.state.specs.Answer.{Typed, noted, code_of, number_of, Settled, Settles}

-- ---- the code of an answer

pub code_well : {T : Type 0} {r : Result T Noted} {v : T} (ms : Notes) → r ≡ Ok v → code_of r ms ≡ 0
code_well ms e = rw e

-- what an Err is: the exit of a `?` returns one
pub is_noted : {T : Type 0} (r : Result T Noted) → IsErr r → r ≡ Err noted
is_noted (Ok v) e = cc
is_noted (Err x) e = refl

-- the code of an expression's refusal, by what is known of the rule
pub told_typing : {ws : List Name} {r g : Checked} {u : Tab} {M code place a b : ℕ} → Told ws r g u M code place a b → Fair r → (code ≡ 0 → ⊥)
    → (29 ≤ code) × (code ≤ 50)
told_typing t f z = let j = fair_judged (rw (t.ill z) at f) in (j.above, j.below)

-- ---- what is left of the notes

-- nothing is noted
pub kept_none : {ns : Notes} {E : Type 0} → (E → ⊥) → Kept ns ns E
kept_none z = record { ret = refl; top = refl; coded = λ e. absurd (z e) }

pub kept_trans : {ns ms ls : Notes} {D E : Type 0} → Kept ns ms D → Kept ms ls E → Kept ns ls E
kept_trans j k = record { ret = k.ret ∙ j.ret; top = k.top ∙ j.top; coded = k.coded }

-- another answer that refuses only where this one does
pub kept_as : {ns ms : Notes} {D E : Type 0} → (E → D) → Kept ns ms D → Kept ns ms E
kept_as f k = record { ret = k.ret; top = k.top; coded = λ e. k.coded (f e) }

-- an answer that does not refuse
pub kept_ok : {ns ms : Notes} {D E : Type 0} → (E → ⊥) → Kept ns ms D → Kept ns ms E
kept_ok z k = kept_as (λ e. absurd (z e)) k

-- ---- a refusal

pub refused_kept : {ns ms : Notes} {code place a b : ℕ} {E : Type 0} → (code ≡ 0 → ⊥) → Refused ns ms code place a b → Kept ns ms E
refused_kept z f = record { ret = f.ret; top = f.top; coded = λ e q. z (sym f.coded ∙ q) }

pub told_refused : {ws : List Name} {r g : Checked} (h : Checked) {u : Tab} {M code place a b : ℕ} {ns ms : Notes} → (code ≡ 0 → ⊥)
    → Told ws r g u M code place a b → Refused ns ms code place a b → Told ws r h u M (code_in ms) (place_in ms) (first_in ms) (second_in ms)
told_refused h z t f =
    rw (f.coded, f.placed, f.first, f.second) record {
      well = λ e. absurd (z e);
      ill = t.ill;
      first = t.first;
      second = t.second;
      small = t.small;
      placed = t.placed;
    }

pub told_type : {ws : List Name} {r g : Checked} {u : Tab} {M code place a b : ℕ} → code ≡ 0 → r ≡ g → Told ws r g u M code place a b
told_type z e = record {
  well = λ w. e;
  ill = λ w. absurd (w z);
  first = λ l. absurd (omega (arith, names_none z));
  second = λ l. absurd (omega (arith, names_none z));
  small = λ w. absurd (w z);
  placed = λ w. absurd (w z);
}

-- ---- what was decided at a node is the answer

module _ {T : Type 0} {ns ms : Notes} {q : Result T Noted} {good : T} {code place a b : ℕ} (f : Settled ns ms q good code place a b) where
  pub settled_counts : ms.counts ≡ ns.counts
  settled_counts = elim (ℕ_discrete code 0) [ yes e ↦ rw (f.well e).1 | no z ↦ (f.ill z).1.counts ]

  pub settled_kept : Kept ns ms (IsErr q)
  settled_kept = elim (ℕ_discrete code 0) [
    | yes e ↦ rw (f.well e).1 (kept_none (λ z. let y = rw (f.well e).0 at z in cc))
    | no z ↦ refused_kept z (f.ill z).1
  ]

-- no type is formed: the table is the same
pub same_tab : {n m : Counts} → m ≡ n → (cells : List ℕ) → tab_of cells m ≡ tab_of cells n
same_tab e cells = ap (tab_of cells) e

module _ {ns ms : Notes} {q : Typed} {code place number a b : ℕ} (f : Settled ns ms q number code place a b) where
  settled_number : {n : ℕ} → (code ≡ 0 → number < n) → code_of q ms ≡ 0 → number_of q < n
  settled_number {n} h v = elim (ℕ_discrete code 0) [
    | yes e ↦ rw (f.well e).0 (h e)
    | no z ↦ absurd (z (sym (f.ill z).1.coded ∙ (rw (f.ill z).0 at v)))
  ]

  settled_told : {ws : List Name} {r : Checked} {u : Tab} {M : ℕ} → Told ws r (ok (denote u number)) u M code place a b
      → Told ws r (ok (denote u (number_of q))) u M (code_of q ms) (place_in ms) (first_in ms) (second_in ms)
  settled_told {u = u} t = elim (ℕ_discrete code 0) [
    | yes e ↦ rw (f.well e).0 (told_type refl (t.well e))
    | no z ↦ rw (f.ill z).0 (told_refused (ok (denote u 0)) z t (f.ill z).1)
  ]

  -- what a node gives, over the table of the cells
  pub settled_given : {ws : List Name} {r : Checked} {t : Tab} {cells : List ℕ} {spent M : ℕ}
      → Given ws r t (tab_in cells ns) spent M code place number a b
      → Given ws r t (tab_in cells ms) spent M (code_of q ms) (place_in ms) (number_of q) (first_in ms) (second_in ms)
  settled_given {cells = cells} g =
      rw (same_tab (settled_counts f) cells) record {
        told = settled_told g.told;
        below = settled_number g.below;
        grown = g.grown;
        room = g.room;
        space = g.space;
      }

-- a rule's decision
pub settles_settled : {ns ms : Notes} {q : Typed} {n : ℕ} (d : Decision) → Settles ns ms q n d
    → Settled ns ms q (decision_number d) (decision_code d) n (decision_first d) (decision_second d)
settles_settled (Ok k) s = record { well = λ z. s.well k refl; ill = λ z. absurd (z refl) }
settles_settled (Err w) s = record { well = λ z. absurd (omega (arith, least_code w.code)); ill = λ z. s.ill w refl }

pub settles_counts : {ns ms : Notes} {q : Typed} {n : ℕ} (d : Decision) → Settles ns ms q n d → ms.counts ≡ ns.counts
settles_counts (Ok k) s = ap (λ n. n.counts) (s.well k refl).1
settles_counts (Err w) s = (s.ill w refl).1.counts

-- ---- an answer that is known to be well, or a refusal

pub settled_well : {T : Type 0} {ns : Notes} {v : T} {n a b : ℕ} → Settled ns ns (Ok v) v 0 n a b
settled_well = record { well = λ z. (refl, refl); ill = λ z. absurd (z refl) }

pub settled_ill : {T : Type 0} {ns ms : Notes} {v : T} {code n a b : ℕ} → (code ≡ 0 → ⊥) → Refused ns ms code n a b → Settled ns ms (Err noted) v code n a b
settled_ill z f = record { well = λ y. absurd (z y); ill = λ y. (refl, f) }

module _ {T : Type 0} {ns ms : Notes} {o : Result T Noted} {v : T} {code n a b : ℕ} (s : Settled ns ms o v code n a b) where
  pub settled_ok : {w : T} → o ≡ Ok w → (code ≡ 0) × (ms ≡ ns)
  settled_ok e = elim (ℕ_discrete code 0) [
    | yes z ↦ (z, (s.well z).1)
    | no z ↦ let y = sym e ∙ (s.ill z).0 in absurd (cc)
  ]

  pub settled_err : {e : Noted} → o ≡ Err e → code ≡ 0 → ⊥
  settled_err e z = let y = sym (s.well z).0 ∙ e in cc
