-- How a part of the walk ended, by its code; and what it leaves, from part to part.
use mathlib.Core.Path.{◌≡◌, sym, ap, ◌∙◌}
use mathlib.Core.Option.{none}
use mathlib.Core.List.{List}
use Prim.Native.Nat.{ℕ, ◌≤◌}
use native.Mathlib.Omega.{arith}
use borrow.Author.Tests.{eq-eqb, ne_eqb}
use lib.ListN.{length}
use Rattle.meaning.specs.Base.{◌or◌, test◌then◌else◌}
use Rattle.meaning.specs.Types.{Ty, unknown}
use Rattle.meaning.specs.Tree.{Expr}
use Rattle.meaning.specs.Image.{Name}
use Rattle.meaning.specs.Message.{refusal, conflict}
use Rattle.meaning.specs.Walk.{State, state, End, done, wrong, too_deep, assign_to}
use Rattle.meaning.proofs.Kept.{refused_target}
use Rattle.types.specs.Table.{Tab, Wf}
use Rattle.types.proofs.Laws.{grown_refl, grown_trans}
use Rattle.frames.specs.Env.{Rows, First, frames_of, Fit}
use Rattle.rules.specs.Outcome.{pieces}
use Rattle.rules.proofs.Outcomes.{names_none}
use Rattle.state.specs.declared.Notes.{Notes}
use Rattle.state.specs.Notes.{code_in, since_in, Places, places, places_in, first_in, second_in, tab_in, Refused}
use Rattle.targets.specs.Ending.{first_at, Alone, ended, Named, Left, Assigned}

-- ---- the first node

pub first_none : {code : ℕ} (m : First) → Alone code → first_at code m ≡ none
unfolding first_at ◌or◌ test◌then◌else◌
first_none {code} m h = rw (ne_eqb code 23 h.0, ne_eqb code 25 h.1)

-- ---- an end, by its code

module _ (ws : List Name) (u : Tab) (gs : Rows) (high : ℕ) (y : Ty) (code : ℕ) (place : Places) (a b : ℕ) where
  pub ended_well : code ≡ 0 → ended ws u gs high y code place a b ≡ done (state (frames_of u gs high) y)
  unfolding ended test◌then◌else◌
  ended_well z = rw (eq-eqb code 0 z)

  pub ended_deep : code ≡ 9 → ended ws u gs high y code place a b ≡ too_deep place.here
  unfolding ended test◌then◌else◌
  ended_deep z = rw (ne_eqb code 0 (λ e. omega arith), eq-eqb code 9 z)

  pub ended_wrong : (code ≡ 0 → ⊥) → (code ≡ 9 → ⊥)
      → ended ws u gs high y code place a b
      ≡ wrong (conflict code place.here (first_at code place.since) (pieces ws u code a b)) (state (frames_of u gs high) y)
  unfolding ended test◌then◌else◌
  ended_wrong z n = rw (ne_eqb code 0 z, ne_eqb code 9 n)

  -- by a code that points at no first place
  pub ended_alone : (code ≡ 0 → ⊥) → (code ≡ 9 → ⊥) → Alone code
      → ended ws u gs high y code place a b ≡ wrong (refusal code place.here (pieces ws u code a b)) (state (frames_of u gs high) y)
  ended_alone z n h =
      ended_wrong z n
      ∙ ap (λ m. wrong (conflict code place.here m (pieces ws u code a b)) (state (frames_of u gs high) y)) (first_none place.since h)

-- ---- what a message names

pub named_none : {u : Tab} {M a b : ℕ} {place : Places} {code : ℕ} → code ≡ 0 → Named u M code place a b
named_none z = record {
  first = λ h. absurd (omega (arith, names_none z));
  second = λ h. absurd (omega (arith, names_none z));
  small = λ n. absurd (n z);
  placed = λ n. absurd (n z);
}

-- ---- what is left

pub left_none : {t : Tab} {fs : Rows} {top : ℕ} {st : List ℕ} (i : ℕ) → Wf t → Fit t fs top → length st ≡ 2048 → Left t t fs top st i i
left_none i w f l = record { grown = grown_refl w; fit = f; stack = l; types_spent = omega arith; elements_spent = omega arith }

pub left_then : {t u v : Tab} {gs hs : Rows} {high peak : ℕ} {su sv : List ℕ} {i j e : ℕ}
    → Left t u gs high su i j → Left u v hs peak sv j e → Left t v hs peak sv i e
left_then a b = record {
  grown = grown_trans a.grown b.grown;
  fit = b.fit;
  stack = b.stack;
  types_spent = omega (arith, a.types_spent, b.types_spent);
  elements_spent = omega (arith, a.elements_spent, b.elements_spent);
}

-- fewer nodes leave what more nodes may leave
pub left_wider : {t u : Tab} {gs : Rows} {high : ℕ} {su : List ℕ} {i j e f : ℕ} → Left t u gs high su i e → j ≤ i → e ≤ f → Left t u gs high su j f
left_wider a h k = record {
  grown = a.grown;
  fit = a.fit;
  stack = a.stack;
  types_spent = omega (arith, a.types_spent);
  elements_spent = omega (arith, a.elements_spent);
}

-- ---- a target's end is noted

-- it ended well, whatever else the notes have
pub assigned_well : {ws : List Name} {r : Ty → End} {t u : Tab} {gs : Rows} {top : ℕ} {su : List ℕ} {i e M code : ℕ} {place : Places} {a b code' : ℕ} {place' : Places} {a' b' : ℕ} → code ≡ 0 → code' ≡ 0
    → Assigned ws r t u gs top su i e M code place a b → Assigned ws r t u gs top su i e M code' place' a' b'
assigned_well {ws} {u = u} {gs} {top} {code = code} {place} {a} {b} {code'} {place'} {a'} {b'} z z' x = record {
  says = λ y. x.says y ∙ ended_well ws u gs top y code place a b z ∙ sym (ended_well ws u gs top y code' place' a' b' z');
  named = named_none z';
  left = x.left;
  typing = λ q. absurd (omega arith);
}

pub assigned_noted : {ws : List Name} {r : Ty → End} {t : Tab} {cells : List ℕ} {ns ms : Notes} {gs : Rows} {top : ℕ} {su : List ℕ} {i e M code n a b : ℕ}
    → Assigned ws r t (tab_in cells ns) gs top su i e M code (places n (since_in ms)) a b → Refused ns ms code n a b
    → Assigned ws r t (tab_in cells ms) gs top su i e M (code_in ms) (places_in ms) (first_in ms) (second_in ms)
assigned_noted x f = rw (f.counts, f.coded, f.placed, f.first, f.second) x

-- ---- a target's refusal has a typing code

pub assigned_typing : {ws : List Name} (e : Expr) (v : Ty) (s : Ty → State) {t u : Tab} {gs : Rows} {top : ℕ} {su : List ℕ} {i f M code : ℕ} {place : Places} {a b : ℕ}
    → Assigned ws (λ y. assign_to ws e v (s y)) t u gs top su i f M code place a b → (code ≡ 0 → ⊥) → (20 ≤ code) × (code ≤ 50)
assigned_typing {ws} e v s {t} {u} {gs} {top} {su} {i} {f} {M} {code} {place} {a} {b} x z =
    let r = refused_target ws e v (s unknown) (x.says unknown ∙ ended_wrong ws u gs top unknown code place a b z x.typing) in
    (r.above, r.below)
