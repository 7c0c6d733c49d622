-- Targets that are no Tuple.
use mathlib.Core.Path.{◌≡◌, refl, sym, ap, ◌∙◌}
use mathlib.Core.Bool.{Bool, true, false}
use mathlib.Core.List.{List, []}
use mathlib.Core.Logic.{◌⊎◌, ⊎_elim}
use Prim.Native.Nat.{ℕ, zero, suc, ◌+◌, ◌-◌, ◌≤◌, ◌<◌}
use native.Mathlib.Omega.{arith}
use native.Mathlib.Decide.{ℕ_discrete}
use native.Mathlib.Numerals.{sub-one}
use borrow.Author.Tests.{eqb-true}
use lib.Dec.{eqb}
use lib.ListN.{length}
use Rattle.meaning.specs.Base.{test◌then◌else◌, choose, base_open}
use Rattle.meaning.specs.Types.{Ty}
use Rattle.meaning.specs.Tree.{Expr, at, Form, variable, attribute, tuple_of, index}
use Rattle.meaning.specs.Image.{Name, Node, node_of, nodes_of, names_of, node_count, depth}
use Rattle.meaning.specs.Decode.{stop_of, exprs_from, form_at, expr_at}
use Rattle.meaning.specs.Message.{refusal}
use Rattle.meaning.specs.Rules.{check}
use Rattle.meaning.specs.Walk.{State, state, End, done, wrong, refuse, typed, checked, assign_name, assign_to, assign_form}
use Rattle.meaning.proofs.Faults.{Sound, sizes}
use Rattle.meaning.proofs.Nesting.{nodes_many, sound_nested, node_stands_lem}
use Rattle.meaning.proofs.Scan.{variable_named}
use Rattle.meaning.proofs.Decoding.{variable_at, attribute_at, index_at}
use Rattle.meaning.proofs.Codes.{check_fair}
use Rattle.types.specs.Table.{Tab, denote}
use Rattle.frames.specs.Env.{Rows, First, frames_of, Fit}
use Rattle.frames.proofs.Laws.{frames_grown, fit_grown}
use Rattle.rules.specs.Outcome.{types_named, pieces}
use Rattle.state.specs.Notes.{Places, places}
use Rattle.state.proofs.Noting.{told_typing}
use Rattle.expr.specs.Contract.{Ready, At, Done}
use Rattle.targets.specs.Ending.{first_at, ended, Left, Assigned}
use Rattle.targets.specs.Spreading.{Written}
use Rattle.targets.proofs.Endings.{ended_well, ended_alone, left_none, left_wider}

-- ---- a node, by what is asked of it

-- what is asked of a target, in a sound image
pub record Here (bs : List ℕ) (i d : ℕ) : Type 0 where
  pub there : i < node_count bs
  pub listed : i < length (nodes_of bs)
  pub deep : (d ≡ 0 → ⊥) × (64 ≤ depth i 0 (nodes_of bs) + (d - 1))
  pub above : i < stop_of (nodes_of bs) i
  pub within : stop_of (nodes_of bs) i ≤ node_count bs

pub here : {bs : List ℕ} {i d : ℕ} → Sound bs → At bs i d → Here bs i d
unfolding stop_of
here {bs} {i} {d} s h =
    let m = nodes_many bs in
    let l : i < length (nodes_of bs) = omega (arith, h.there, m) in
    let n = sound_nested s in
    let k = node_stands_lem n i l in
    let q = n.shallow i l in
    record {
      there = h.there;
      listed = l;
      deep = (λ z. omega (arith, h.deep, q), omega (arith, h.deep, q));
      above = k.above;
      within = omega (arith, k.within, m);
    }

-- the expression at a node, if any levels are left
pub expr_here : (ds : List Node) (d i : ℕ) → (d ≡ 0 → ⊥) → expr_at ds d i ≡ at i (form_at ds (λ j. expr_at ds (d - 1) j) i)
unfolding expr_at
expr_here ds zero i h = absurd (h refl)
expr_here ds (suc d) i h = rw (sub-one (suc d))

pub assigned_as : {ws : List Name} {r q : Ty → End} {t u : Tab} {gs : Rows} {top : ℕ} {su : List ℕ} {i e M code : ℕ} {place : Places} {a b : ℕ}
    → ((y : Ty) → r y ≡ q y) → Assigned ws q t u gs top su i e M code place a b → Assigned ws r t u gs top su i e M code place a b
assigned_as h a = record { says = λ y. h y ∙ a.says y; named = a.named; left = a.left; typing = a.typing }

-- ---- an expression checked and not tracked

module _ {ws : List Name} {t u : Tab} {fs : Rows} {top : ℕ} {st su : List ℕ} {i s M code place number a b : ℕ} (e : Expr) (m : First) (f : Fit t fs top)
    (d : Done ws (check ws (frames_of t fs top) e) t u st su 0 i s M code place number a b) where
  -- its refusal has a code of an expression
  pub typing_code : (code ≡ 0 → ⊥) → 29 ≤ code
  typing_code z = (told_typing d.told (check_fair ws (frames_of t fs top) e) z).0

  only_says : (y : Ty) → checked ws e (state (frames_of t fs top) y) (λ v. done (state (frames_of t fs top) y)) ≡ ended ws u fs top y code (places place m) a b
  unfolding checked typed
  only_says y = elim (ℕ_discrete code 0) [
    | yes z ↦ rw (d.told.well z) (sym (ended_well ws u fs top y code (places place m) a b z ∙ ap (λ Γ. done (state Γ y)) (frames_grown d.fine.grown f)))
    | no z ↦
        let n = typing_code z in
        rw (d.told.ill z)
        (sym (ended_alone ws u fs top y code (places place m) a b z (λ q. omega arith) ((λ q. omega arith), (λ q. omega arith))
        ∙ ap (λ Γ. wrong (refusal code place (pieces ws u code a b)) (state Γ y)) (frames_grown d.fine.grown f)))
  ]

  pub only_checked : Assigned ws (λ y. checked ws e (state (frames_of t fs top) y) (λ v. done (state (frames_of t fs top) y))) t u fs top su i s M code (places place m) a b
  only_checked =
      let q = d.told in
      let g = d.fine in
      record {
        says = only_says;
        named = record { first = q.first; second = q.second; small = q.small; placed = q.placed };
        left = record {
          grown = g.grown;
          fit = fit_grown g.grown.more f;
          stack = g.stack;
          types_spent = g.types_spent;
          elements_spent = omega (arith, g.elements_spent);
        };
        typing = λ z. omega (arith, typing_code (λ o. omega arith));
      }

-- ---- by the kind of the node

module _ (ws : List Name) (ds : List Node) (d i : ℕ) (h : d ≡ 0 → ⊥) (y : Ty) (s : State) where
  pub to_attribute : (node_of ds i).kind ≡ 25 → assign_to ws (expr_at ds d i) y s ≡ checked ws (expr_at ds d i) s (λ u. done s)
  unfolding assign_to
  to_attribute k = rw (expr_here ds d i h, attribute_at ds (λ j. expr_at ds (d - 1) j) i k)

  pub to_index : (node_of ds i).kind ≡ 31 → assign_to ws (expr_at ds d i) y s ≡ checked ws (expr_at ds d i) s (λ u. done s)
  unfolding assign_to
  to_index k = rw (expr_here ds d i h, index_at ds (λ j. expr_at ds (d - 1) j) i k)

  pub to_name : (node_of ds i).kind ≡ 21 → assign_to ws (expr_at ds d i) y s ≡ assign_name i (node_of ds i).arg y s
  unfolding assign_to
  to_name k = rw (expr_here ds d i h, variable_at ds (λ j. expr_at ds (d - 1) j) i k)

  -- what cannot be a target
  Refused : Form → Type 0
  Refused f = assign_form ws i f y s ≡ refuse 28 i [] s

  if_refused : (b : Bool) (f g : Form) → (b ≡ true → Refused f) → Refused g → Refused (test b then f else g)
  unfolding test◌then◌else◌
  if_refused true f g p q = p refl
  if_refused false f g p q = q

  not_kind : (f : Form) (c : ℕ) → ((node_of ds i).kind ≡ c → ⊥) → eqb (node_of ds i).kind c ≡ true → Refused f
  not_kind f c n e = absurd (n (eqb-true _ c e))

  pub to_other : ((node_of ds i).kind ≡ 21 → ⊥) → ((node_of ds i).kind ≡ 25 → ⊥) → ((node_of ds i).kind ≡ 28 → ⊥) → ((node_of ds i).kind ≡ 31 → ⊥)
      → assign_to ws (expr_at ds d i) y s ≡ refuse 28 i [] s
  unfolding assign_to form_at choose Refused
  to_other a b c e =
      let k = (node_of ds i).kind in
      let f : ℕ → Expr = λ j. expr_at ds (d - 1) j in
      rw (expr_here ds d i h)
      (if_refused (eqb k 20) _ _ (λ z. refl)
      (if_refused (eqb k 21) _ _ (not_kind (variable (node_of ds i).arg) 21 a)
      (if_refused (eqb k 22) _ _ (λ z. refl)
      (if_refused (eqb k 23) _ _ (λ z. refl)
      (if_refused (eqb k 24) _ _ (λ z. refl)
      (if_refused (eqb k 25) _ _ (not_kind (attribute (f (suc i))) 25 b)
      (if_refused (eqb k 26) _ _ (λ z. refl)
      (if_refused (eqb k 27) _ _ (λ z. refl)
      (if_refused (eqb k 28) _ _ (not_kind (tuple_of (exprs_from ds f (node_of ds i).children (suc i))) 28 c)
      (if_refused (eqb k 29) _ _ (λ z. refl)
      (if_refused (eqb k 30) _ _ (λ z. refl)
      (if_refused (eqb k 31) _ _ (not_kind (index (f (suc i)) (f (stop_of ds (suc i)))) 31 e) refl))))))))))))

-- ---- a target that is no Tuple

module _ {bs : List ℕ} {nodes : ℕ} {fs : Rows} {top : ℕ} {t : Tab} {st : List ℕ} {i d : ℕ} (r : Ready bs nodes fs top t st 0 i (stop_of (nodes_of bs) i))
    (h : At bs i d) {ty : ℕ} (b : ty < t.n) (m : Node) (z : m ≡ node_of (nodes_of bs) i) where
  here_now : Here bs i d
  here_now = here r.sound h

  passed : (gs : Rows) → Fit t gs top → Left t t gs top st i (stop_of (nodes_of bs) i)
  passed gs f =
      let k = here_now in
      left_wider (left_none i r.wf f r.stack) (omega arith) (omega (arith, k.above))

  pub small_name : m.kind ≡ 21 → m.arg < 128
  small_name k =
      let e : (node_of (nodes_of bs) i).kind ≡ 21 = ap (λ (x : Node). x.kind) (sym z) ∙ k in
      rw z (omega (arith, variable_named (sound_nested r.sound) i here_now.listed e, (sizes r.sound.headed).names))

  pub single_name : {gs : Rows} {code x y : ℕ} {s : First} → m.kind ≡ 21 → Written fs gs top (places i s) m.arg ty code x y
      → Assigned (names_of bs) (λ v. assign_to (names_of bs) (expr_at (nodes_of bs) d i) (denote t ty) (state (frames_of t fs top) v)) t t gs top st i
      (stop_of (nodes_of bs) i) (node_count bs) code (places i s) x y
  single_name {gs} k w =
      let e : (node_of (nodes_of bs) i).kind ≡ 21 = ap (λ (x : Node). x.kind) (sym z) ∙ k in
      record {
        says = λ v. to_name (names_of bs) (nodes_of bs) d i here_now.deep.0 (denote t ty) _ e
            ∙ ap (λ (x : Node). assign_name i x.arg (denote t ty) (state (frames_of t fs top) v)) (sym z)
            ∙ w.says (names_of bs) t v r.wf r.fit b;
        named = w.named t r.wf r.fit b (node_count bs) h.there;
        left = passed gs (w.fit t r.wf r.fit b);
        typing = w.typing;
      }

  pub single_checked : {u : Tab} {su : List ℕ} {code : ℕ} {place : Places} {x y : ℕ} → (m.kind ≡ 25) ⊎ (m.kind ≡ 31)
      → Assigned (names_of bs) (λ v. checked (names_of bs) (expr_at (nodes_of bs) d i) (state (frames_of t fs top) v) (λ w. done (state (frames_of t fs top) v)))
      t u fs top su i (stop_of (nodes_of bs) i) (node_count bs) code place x y
      → Assigned (names_of bs) (λ v. assign_to (names_of bs) (expr_at (nodes_of bs) d i) (denote t ty) (state (frames_of t fs top) v)) t u fs top su i
      (stop_of (nodes_of bs) i) (node_count bs) code place x y
  single_checked k a =
      let g : (c : ℕ) → m.kind ≡ c → (node_of (nodes_of bs) i).kind ≡ c = λ c e. ap (λ (x : Node). x.kind) (sym z) ∙ e in
      let n = here_now.deep.0 in
      assigned_as
      (λ v. ⊎_elim (λ e. to_attribute (names_of bs) (nodes_of bs) d i n (denote t ty) _ (g 25 e))
      (λ e. to_index (names_of bs) (nodes_of bs) d i n (denote t ty) _ (g 31 e)) k)
      a

  names_28 : types_named 28 ≡ 0
  unfolding types_named base_open
  names_28 = refl

  pub single_other : {s : First} → (m.kind ≡ 21 → ⊥) → (m.kind ≡ 25 → ⊥) → (m.kind ≡ 28 → ⊥) → (m.kind ≡ 31 → ⊥)
      → Assigned (names_of bs) (λ v. assign_to (names_of bs) (expr_at (nodes_of bs) d i) (denote t ty) (state (frames_of t fs top) v)) t t fs top st i
      (stop_of (nodes_of bs) i) (node_count bs) 28 (places i s) 0 0
  unfolding ended first_at pieces types_named base_open
  single_other k₂₁ k₂₅ k₂₈ k₃₁ =
      let g : (c : ℕ) → (m.kind ≡ c → ⊥) → (node_of (nodes_of bs) i).kind ≡ c → ⊥ = λ c n e. n (ap (λ (x : Node). x.kind) z ∙ e) in
      record {
        says = λ v. to_other (names_of bs) (nodes_of bs) d i here_now.deep.0 (denote t ty) _ (g 21 k₂₁) (g 25 k₂₅) (g 28 k₂₈) (g 31 k₃₁);
        named = record {
          first = λ q. absurd (omega (arith, names_28));
          second = λ q. absurd (omega (arith, names_28));
          small = λ q p. omega arith;
          placed = λ q. h.there;
        };
        left = passed fs r.fit;
        typing = λ q. absurd (omega arith);
      }
