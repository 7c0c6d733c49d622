-- Statements without a body.
use mathlib.Core.Path.{◌≡◌, refl, sym, ap, ◌∙◌}
use Rattle.std.specs.Prelude.{Option, Some, None}
use mathlib.Core.Bool.{Bool, true, false}
use mathlib.Core.List.{List, [], ◌∷◌}
use mathlib.Core.Logic.{◌⊎◌, inl, inr}
use mathlib.Core.Option.{some, none}
use Prim.Native.Nat.{ℕ, ◌+◌, ◌-◌, ◌≤◌, ◌<◌}
use native.Mathlib.Omega.{arith}
use native.Mathlib.Decide.{ℕ_discrete}
use native.Mathlib.Numerals.{add-one}
use borrow.Author.Tests.{ne_eqb}
use lib.ListN.{set}
use Rattle.meaning.specs.Base.{◌or◌, test◌then◌else◌, choose, is_in, if_some}
use Rattle.meaning.specs.Types.{Ty, bool, plain}
use Rattle.meaning.specs.Image.{Name, node_count, nodes_of, node_of, names_of}
use Rattle.meaning.specs.Decode.{stop_of, past, params_from, expr_at, block_at, act_at}
use Rattle.meaning.specs.Frames.{blank, Frame, Frames, write}
use Rattle.meaning.specs.Rules.{check}
use Rattle.meaning.specs.Walk.{Setting, state, End, done, refuse, checked, condition, assign_to, return_rule, only_in, with_params, act}
use Rattle.meaning.proofs.Choices.{same_yes, same_no}
use Rattle.meaning.proofs.Decoding.{break_at, continue_at, pass_at, class_at, assign_at, expression_at, return_at, params_down, past_down}
use Rattle.meaning.proofs.Faults.{Sound}
use Rattle.types.specs.Table.{Tab, Wf, denote}
use Rattle.types.specs.Reading.{Agreement}
use Rattle.types.proofs.Laws.{grown_trans, plain_number}
use Rattle.types.proofs.Answers.{perhaps_yes, perhaps_no}
use Rattle.frames.specs.Env.{Rows, First, frames_of, first_node, Fit, Bound}
use Rattle.frames.specs.declared.Binding.{Binding as Found}
use Rattle.frames.proofs.Laws.{frames_grown, blank_binding}
use Rattle.rules.specs.Outcome.{types_named, pieces}
use Rattle.expr.specs.Contract.{Ready, At}
use Rattle.expr.specs.Contract.{Done as Typed}
use Rattle.state.specs.Notes.{Places, places}
use Rattle.targets.specs.Ending.{Alone, ended, Left, Assigned}
use Rattle.targets.proofs.Endings.{ended_well, ended_alone, left_wider}
use Rattle.stmt.specs.Contract.{state_of, acted, condition_at, assigned_at, returned_at, Standing, Stmt, Bodiless, Pair, Params, Fine, Done, Entered}
use Rattle.stmt.proofs.Laws.{named_none, named_well, left_refl, done_wider, done_as, ready_within, typing, check_left, check_named, check_well, check_ill, place_at, wide_at, within_child, one_child, arg_small, pair_wide}

-- the number of Bool
bool_number : {t : Tab} → Wf t → denote t 2 ≡ bool
unfolding plain
bool_number w = plain_number w 2 (omega arith)

-- what keeps the return type, whatever that is
pub assigned_done : {ws : List Name} {r : Ty → End} {t u : Tab} {gs : Rows} {top : ℕ} {su : List ℕ} {i e M code : ℕ} {place : Places} {a b : ℕ} (ret : ℕ)
    → Assigned ws r t u gs top su i e M code place a b → ret < t.n → Done ws (r (denote t ret)) t u gs top top ret su i e M code place a b
assigned_done {t = t} ret a h = record {
  says = rw (a.left.grown.same ret h) (a.says (denote t ret));
  fine = λ n. record { left = a.left; kept = omega (arith, a.left.grown.more); raised = omega arith };
  named = λ n. a.named;
  deep = λ z. absurd (a.typing z);
}

-- ---- conditions and Exprs: the expression at node i is checked

module _ {bs : List ℕ} {nodes : ℕ} {t u : Tab} {fs : Rows} {top : ℕ} {st su : List ℕ} {i d e code place' number a b : ℕ} (r : Ready bs nodes fs top t st 0 i e) (h : At bs i d)
    (q : Typed (names_of bs) (check (names_of bs) (frames_of t fs top) (expr_at (nodes_of bs) d i)) t u st su 0 i e (node_count bs) code place' number a b) where
  well_says : (y : Ty) (p : Places) → done (state (frames_of t fs top) y) ≡ ended (names_of bs) u fs top y 0 p 0 0
  well_says y p = rw (← (frames_grown q.fine.grown r.fit)) (sym (ended_well (names_of bs) u fs top y 0 p 0 0 refl))

  pub condition_bad : {m : First} → (code ≡ 0 → ⊥)
      → Assigned (names_of bs) (λ y. condition_at bs d i (state (frames_of t fs top) y)) t u fs top su i e (node_count bs) code (places place' m) a b
  unfolding condition_at condition checked
  condition_bad z = record {
    says = λ y. check_ill _ r.fit q _ z y _;
    named = check_named _ r.fit q;
    left = check_left _ r.fit q;
    typing = typing _ r.fit q;
  }

  pub condition_other : {m : First} → code ≡ 0 → (number ≡ 2 → ⊥)
      → Assigned (names_of bs) (λ y. condition_at bs d i (state (frames_of t fs top) y)) t u fs top su i e (node_count bs) 36 (places i m) 0 0
  unfolding condition_at condition checked test◌then◌else◌ pieces types_named is_in choose ◌or◌
  condition_other {m} z o =
      let w = q.fine.grown.wf in
      let no = same_no (denote u number) bool (λ x. o (w.inj number 2 (q.below z) (omega (arith, w.base)) (x ∙ sym (bool_number w)))) in
      record {
        says = λ y.
            check_well _ r.fit q z (state (frames_of t fs top) y) _
            ∙ rw (no, place_at bs d i, ← (frames_grown q.fine.grown r.fit))
            (sym (ended_alone (names_of bs) u fs top y 36 (places i m) 0 0 (λ x. omega arith) (λ x. omega arith) (λ x. omega arith, λ x. omega arith)));
        named = named_none 36 (places i m) refl (λ _. h.there);
        left = check_left _ r.fit q;
        typing = λ x. absurd (omega arith);
      }

  pub condition_done : code ≡ 0 → number ≡ 2
      → Assigned (names_of bs) (λ y. condition_at bs d i (state (frames_of t fs top) y)) t u fs top su i e (node_count bs) 0 (places 0 None) 0 0
  unfolding condition_at condition checked test◌then◌else◌
  condition_done z o =
      let w = q.fine.grown.wf in
      let so = same_yes (denote u number) bool (ap (denote u) o ∙ bool_number w) in
      record {
        says = λ y. check_well _ r.fit q z (state (frames_of t fs top) y) _ ∙ rw so (well_says y (places 0 None));
        named = named_well;
        left = check_left _ r.fit q;
        typing = λ x. absurd (omega arith);
      }

  -- ---- Return
  module _ {ret : ℕ} (k : ret < t.n) where
    fine_here : {got : ℕ} → got < u.n → Fine t u fs top top got su i e
    fine_here o = record { left = check_left _ r.fit q; kept = o; raised = omega arith }

    pub give_bad : {m : First} → (code ≡ 0 → ⊥)
        → Done (names_of bs) (returned_at bs d i (state_of t fs top ret)) t u fs top top ret su i e (node_count bs) code (places place' m) a b
    unfolding returned_at checked
    give_bad z = record {
      says = rw (q.fine.grown.same ret k) (check_ill _ r.fit q _ z (denote t ret) _);
      fine = λ n. fine_here (omega (arith, q.fine.grown.more));
      named = λ n. check_named _ r.fit q;
      deep = λ x. absurd (typing _ r.fit q x);
    }

    pub give_agreed : {both : Option ℕ} {got : ℕ} → code ≡ 0 → Agreement ret number both → both ≡ Some got
        → Done (names_of bs) (returned_at bs d i (state_of t fs top ret)) t u fs top top got su i e (node_count bs) 0 (places i None) 0 0
    unfolding returned_at checked return_rule if_some
    give_agreed {got = got} z o y =
        let g = q.fine.grown in
        let m : ret < u.n = omega (arith, g.more) in
        let same_old = g.same ret k in
        record {
          says = check_well _ r.fit q z (state_of t fs top ret) _
              ∙ rw (← same_old, o.says u g.wf m (q.below z), perhaps_yes u y) (well_says (denote u got) (places i None));
          fine = λ n. fine_here (o.below u m (q.below z) got y);
          named = λ n. named_well;
          deep = λ x. absurd (omega arith);
        }

    pub give_wrong : {both : Option ℕ} {m : First} → code ≡ 0 → Agreement ret number both → both ≡ None
        → Done (names_of bs) (returned_at bs d i (state_of t fs top ret)) t u fs top top ret su i e (node_count bs) 22 (places i m) ret number
    unfolding returned_at checked return_rule if_some pieces types_named is_in choose test◌then◌else◌ ◌or◌
    give_wrong {m = m'} z o y =
        let g = q.fine.grown in
        let m : ret < u.n = omega (arith, g.more) in
        let same_old = g.same ret k in
        record {
          says = check_well _ r.fit q z (state_of t fs top ret) _
              ∙ rw (← same_old, o.says u g.wf m (q.below z), perhaps_no u y, place_at bs d i, ← (frames_grown g r.fit))
              (sym (ended_alone (names_of bs) u fs top (denote u ret) 22 (places i m') ret number (λ x. omega arith) (λ x. omega arith) (λ x. omega arith, λ x. omega arith)));
          fine = λ n. fine_here m;
          named = λ n. record { first = λ x. m; second = λ x. q.below z; small = λ x w. absurd (two w); placed = λ x. h.there };
          deep = λ x. absurd (omega arith);
        }
      where
        two : types_named 22 ≡ 0 → ⊥
        two w = absurd (omega arith)

-- ---- Assign: the value at node k, and then the target

module _ {bs : List ℕ} {nodes : ℕ} {t : Tab} {fs : Rows} {top : ℕ} {st : List ℕ} {i d : ℕ} (r : Ready bs nodes fs top t st 0 i (stop_of (nodes_of bs) i)) (p : Pair bs i d) where
  module _ {k : ℕ} (o : k ≡ stop_of (nodes_of bs) (i + 1)) where
    pub value_ready : Ready bs nodes fs top t st 0 k (stop_of (nodes_of bs) k)
    value_ready = rw (o) (ready_within r (omega (arith, pair_wide r.sound p)) (omega (arith, p.last)))

    pub value_at : At bs k d
    value_at = rw o p.second

    module _ {u : Tab} {su : List ℕ} {code place' number a b : ℕ}
        (q : Typed (names_of bs) (check (names_of bs) (frames_of t fs top) (expr_at (nodes_of bs) d k)) t u st su 0 k (stop_of (nodes_of bs) k) (node_count bs) code place' number a b) where
      value_spent : Left t u fs top su (stop_of (nodes_of bs) (i + 1)) (stop_of (nodes_of bs) i)
      value_spent = rw (o, p.last) at (check_left _ r.fit q)

      pub assignment_bad : {m : First} → (code ≡ 0 → ⊥)
          → Assigned (names_of bs) (λ y. assigned_at bs d i (state (frames_of t fs top) y)) t u fs top su i (stop_of (nodes_of bs) i) (node_count bs) code (places place' m) a b
      unfolding assigned_at checked
      assignment_bad z = record {
        says = λ y. rw (← o) (check_ill _ r.fit q _ z y _);
        named = check_named _ r.fit q;
        left = left_wider value_spent (omega (arith, pair_wide r.sound p)) (omega arith);
        typing = typing _ r.fit q;
      }

      pub target_ready : Ready bs nodes fs top u su 0 (i + 1) (stop_of (nodes_of bs) (i + 1))
      target_ready =
          let l = value_spent in
          record {
            sound = r.sound;
            nodes_at = r.nodes_at;
            wf = l.grown.wf;
            fit = l.fit;
            stack = l.stack;
            types_room = omega (arith, r.types_room, l.types_spent, l.grown.as_wide);
            elements_room = omega (arith, r.elements_room, l.elements_spent, l.grown.as_wide);
            stack_room = omega (arith, r.stack_room, pair_wide r.sound p);
          }

      pub assignment_done : {v : Tab} {gs : Rows} {sv : List ℕ} {code' : ℕ} {place'' : Places} {a' b' : ℕ} → code ≡ 0
          → Assigned (names_of bs) (λ y. assign_to (names_of bs) (expr_at (nodes_of bs) d (i + 1)) (denote u number) (state (frames_of u fs top) y)) u v gs top sv (i + 1) (stop_of (nodes_of bs) (i + 1)) (node_count bs) code' place'' a' b'
          → Assigned (names_of bs) (λ y. assigned_at bs d i (state (frames_of t fs top) y)) t v gs top sv i (stop_of (nodes_of bs) i) (node_count bs) code' place'' a' b'
      unfolding assigned_at checked
      assignment_done z c =
          let l = value_spent in
          let m = c.left in
          record {
            says = λ y. rw (← o) (check_well _ r.fit q z (state (frames_of t fs top) y) _
                ∙ rw (← (frames_grown q.fine.grown r.fit)) (c.says y));
            named = c.named;
            left = record {
              grown = grown_trans l.grown m.grown;
              fit = m.fit;
              stack = m.stack;
              types_spent = omega (arith, l.types_spent, m.types_spent);
              elements_spent = omega (arith, l.elements_spent, m.elements_spent);
            };
            typing = c.typing;
          }

-- ---- the statement by its kind

module _ {bs : List ℕ} {nodes : ℕ} {t : Tab} {fs : Rows} {top : ℕ} {st : List ℕ} {ret i d k : ℕ} (loop : Bool)
    (r : Standing bs nodes fs top t st ret i (stop_of (nodes_of bs) i)) (q : Stmt bs i d k) where
  -- it leaves all as it was
  stays : {e : End} {code : ℕ} {m : First} → (code ≡ 9 → ⊥) → types_named code ≡ 0 → e ≡ ended (names_of bs) t fs top (denote t ret) code (places i m) 0 0
      → Done (names_of bs) e t t fs top top ret st i (stop_of (nodes_of bs) i) (node_count bs) code (places i m) 0 0
  stays {e} {code} {m} n z o =
      let w = wide_at r.ready.sound i q.there in
      record {
        says = o;
        fine = λ _. record { left = left_refl r.ready (omega arith); kept = r.kept; raised = omega arith };
        named = λ _. named_none code (places i m) z (λ _. q.there);
        deep = λ x. absurd (n x);
      }

  only_says : (m : First) (c : ℕ) → (c ≡ 9 → ⊥) → (c ≡ 0 → ⊥) → Alone c → pieces (names_of bs) t c 0 0 ≡ []
      → only_in loop c i (state_of t fs top ret) ≡ ended (names_of bs) t fs top (denote t ret) (test loop then 0 else c) (places i m) 0 0
  unfolding only_in test◌then◌else◌
  only_says m c n z h p = by loop
    where
      by : (l : Bool) → (test l then done (state_of t fs top ret) else refuse c i [] (state_of t fs top ret)) ≡ ended (names_of bs) t fs top (denote t ret) (test l then 0 else c) (places i m) 0 0
      by true = sym (ended_well (names_of bs) t fs top (denote t ret) 0 (places i m) 0 0 refl)
      by false = rw (← p) (sym (ended_alone (names_of bs) t fs top (denote t ret) c (places i m) 0 0 z n h))

  either : (P : ℕ → Type 0) (c : ℕ) → P 0 → P c → P (test loop then 0 else c)
  unfolding test◌then◌else◌
  either P c a b = by loop
    where
      by : (l : Bool) → P (test l then 0 else c)
      by true = a
      by false = b

  pub simple_break : (setting : Setting) {code : ℕ} {m : First} → k ≡ 1 → code ≡ (test loop then 0 else 20)
      → Done (names_of bs) (acted bs setting loop d i (state_of t fs top ret)) t t fs top top ret st i (stop_of (nodes_of bs) i) (node_count bs) code (places i m) 0 0
  unfolding acted act pieces types_named is_in choose test◌then◌else◌ ◌or◌
  simple_break setting e o =
      rw o (stays (either (λ c. c ≡ 9 → ⊥) 20 (λ x. absurd (omega arith)) (λ x. absurd (omega arith))) (either (λ c. types_named c ≡ 0) 20 refl refl)
      (rw (break_at (nodes_of bs) (λ j. expr_at (nodes_of bs) d j) (λ j. block_at (nodes_of bs) d j) i (q.kind ∙ e)) (only_says _ 20 (λ x. absurd (omega arith)) (λ x. absurd (omega arith)) (λ x. absurd (omega arith), λ x. absurd (omega arith)) refl)))

  pub simple_continue : (setting : Setting) {code : ℕ} {m : First} → k ≡ 2 → code ≡ (test loop then 0 else 21)
      → Done (names_of bs) (acted bs setting loop d i (state_of t fs top ret)) t t fs top top ret st i (stop_of (nodes_of bs) i) (node_count bs) code (places i m) 0 0
  unfolding acted act pieces types_named is_in choose test◌then◌else◌ ◌or◌
  simple_continue setting e o =
      rw o (stays (either (λ c. c ≡ 9 → ⊥) 21 (λ x. absurd (omega arith)) (λ x. absurd (omega arith))) (either (λ c. types_named c ≡ 0) 21 refl refl)
      (rw (continue_at (nodes_of bs) (λ j. expr_at (nodes_of bs) d j) (λ j. block_at (nodes_of bs) d j) i (q.kind ∙ e)) (only_says _ 21 (λ x. absurd (omega arith)) (λ x. absurd (omega arith)) (λ x. absurd (omega arith), λ x. absurd (omega arith)) refl)))

  pub simple_assign : (setting : Setting) {u : Tab} {gs : Rows} {su : List ℕ} {code : ℕ} {place' : Places} {a b : ℕ} → k ≡ 5
      → Assigned (names_of bs) (λ y. assigned_at bs d i (state (frames_of t fs top) y)) t u gs top su i (stop_of (nodes_of bs) i) (node_count bs) code place' a b
      → Done (names_of bs) (acted bs setting loop d i (state_of t fs top ret)) t u gs top top ret su i (stop_of (nodes_of bs) i) (node_count bs) code place' a b
  unfolding acted assigned_at act
  simple_assign setting e a =
      done_as (rw (assign_at (nodes_of bs) (λ j. expr_at (nodes_of bs) d j) (λ j. block_at (nodes_of bs) d j) i (q.kind ∙ e), add-one i)) (assigned_done ret a r.kept)

  -- the value at node k is checked, and not tracked
  pub simple_expr : (setting : Setting) {u : Tab} {su : List ℕ} {v : ℕ} {code : ℕ} {place' : Places} {a b : ℕ} → k ≡ 6 → v ≡ i + 1
      → Assigned (names_of bs) (λ y. checked (names_of bs) (expr_at (nodes_of bs) d v) (state (frames_of t fs top) y) (λ x. done (state (frames_of t fs top) y))) t u fs top su v (stop_of (nodes_of bs) v) (node_count bs) code place' a b
      → Done (names_of bs) (acted bs setting loop d i (state_of t fs top ret)) t u fs top top ret su i (stop_of (nodes_of bs) i) (node_count bs) code place' a b
  unfolding acted act
  simple_expr setting e h a =
      let o = (one_child r.ready.sound q (inl e)).1 in
      done_wider
      (done_as (rw (expression_at (nodes_of bs) (λ j. expr_at (nodes_of bs) d j) (λ j. block_at (nodes_of bs) d j) i (q.kind ∙ e), add-one i)) (assigned_done ret (rw h at a) r.kept))
      (omega arith) (omega arith)

  pub simple_return : (setting : Setting) {u : Tab} {gs : Rows} {high got : ℕ} {su : List ℕ} {code : ℕ} {place' : Places} {a b : ℕ} → k ≡ 7
      → Done (names_of bs) (returned_at bs d (i + 1) (state_of t fs top ret)) t u gs top high got su (i + 1) (stop_of (nodes_of bs) (i + 1)) (node_count bs) code place' a b
      → Done (names_of bs) (acted bs setting loop d i (state_of t fs top ret)) t u gs top high got su i (stop_of (nodes_of bs) i) (node_count bs) code place' a b
  unfolding acted returned_at act
  simple_return setting e a =
      let o = (one_child r.ready.sound q (inr e)).1 in
      done_wider (done_as (rw (return_at (nodes_of bs) (λ j. expr_at (nodes_of bs) d j) (λ j. block_at (nodes_of bs) d j) i (q.kind ∙ e), add-one i)) a) (omega arith) (omega arith)

  pub simple_ready : (k ≡ 6) ⊎ (k ≡ 7) → Ready bs nodes fs top t st 0 (i + 1) (stop_of (nodes_of bs) (i + 1))
  simple_ready e = ready_within r.ready (omega arith) (omega (arith, (one_child r.ready.sound q e).1))

  -- Pass, Class, and any kind that is no statement's
  nothing_at : (setting : Setting) → (k ≡ 1 → ⊥) → (k ≡ 2 → ⊥) → (k ≡ 5 → ⊥) → (k ≡ 6 → ⊥) → (k ≡ 7 → ⊥) → Bodiless k
      → acted bs setting loop d i (state_of t fs top ret) ≡ done (state_of t fs top ret)
  unfolding acted act act_at choose test◌then◌else◌
  nothing_at setting a b c f g n = elim (ℕ_discrete k 4) [
    | yes z ↦ rw (class_at (nodes_of bs) (λ j. expr_at (nodes_of bs) d j) (λ j. block_at (nodes_of bs) d j) i (q.kind ∙ z))
    | no z ↦ elim (ℕ_discrete k 3) [
      | yes y ↦ rw (pass_at (nodes_of bs) (λ j. expr_at (nodes_of bs) d j) (λ j. block_at (nodes_of bs) d j) i (q.kind ∙ y))
      | no y ↦ rw (
        q.kind,
        ne_eqb k 1 a,
        ne_eqb k 2 b,
        ne_eqb k 3 y,
        ne_eqb k 4 z,
        ne_eqb k 5 c,
        ne_eqb k 6 f,
        ne_eqb k 7 g,
        ne_eqb k 8 n.no_if,
        ne_eqb k 9 n.no_while,
        ne_eqb k 10 n.no_for,
        ne_eqb k 11 n.no_def,
      )
    ]
  ]

  pub simple_nothing : (setting : Setting) → (k ≡ 1 → ⊥) → (k ≡ 2 → ⊥) → (k ≡ 5 → ⊥) → (k ≡ 6 → ⊥) → (k ≡ 7 → ⊥) → Bodiless k
      → Done (names_of bs) (acted bs setting loop d i (state_of t fs top ret)) t t fs top top ret st i (stop_of (nodes_of bs) i) (node_count bs) 0 (places 0 None) 0 0
  simple_nothing setting a b c f g n =
      let w = wide_at r.ready.sound i q.there in
      record {
        says = nothing_at setting a b c f g n ∙ sym (ended_well (names_of bs) t fs top (denote t ret) 0 (places 0 None) 0 0 refl);
        fine = λ _. record { left = left_refl r.ready (omega arith); kept = r.kept; raised = omega arith };
        named = λ _. named_well;
        deep = λ x. absurd (omega arith);
      }

-- ---- parameters

-- gs is fs with the parameters from k to j bound; `left` more start at j
pub record Entering (bs : List ℕ) (k n : ℕ) (fs gs : Rows) (top j left : ℕ) : Type 0 where
  pub params : Params bs j left
  pub ends : past (nodes_of bs) left j ≡ past (nodes_of bs) n k
  pub so_far : Frame → Frame
  pub says : (t : Tab) (f : Frame) (Γ : Frames) → Wf t → Fit t fs top → frames_of t fs top ≡ f ∷ Γ → frames_of t gs top ≡ so_far f ∷ Γ
  pub rest : (f : Frame) → with_params (params_from (nodes_of bs) n k) f ≡ with_params (params_from (nodes_of bs) left j) (so_far f)
  pub fit : (t : Tab) → Wf t → Fit t fs top → Fit t gs top

pub entering_first : {bs : List ℕ} {k n left : ℕ} (fs : Rows) (top : ℕ) → left ≡ n → Params bs k n → Entering bs k n fs fs top k left
entering_first fs top e p = rw e record { params = p; ends = refl; so_far = λ f. f; says = λ t f Γ w h e. e; rest = λ f. refl; fit = λ t w h. h }

module _ {bs : List ℕ} {k n : ℕ} {fs gs : Rows} {top j left : ℕ} (s : Sound bs) (l : Entering bs k n fs gs top j left) (p : 0 < left) where
  pub entering_here : (j < node_count bs) × ((node_of (nodes_of bs) j).arg < 128)
  entering_here = let h = (within_child s l.params.within (omega arith)).2 in (h, arg_small s j h)

  pub entering_next : {x e rest : ℕ} {hs : Rows} → x ≡ (node_of (nodes_of bs) j).arg → e ≡ stop_of (nodes_of bs) j → rest ≡ left - 1 → {c : Found} → c.ty ≡ 0 → first_node c.first ≡ none → Bound gs hs top x c
      → Entering bs k n fs hs top e rest
  unfolding with_params write
  entering_next {x} {e} {hs = hs} a b r {c = k'} z n' c =
      let o : left + 1 - 1 ≡ left - 1 + 1 = omega arith in
      rw (b, r) (record {
        params = record { parent = l.params.parent; within = rw o at (within_child s l.params.within (omega arith)).3 };
        ends = sym (past_down (nodes_of bs) left j p) ∙ l.ends;
        so_far = λ f. set (l.so_far f) x (some blank);
        says = λ t f Γ w h e.
            c.says t (l.fit t w h) ∙ ap (λ d. write x d (frames_of t gs top)) (blank_binding w k' z n') ∙ rw (l.says t f Γ w h e);
        rest = λ f. l.rest f ∙ rw (params_down (nodes_of bs) left j p, ← a);
        fit = λ t w h. c.fit t (l.fit t w h) (omega (arith, w.base));
      })

module _ {bs : List ℕ} {k n : ℕ} {fs gs : Rows} {top j left : ℕ} (l : Entering bs k n fs gs top j left) (p : left ≤ 0) where
  pub entering_last : j ≡ past (nodes_of bs) n k
  unfolding past
  entering_last = let o : left ≡ 0 = omega arith in rw o at l.ends

  pub entering_end : Entered fs gs top (params_from (nodes_of bs) n k)
  unfolding params_from with_params
  entering_end =
      let o : left ≡ 0 = omega arith in
      record {
        says = λ t f Γ w h e. l.says t f Γ w h e ∙ ap (λ g. g ∷ Γ) (sym (l.rest f ∙ rw o));
        fit = l.fit;
      }
