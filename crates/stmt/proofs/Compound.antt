-- While, For and Def.
use mathlib.Core.Path.{◌≡◌, refl, sym, ◌∙◌, ap}
use Rattle.std.specs.Prelude.{Option, Some, None}
use mathlib.Core.Bool.{Bool, true, false}
use mathlib.Core.List.{List, ◌∷◌}
use mathlib.Core.Option.{none}
use Prim.Native.Nat.{ℕ, zero, suc, ◌+◌, ◌-◌, ◌≤◌, ◌<◌}
use native.Mathlib.Omega.{arith}
use native.Mathlib.Decide.{ℕ_discrete}
use native.Mathlib.Numerals.{add-one}
use borrow.Author.Tests.{lt-ltb, le-ltb}
use lib.ListN.{set}
use Rattle.meaning.specs.Base.{◌or◌, test◌then◌else◌, choose, is_in, if_some}
use Rattle.meaning.specs.Tree.{place}
use Rattle.meaning.specs.Image.{Name, node_count, nodes_of, node_of, names_of}
use Rattle.meaning.specs.Decode.{stop_of, past, params_from, expr_at, block_at}
use Rattle.meaning.specs.Frames.{since, empty, write}
use Rattle.meaning.specs.Rules.{check}
use Rattle.meaning.specs.Walk.{Setting, dropping, state, with_frames, with_returns, End, ◌>>=◌, after, checked, over_elements, with_params, enter, popped, if_room, act}
use Rattle.meaning.proofs.Decoding.{while_at, for_at, def_at}
use Rattle.meaning.proofs.Faults.{Sound}
use Rattle.types.specs.Table.{Tab, denote}
use Rattle.types.specs.Reading.{ElementOf}
use Rattle.types.proofs.Laws.{grown_refl, unknown_number}
use Rattle.types.proofs.Answers.{perhaps_yes, perhaps_no}
use Rattle.frames.specs.Env.{Rows, First, absent_row, cell_room, frames_of, Fit, Known, Bound}
use Rattle.frames.specs.declared.Binding.{Binding as Found}
use Rattle.frames.proofs.Laws.{frames_grown, frames_clear, frames_pop, length_frames, fit_clear, fit_top}
use Rattle.rules.specs.Outcome.{types_named, pieces}
use Rattle.expr.specs.Contract.{Ready, At}
use Rattle.expr.specs.Contract.{Done as Typed}
use Rattle.state.specs.Notes.{Places, places}
use Rattle.targets.specs.Ending.{ended, Named, Left, Assigned}
use Rattle.targets.proofs.Endings.{ended_well, ended_wrong, ended_alone, left_then, left_wider}
use Rattle.stmt.specs.Contract.{state_of, acted, body_at, condition_at, Standing, Stmt, Pair, Within, Params, Done, Entered, Iterated}
use Rattle.stmt.proofs.Laws.{was_done, was_deep, was_wrong, too_deep_lem, deep_wider, deep_then, wide_at, named_well, left_rows, ready_within, ready_next, typing, check_left, check_named, check_well, check_ill, place_at, within_all, within_end, within_child, within_at, pair_while, pair_for, count_def, arg_small, pair_wide}

-- ---- what a For walks over

module _ {bs : List ℕ} {nodes : ℕ} {t u : Tab} {fs : Rows} {top : ℕ} {st su : List ℕ} {i d e code place' number a b : ℕ} (r : Ready bs nodes fs top t st 0 i e) (h : At bs i d)
    (q : Typed (names_of bs) (check (names_of bs) (frames_of t fs top) (expr_at (nodes_of bs) d i)) t u st su 0 i e (node_count bs) code place' number a b) where
  pub elements_bad : {n : ℕ} {m : First} → (code ≡ 0 → ⊥) → Iterated bs d t u fs top su i e (node_count bs) code (places place' m) n a b
  unfolding checked
  elements_bad z = record {
    well = λ x y k. absurd (z x);
    ill = λ x y k. check_ill _ r.fit q _ z y _;
    below = λ x. absurd (z x);
    named = check_named _ r.fit q;
    left = check_left _ r.fit q;
    typing = typing _ r.fit q;
  }

  pub elements_done : {r : Option ℕ} {got code' : ℕ} {place'' : Places} {a' b' : ℕ} → code ≡ 0 → ElementOf u.cells number r → r ≡ Some got → code' ≡ 0
      → Iterated bs d t u fs top su i e (node_count bs) code' place'' got a' b'
  unfolding checked over_elements if_some
  elements_done {got = got} z o y n =
      let w = q.fine.grown.wf in
      record {
        well = λ x s k. check_well _ r.fit q z (state (frames_of t fs top) s) _ ∙ rw (o.says u refl w (q.below z), perhaps_yes u y);
        ill = λ x s k. absurd (x n);
        below = λ x. o.below u refl w (q.below z) got y;
        named = rw n named_well;
        left = check_left _ r.fit q;
        typing = λ x. absurd (omega arith);
      }

  pub elements_none : {r : Option ℕ} {m : First} → code ≡ 0 → ElementOf u.cells number r → r ≡ None
      → Iterated bs d t u fs top su i e (node_count bs) 24 (places i m) 0 number 0
  unfolding checked over_elements if_some pieces types_named is_in choose test◌then◌else◌ ◌or◌
  elements_none {m = m} z o y =
      let g = q.fine.grown in
      let one : types_named 24 ≡ 1 = refl in
      record {
        well = λ x s k. absurd (omega arith);
        ill = λ x s k.
            check_well _ r.fit q z (state (frames_of t fs top) s) _
            ∙ rw (o.says u refl g.wf (q.below z), perhaps_no u y, place_at bs d i, ← (frames_grown g r.fit))
            (sym (ended_alone (names_of bs) u fs top s 24 (places i m) number 0 (λ x. omega arith) (λ x. omega arith) (λ x. omega arith, λ x. omega arith)));
        below = λ x. absurd (omega arith);
        named = record {
          first = λ x. q.below z;
          second = λ x. absurd (omega arith);
          small = λ x w. absurd (omega arith);
          placed = λ x. h.there;
        };
        left = check_left _ r.fit q;
        typing = λ x. absurd (omega arith);
      }

-- ---- a body on a copy of the frames: nothing of it stays but the return type

pub copied : {ws : List Name} {whole inner : End} {t u v : Tab} {fs gs : Rows} {top high got : ℕ} {su sv : List ℕ} {i k e f M code : ℕ} {place : Places} {a b : ℕ}
    → whole ≡ after (with_frames (frames_of t fs top)) inner → Fit t fs top → Left t u fs top su i k → e ≤ f
    → Done ws inner u v gs top high got sv k e M code place a b → Done ws whole t v fs top top got sv i f M code place a b
unfolding after
copied {ws} {whole} {inner} {t} {u} {v} {fs} {gs} {top} {high} {got} {su} {sv} {i} {k} {e} {f} {M} {code} {place} {a} {b} here fit l o c = elim (ℕ_discrete code 9) [
  | yes z ↦ too_deep_lem z (here ∙ rw (was_deep c z)) (deep_wider (deep_then l (c.deep z)) (omega arith) o)
  | no z ↦
      let g = c.fine z in
      let same : frames_of v fs top ≡ frames_of t fs top = frames_grown g.left.grown l.fit ∙ frames_grown l.grown fit in
      record {
        says = elim (ℕ_discrete code 0) [
          | yes j ↦ here ∙ rw (was_done c j, ← same) (sym (ended_well ws v fs top (denote v got) code place a b j))
          | no j ↦ here ∙ rw (was_wrong c j z, ← same) (sym (ended_wrong ws v fs top (denote v got) code place a b j z))
        ];
        fine = λ _. record { left = left_wider (left_then l (left_rows l.fit g.left)) (omega arith) o; kept = g.kept; raised = omega arith };
        named = c.named;
        deep = λ x. absurd (z x);
      }
]

-- ---- While and For: node i has a value and a Block

module _ {bs : List ℕ} {nodes : ℕ} {t : Tab} {fs : Rows} {top : ℕ} {st : List ℕ} {ret i d : ℕ} (r : Standing bs nodes fs top t st ret i (stop_of (nodes_of bs) i)) (p : Pair bs i d) where
  pub first_ready : Ready bs nodes fs top t st 0 (i + 1) (stop_of (nodes_of bs) (i + 1))
  first_ready = ready_within r.ready (omega arith) (omega (arith, (pair_wide r.ready.sound p).1))

  pub second_at : {k : ℕ} → k ≡ stop_of (nodes_of bs) (i + 1) → At bs k d
  second_at o = rw o p.second

  -- the rows es for the body, over the table that the first child left
  pub second_standing : {u : Tab} {es : Rows} {su : List ℕ} {k : ℕ} → k ≡ stop_of (nodes_of bs) (i + 1) → Left t u fs top su (i + 1) (stop_of (nodes_of bs) (i + 1)) → Fit u es top
      → Standing bs nodes es top u su ret k (stop_of (nodes_of bs) k)
  second_standing o l f =
      let o' : Ready bs nodes fs top t _ 0 (i + 1) (stop_of (nodes_of bs) i) = ready_within r.ready (omega arith) (omega arith) in
      let n : Ready bs nodes fs top _ _ 0 (stop_of (nodes_of bs) (i + 1)) (stop_of (nodes_of bs) i) = ready_next o' l (omega (arith, (pair_wide r.ready.sound p).0)) in
      rw o (record {
        ready = record {
          sound = n.sound;
          nodes_at = n.nodes_at;
          wf = n.wf;
          fit = f;
          stack = n.stack;
          types_room = omega (arith, n.types_room, p.last);
          elements_room = omega (arith, n.elements_room, p.last);
          stack_room = omega (arith, n.stack_room, p.last);
        };
        kept = omega (arith, r.kept, l.grown.more);
      })

  module _ {u : Tab} {su : List ℕ} (l : Left t u fs top su (i + 1) (stop_of (nodes_of bs) (i + 1))) where
    wider : Left t u fs top su i (stop_of (nodes_of bs) i)
    wider = left_wider l (omega arith) (omega (arith, (pair_wide r.ready.sound p).1))

    before_body : {k : ℕ} → k ≡ stop_of (nodes_of bs) (i + 1) → Left t u fs top su i k
    before_body o = rw o (left_wider l (omega arith) (omega arith))

    -- a refusal of the first child
    first_refused : {whole : End} {code : ℕ} {place : Places} {a b : ℕ} → whole ≡ ended (names_of bs) u fs top (denote t ret) code place a b → Named u (node_count bs) code place a b → (code ≡ 9 → ⊥)
        → Done (names_of bs) whole t u fs top top ret su i (stop_of (nodes_of bs) i) (node_count bs) code place a b
    first_refused o n z = record {
      says = o ∙ rw (l.grown.same ret r.kept);
      fine = λ _. record { left = wider; kept = omega (arith, r.kept, l.grown.more); raised = omega arith };
      named = λ _. n;
      deep = λ x. absurd (z x);
    }

-- ---- While

module _ {bs : List ℕ} {nodes : ℕ} {t : Tab} {fs : Rows} {top : ℕ} {st : List ℕ} {ret i d : ℕ} (r : Standing bs nodes fs top t st ret i (stop_of (nodes_of bs) i)) (q : Stmt bs i d 9) where
  while_is : (setting : Setting) (loop : Bool) → acted bs setting loop d i (state_of t fs top ret)
      ≡ (condition_at bs d (i + 1) (state_of t fs top ret) >>= λ s. after (with_frames (frames_of t fs top)) (body_at bs setting true (dropping setting) d (stop_of (nodes_of bs) (i + 1)) s))
  unfolding acted condition_at body_at act
  while_is setting loop = rw (while_at (nodes_of bs) (λ j. expr_at (nodes_of bs) d j) (λ j. block_at (nodes_of bs) d j) i q.kind, add-one i)

  module _ {u : Tab} {su : List ℕ} {code : ℕ} {place : Places} {a b : ℕ}
      (c : Assigned (names_of bs) (λ y. condition_at bs d (i + 1) (state (frames_of t fs top) y)) t u fs top su (i + 1) (stop_of (nodes_of bs) (i + 1)) (node_count bs) code place a b) where
    pub while_bad : (code ≡ 0 → ⊥) → (setting : Setting) (loop : Bool)
        → Done (names_of bs) (acted bs setting loop d i (state_of t fs top ret)) t u fs top top ret su i (stop_of (nodes_of bs) i) (node_count bs) code place a b
    unfolding ◌>>=◌
    while_bad z setting loop =
        let w = ended_wrong (names_of bs) u fs top (denote t ret) code place a b z c.typing in
        first_refused r (pair_while r.ready.sound q) c.left (while_is setting loop ∙ rw (c.says (denote t ret), w)) c.named c.typing

    pub while_done : (setting : Setting) {drops : Bool} {v : Tab} {gs : Rows} {high got k : ℕ} {sv : List ℕ} {code' : ℕ} {place' : Places} {a' b' : ℕ} → dropping setting ≡ drops → code ≡ 0 → k ≡ stop_of (nodes_of bs) (i + 1)
        → Done (names_of bs) (body_at bs setting true drops d k (state_of u fs top ret)) u v gs top high got sv k (stop_of (nodes_of bs) k) (node_count bs) code' place' a' b'
        → (loop : Bool)
        → Done (names_of bs) (acted bs setting loop d i (state_of t fs top ret)) t v fs top top got sv i (stop_of (nodes_of bs) i) (node_count bs) code' place' a' b'
    unfolding ◌>>=◌
    while_done setting y z o e loop =
        let p = pair_while r.ready.sound q in
        copied
        (while_is setting loop ∙ rw (y, c.says (denote t ret), ended_well (names_of bs) u fs top (denote t ret) code place a b z, ← o, c.left.grown.same ret r.kept))
        r.ready.fit (before_body r p c.left o) (rw (o) (omega (arith, p.last))) e

-- ---- For

module _ {bs : List ℕ} {nodes : ℕ} {t : Tab} {fs : Rows} {top : ℕ} {st : List ℕ} {ret i d x : ℕ} (r : Standing bs nodes fs top t st ret i (stop_of (nodes_of bs) i)) (q : Stmt bs i d 10) (m : x ≡ (node_of (nodes_of bs) i).arg)
    {u : Tab} {su : List ℕ} {code : ℕ} {place' : Places} {number a b : ℕ}
    (c : Iterated bs d t u fs top su (i + 1) (stop_of (nodes_of bs) (i + 1)) (node_count bs) code place' number a b) where
  for_is : (setting : Setting) (loop : Bool) → acted bs setting loop d i (state_of t fs top ret)
      ≡ checked (names_of bs) (expr_at (nodes_of bs) d (i + 1)) (state_of t fs top ret)
      (λ y. over_elements (place (expr_at (nodes_of bs) d (i + 1))) y (state_of t fs top ret)
      λ z. after (with_frames (frames_of t fs top)) (body_at bs setting true false d (stop_of (nodes_of bs) (i + 1)) (state (write x (since none (place (expr_at (nodes_of bs) d (i + 1))) z) (frames_of t fs top)) (denote t ret))))
  unfolding acted body_at act
  for_is setting loop = rw (for_at (nodes_of bs) (λ j. expr_at (nodes_of bs) d j) (λ j. block_at (nodes_of bs) d j) i q.kind, add-one i, m)

  pub for_bad : (code ≡ 0 → ⊥) → (setting : Setting) (loop : Bool)
      → Done (names_of bs) (acted bs setting loop d i (state_of t fs top ret)) t u fs top top ret su i (stop_of (nodes_of bs) i) (node_count bs) code place' a b
  for_bad z setting loop = first_refused r (pair_for r.ready.sound q) c.left (for_is setting loop ∙ c.ill z (denote t ret) _) c.named c.typing

  pub for_name : x < 128
  for_name = rw m (arg_small r.ready.sound i q.there)

  pub for_small : code ≡ 0 → number < cell_room
  for_small z = omega (arith, c.below z, c.left.grown.wf.room, c.left.grown.wf.most)

  -- the loop name is bound, known since the iterable
  module _ {es : Rows} {j : ℕ} {bound : Found} (z : code ≡ 0) (here : j ≡ i + 1) (w : Known None j number bound) (o : Bound fs es top x bound) where
    for_fit : Fit u es top
    for_fit = o.fit u c.left.fit (rw w.type_is (c.below z))

    pub for_standing : {k : ℕ} → k ≡ stop_of (nodes_of bs) (i + 1) → Standing bs nodes es top u su ret k (stop_of (nodes_of bs) k)
    for_standing e = second_standing r (pair_for r.ready.sound q) e c.left for_fit

    for_rows : frames_of u es top ≡ write x (since none (place (expr_at (nodes_of bs) d (i + 1))) (denote u number)) (frames_of t fs top)
    for_rows =
        o.says u c.left.fit
        ∙ ap (λ d. write x d (frames_of u fs top)) (w.says u c.left.grown.wf (c.below z))
        ∙ rw (here, place_at bs d (i + 1), frames_grown c.left.grown r.ready.fit)

    pub for_done : (setting : Setting) {v : Tab} {gs : Rows} {high got k : ℕ} {sv : List ℕ} {code' : ℕ} {place'' : Places} {a' b' : ℕ} → k ≡ stop_of (nodes_of bs) (i + 1)
        → Done (names_of bs) (body_at bs setting true false d k (state_of u es top ret)) u v gs top high got sv k (stop_of (nodes_of bs) k) (node_count bs) code' place'' a' b'
        → (loop : Bool)
        → Done (names_of bs) (acted bs setting loop d i (state_of t fs top ret)) t v fs top top got sv i (stop_of (nodes_of bs) i) (node_count bs) code' place'' a' b'
    for_done setting e y loop =
        let p = pair_for r.ready.sound q in
        copied (for_is setting loop ∙ c.well z (denote t ret) _ ∙ rw (← e, for_rows, c.left.grown.same ret r.kept))
        r.ready.fit (before_body r p c.left e) (rw e (omega (arith, p.last))) y

-- ---- Def

-- what is left behind m of the last children
within_past : {bs : List ℕ} {i : ℕ} → Sound bs → (m : ℕ) {j : ℕ} → Within bs i j (m + 1) → Within bs i (past (nodes_of bs) m j) 1
unfolding past
within_past s zero w = w
within_past s (suc m) w = let o : suc m + 1 - 1 ≡ m + 1 = omega arith in within_past s m (rw o at (within_child s w (omega arith)).3)

module _ {bs : List ℕ} {nodes : ℕ} {t : Tab} {fs : Rows} {top : ℕ} {st : List ℕ} {ret i d n : ℕ} (r : Standing bs nodes fs top t st ret i (stop_of (nodes_of bs) i)) (q : Stmt bs i d 11) (m : n ≡ (node_of (nodes_of bs) i).children) where
  pub def_some : 1 ≤ n
  def_some = rw m (count_def r.ready.sound q)

  def_within : Within bs i (i + 1) (n - 1 + 1)
  def_within =
      let o : n - 1 + 1 ≡ n = omega (arith, def_some) in
      rw (o, m) (within_all r.ready.sound i q.there)

  pub def_params : {j : ℕ} → j ≡ i + 1 → Params bs j (n - 1)
  def_params o = record { parent = i; within = rw o def_within }

  def_is : (setting : Setting) (loop : Bool) → acted bs setting loop d i (state_of t fs top ret)
      ≡ if_room i (state_of t fs top ret)
      (after (with_returns (denote t ret)) (popped (body_at bs setting false false d (past (nodes_of bs) (n - 1) (i + 1)) (enter (params_from (nodes_of bs) (n - 1) (i + 1)) (state_of t fs top ret)))))
  unfolding acted body_at act
  def_is setting loop = rw (def_at (nodes_of bs) (λ j. expr_at (nodes_of bs) d j) (λ j. block_at (nodes_of bs) d j) i q.kind, add-one i, m)

  def_wide : i ≤ stop_of (nodes_of bs) i
  def_wide = omega (arith, (wide_at r.ready.sound i q.there).0)

  pub def_deep : {m : First} → 7 ≤ top → (setting : Setting) (loop : Bool)
      → Done (names_of bs) (acted bs setting loop d i (state_of t fs top ret)) t t fs top top ret st i (stop_of (nodes_of bs) i) (node_count bs) 9 (places i m) 0 0
  unfolding if_room test◌then◌else◌
  def_deep o setting loop = too_deep_lem refl (def_is setting loop ∙ rw (length_frames t fs top, le-ltb (top + 1) 8 (omega arith)))
      (record { grown = grown_refl r.ready.wf; types_spent = omega (arith, def_wide); placed = q.there })

  -- the new row, cleared and with the parameters bound
  module _ {cs es : Rows} {j k : ℕ} (o : top < 7) (c : cs ≡ set fs (top + 1) absent_row) (here : j ≡ i + 1) (y' : Entered cs es (top + 1) (params_from (nodes_of bs) (n - 1) j))
      (w' : k ≡ past (nodes_of bs) (n - 1) j) where
    y : Entered cs es (top + 1) (params_from (nodes_of bs) (n - 1) (i + 1))
    y = rw here at y'

    w : (k ≡ past (nodes_of bs) (n - 1) (i + 1)) × Within bs i k 1
    w = let e = rw here at w' in (e, rw e (within_past r.ready.sound (n - 1) def_within))

    cleared : Fit t cs (top + 1)
    cleared = rw c (fit_clear r.ready.fit (omega arith))

    entered : frames_of t es (top + 1) ≡ with_params (params_from (nodes_of bs) (n - 1) (i + 1)) empty ∷ frames_of t fs top
    entered = y.says t empty (frames_of t fs top) r.ready.wf cleared (rw c (frames_clear t fs top (omega (arith, r.ready.fit.long))))

    block_ends : (i + 1 ≤ k) × (stop_of (nodes_of bs) k ≡ stop_of (nodes_of bs) i)
    block_ends =
        let s = r.ready.sound in
        (omega (arith, w.1.behind), within_end s (within_child s w.1 (omega arith)).3 (omega arith))

    pub def_at_block : At bs k d
    def_at_block = within_at r.ready.sound w.1 q.deep (omega arith)

    pub def_standing : Standing bs nodes es (top + 1) t st 0 k (stop_of (nodes_of bs) k)
    def_standing =
        let a : Ready bs nodes fs top t st 0 k (stop_of (nodes_of bs) k) = ready_within r.ready (omega (arith, block_ends.0)) (omega (arith, block_ends.1)) in
        record {
          ready = record {
            sound = a.sound;
            nodes_at = a.nodes_at;
            wf = a.wf;
            fit = y.fit t r.ready.wf cleared;
            stack = a.stack;
            types_room = a.types_room;
            elements_room = a.elements_room;
            stack_room = a.stack_room;
          };
          kept = omega (arith, r.ready.wf.base);
        }

    def_answer : (setting : Setting) (loop : Bool) → acted bs setting loop d i (state_of t fs top ret)
        ≡ after (with_returns (denote t ret)) (popped (body_at bs setting false false d k (state_of t es (top + 1) 0)))
    unfolding if_room test◌then◌else◌ enter
    def_answer setting loop =
        def_is setting loop
        ∙ rw (length_frames t fs top, lt-ltb (top + 1) 8 (omega arith), ← w.0, entered, unknown_number r.ready.wf)

    module _ (setting : Setting) {u : Tab} {gs : Rows} {high got : ℕ} {su : List ℕ} {code : ℕ} {place : Places} {a b : ℕ}
        (e : Done (names_of bs) (body_at bs setting false false d k (state_of t es (top + 1) 0)) t u gs (top + 1) high got su k (stop_of (nodes_of bs) k) (node_count bs) code place a b) where
      around : (code ≡ 9 → ⊥) → Left t u gs high su i (stop_of (nodes_of bs) i)
      around z = left_wider (e.fine z).left (omega (arith, block_ends.0)) (omega (arith, block_ends.1))

      -- the frame is popped
      pub def_done : code ≡ 0 → (loop : Bool)
          → Done (names_of bs) (acted bs setting loop d i (state_of t fs top ret)) t u gs top (high - 1) ret su i (stop_of (nodes_of bs) i) (node_count bs) 0 (places 0 None) 0 0
      unfolding popped after
      def_done z loop =
          let f = e.fine (λ x. omega arith) in
          let l = around (λ x. omega arith) in
          record {
            says = def_answer setting loop ∙ rw (was_done e z, frames_pop u gs high (omega (arith, f.raised)), ← (f.left.grown.same ret r.kept))
                (sym (ended_well (names_of bs) u gs (high - 1) (denote u ret) 0 (places 0 None) 0 0 refl));
            fine = λ _. record {
              left = record {
                grown = l.grown;
                fit = fit_top (high - 1) (omega (arith, l.fit.high)) l.fit;
                stack = l.stack;
                types_spent = l.types_spent;
                elements_spent = l.elements_spent;
              };
              kept = omega (arith, r.kept, l.grown.more);
              raised = omega (arith, f.raised);
            };
            named = λ _. named_well;
            deep = λ x. absurd (omega arith);
          }

      -- the frame stays
      pub def_bad : (code ≡ 0 → ⊥) → (loop : Bool)
          → Done (names_of bs) (acted bs setting loop d i (state_of t fs top ret)) t u gs top high ret su i (stop_of (nodes_of bs) i) (node_count bs) code place a b
      unfolding popped after
      def_bad z loop = elim (ℕ_discrete code 9) [
        | yes x ↦ too_deep_lem x (def_answer setting loop ∙ rw (was_deep e x)) (deep_wider (e.deep x) (omega (arith, block_ends.0)) (omega (arith, block_ends.1)))
        | no x ↦
            let f = e.fine x in
            record {
              says = def_answer setting loop ∙ rw (was_wrong e z x, ← (f.left.grown.same ret r.kept))
                  (sym (ended_wrong (names_of bs) u gs high (denote u ret) code place a b z x));
              fine = λ _. record { left = around x; kept = omega (arith, r.kept, f.left.grown.more); raised = omega (arith, f.raised) };
              named = e.named;
              deep = λ y. absurd (x y);
            }
      ]
