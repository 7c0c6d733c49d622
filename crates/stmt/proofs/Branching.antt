-- If: its branches one after the other, and the merge.
use mathlib.Core.Path.{◌≡◌, refl, sym, ap, ◌∙◌}
use Rattle.std.specs.Prelude.{Ok, Err}
use mathlib.Core.Bool.{Bool, true, false}
use mathlib.Core.List.{List, [], ◌∷◌, ◌++◌}
use mathlib.Core.Option.{Option, some, none}
use Prim.Native.Nat.{ℕ, zero, suc, ◌+◌, ◌-◌, ◌≤◌, ◌<◌}
use native.Mathlib.Omega.{arith}
use native.Mathlib.Decide.{ℕ_discrete, dec_lt}
use native.Mathlib.Numerals.{add-one}
use borrow.Author.Tests.{lt-ltb, le-ltb}
use lib.Dec.{ltb}
use lib.ListN.{length, get_or, replicate, get_or-replicate, length-replicate, get_or-eq_default}
use Rattle.meaning.specs.Base.{◌or◌, test◌then◌else◌, choose, is_in, count}
use Rattle.meaning.specs.Types.{Ty}
use Rattle.meaning.specs.Tree.{Expr, Stmts, on, otherwise, ◌else_arms◌, place, first_condition}
use Rattle.meaning.specs.Image.{Name, plain, name_of, node_count, nodes_of, node_of, names_of, depth}
use Rattle.meaning.specs.Decode.{stop_of, arms_from, expr_at, block_at}
use Rattle.meaning.specs.Message.{Piece, a_type, a_text, a_number}
use Rattle.meaning.specs.Frames.{Binding, Frames}
use Rattle.meaning.specs.Walk.{Setting, dropping, State, state, End, done, wrong, too_deep, ◌>>=◌, on_copy, act, arm, branches}
use Rattle.meaning.proofs.Decoding.{if_at, arms_down}
use Rattle.meaning.proofs.Faults.{Sound}
use Rattle.types.specs.Table.{Tab, denote}
use Rattle.frames.specs.Env.{Rows, First, Merge, absent_row, slot, frames_of, Noted, settle_name, settle, merge_code, clash_name, merge_end, Committed}
use Rattle.frames.specs.declared.Disagreement.{Disagreement}
use Rattle.frames.proofs.Laws.{frames_grown}
use Rattle.frames.proofs.Merging.{Tally, tally_none, tally_grown, tally_next, merged}
use Rattle.rules.specs.Outcome.{types_named, pieces}
use Rattle.image.specs.Parts.{Moved}
use Rattle.image.specs.declared.Cursor.{Cursor}
use Rattle.image.specs.declared.Read.{Read}
use Rattle.image.proofs.Moving.{parent_of}
use Rattle.expr.specs.Contract.{Ready, At}
use Rattle.state.specs.Notes.{Places, places}
use Rattle.targets.specs.Ending.{first_at, ended, Named, Left, Assigned}
use Rattle.targets.proofs.Endings.{ended_well, ended_wrong, left_then, left_wider}
use Rattle.stmt.specs.Contract.{state_of, acted, body_at, condition_at, arm_block, armed_at, Standing, Stmt, Branch, Within, Done}
use Rattle.stmt.proofs.Laws.{was_done, was_deep, was_wrong, too_deep_lem, deep_wider, deep_then, named_well, left_refl, left_rows, done_as, ready_within, ready_next, place_at, wide_at, within_all, within_le, within_child, within_at, count_if}

-- ---- one branch

pub block_when : (bs : List ℕ) (n i : ℕ) → 1 < n → arm_block bs n i ≡ stop_of (nodes_of bs) i
unfolding arm_block test◌then◌else◌
block_when bs n i p = rw (lt-ltb 1 n p)

pub block_last : (bs : List ℕ) (n i : ℕ) → n ≤ 1 → arm_block bs n i ≡ i
unfolding arm_block test◌then◌else◌
block_last bs n i p = rw (le-ltb 1 n p)

arms_step : (bs : List ℕ) (e : ℕ → Expr) (b : ℕ → Stmts) (n i : ℕ) → 0 < n
    → arms_from (nodes_of bs) e b n i
    ≡ (test ltb 1 n then on (e i) (b (stop_of (nodes_of bs) i)) else otherwise (b i)) else_arms arms_from (nodes_of bs) e b (n - 2) (stop_of (nodes_of bs) (arm_block bs n i))
unfolding arms_from arm_block test◌then◌else◌
arms_step bs e b zero i p = absurd (omega arith)
arms_step bs e b (suc zero) i p = refl
arms_step bs e b (suc (suc n)) i p =
    let o : suc (suc n) - 2 ≡ n = omega arith in
    rw (o, lt-ltb 1 (suc (suc n)) (omega arith))

record Step (bs : List ℕ) (i j n d : ℕ) : Type 0 where
  pub branch : Branch bs j n d
  pub order : j ≤ arm_block bs n j
  pub wide : arm_block bs n j < stop_of (nodes_of bs) (arm_block bs n j)
  pub inside : stop_of (nodes_of bs) (arm_block bs n j) ≤ stop_of (nodes_of bs) i
  pub rest : Within bs i (stop_of (nodes_of bs) (arm_block bs n j)) (n - 2)

-- by the node k of its Block
step_by : {bs : List ℕ} {i j n d k : ℕ} → arm_block bs n j ≡ k → At bs j d → At bs k d → j ≤ k → k < stop_of (nodes_of bs) k → stop_of (nodes_of bs) k ≤ stop_of (nodes_of bs) i
    → Within bs i (stop_of (nodes_of bs) k) (n - 2) → Step bs i j n d
step_by {bs} {i} {j} {n} {d} {k} e a b p q r w = record {
  branch = record { first = a; block = rw e b };
  order = omega (arith, e);
  wide = rw e q;
  inside = rw e r;
  rest = rw e w;
}

step : {bs : List ℕ} {i j n d : ℕ} → Sound bs → Within bs i j n → 64 ≤ depth i 0 (nodes_of bs) + d → 0 < n → Step bs i j n d
step {bs} {i} {j} {n} {d} s w l p =
    let c = within_child s w p in
    elim (dec_lt 1 n) [
      | yes m ↦
          let e = within_child s c.3 (omega arith) in
          let o : n - 1 - 1 ≡ n - 2 = omega arith in
          step_by (block_when bs n j m) (within_at s w l p) (within_at s c.3 l (omega arith)) (omega arith) e.0 e.1 (rw o at e.3)
      | no m ↦
          let o : n - 1 ≡ n - 2 = omega arith in
          step_by (block_last bs n j (omega arith)) (within_at s w l p) (within_at s w l p) (omega arith) c.0 c.1 (rw o at c.3)
    ]

-- ---- the answers of `one_arm`

module _ {bs : List ℕ} {nodes : ℕ} {t : Tab} {fs : Rows} {top : ℕ} {st : List ℕ} {ret i n d : ℕ} (loop : Bool)
    (r : Standing bs nodes fs top t st ret i (stop_of (nodes_of bs) (arm_block bs n i))) (h : Branch bs i n d) where
  -- the last branch, without a condition
  module _ (p : n ≤ 1) where
    pub last_standing : Standing bs nodes fs top t st ret i (stop_of (nodes_of bs) i)
    last_standing = rw (block_last bs n i p) at r

    pub arm_last : (setting : Setting) {drops : Bool} {u : Tab} {gs : Rows} {high got : ℕ} {su : List ℕ} {code : ℕ} {place' : Places} {a b : ℕ} → dropping setting ≡ drops
        → Done (names_of bs) (body_at bs setting loop drops d i (state_of t fs top ret)) t u gs top high got su i (stop_of (nodes_of bs) i) (node_count bs) code place' a b
        → Done (names_of bs) (armed_at bs setting loop d n i (state_of t fs top ret)) t u gs top high got su i (stop_of (nodes_of bs) (arm_block bs n i)) (node_count bs) code place' a b
    unfolding armed_at body_at arm test◌then◌else◌
    arm_last setting y c = rw (block_last bs n i p) (done_as (rw (le-ltb 1 n p, ← y)) c)

  -- a branch with a condition
  module _ (p : 1 < n) where
    when_wide : (i < stop_of (nodes_of bs) i) × (stop_of (nodes_of bs) i < stop_of (nodes_of bs) (arm_block bs n i))
    when_wide =
        let e = block_when bs n i p in
        ((wide_at r.ready.sound i h.first.there).0, omega (arith, (wide_at r.ready.sound (arm_block bs n i) h.block.there).0, e))

    pub when_ready : Ready bs nodes fs top t st 0 i (stop_of (nodes_of bs) i)
    when_ready = ready_within r.ready (omega arith) (omega (arith, when_wide))

    when_is : (setting : Setting) → armed_at bs setting loop d n i (state_of t fs top ret)
        ≡ (condition_at bs d i (state_of t fs top ret) >>= λ s. body_at bs setting loop (dropping setting) d (stop_of (nodes_of bs) i) s)
    unfolding armed_at condition_at body_at arm test◌then◌else◌
    when_is setting = rw (lt-ltb 1 n p)

    module _ {u : Tab} {su : List ℕ} {code : ℕ} {place' : Places} {a b : ℕ}
        (c : Assigned (names_of bs) (λ y. condition_at bs d i (state (frames_of t fs top) y)) t u fs top su i (stop_of (nodes_of bs) i) (node_count bs) code place' a b) where
      pub arm_bad : (setting : Setting) → (code ≡ 0 → ⊥)
          → Done (names_of bs) (armed_at bs setting loop d n i (state_of t fs top ret)) t u fs top top ret su i (stop_of (nodes_of bs) (arm_block bs n i)) (node_count bs) code place' a b
      unfolding ◌>>=◌
      arm_bad setting z =
          let w = ended_wrong (names_of bs) u fs top (denote t ret) code place' a b z c.typing in
          record {
            says = when_is setting ∙ rw (c.says (denote t ret), w) (sym w ∙ rw (c.left.grown.same ret r.kept));
            fine = λ _. record { left = left_wider c.left (omega arith) (omega (arith, when_wide)); kept = omega (arith, r.kept, c.left.grown.more); raised = omega arith };
            named = λ _. c.named;
            deep = λ x. absurd (c.typing x);
          }

      module _ {k : ℕ} (o : k ≡ stop_of (nodes_of bs) i) where
        pub when_at : At bs k d
        when_at = rw (o, ← (block_when bs n i p)) h.block

        pub when_standing : Standing bs nodes fs top u su ret k (stop_of (nodes_of bs) k)
        when_standing =
            let e : arm_block bs n i ≡ k = block_when bs n i p ∙ sym o in
            let l : Left t u fs top su i k = rw o c.left in
            let m : Ready bs nodes fs top t st 0 i (stop_of (nodes_of bs) k) = rw e at r.ready in
            record { ready = ready_next m l (omega (arith, when_wide, o)); kept = omega (arith, r.kept, c.left.grown.more) }

        pub arm_done : (setting : Setting) {drops : Bool} {v : Tab} {gs : Rows} {high got : ℕ} {sv : List ℕ} {code' : ℕ} {place'' : Places} {a' b' : ℕ} → dropping setting ≡ drops → code ≡ 0
            → Done (names_of bs) (body_at bs setting loop drops d k (state_of u fs top ret)) u v gs top high got sv k (stop_of (nodes_of bs) k) (node_count bs) code' place'' a' b'
            → Done (names_of bs) (armed_at bs setting loop d n i (state_of t fs top ret)) t v gs top high got sv i (stop_of (nodes_of bs) (arm_block bs n i)) (node_count bs) code' place'' a' b'
        unfolding ◌>>=◌
        arm_done setting y z e =
            let m : arm_block bs n i ≡ k = block_when bs n i p ∙ sym o in
            let l : Left t u fs top su i k = rw o c.left in
            record {
              says = when_is setting
                  ∙ rw (y, c.says (denote t ret), ended_well (names_of bs) u fs top (denote t ret) code place' a b z, ← o, ← (c.left.grown.same ret r.kept)) e.says;
              fine = λ x.
                  let f = e.fine x in
                  rw m (record { left = left_then l f.left; kept = f.kept; raised = f.raised });
              named = e.named;
              deep = λ x. rw m (deep_then l (e.deep x));
            }

-- ---- the loop of `choices`: Δs are the frames of the branches so far, as ms and cs tell

pub record Choosing (bs : List ℕ) (setting : Setting) (nodes : ℕ) (t : Tab) (fs : Rows) (top ret i d : ℕ) (loop : Bool) (u : Tab) (got : ℕ) (su ms : List ℕ) (cs : List Bool) (j left : ℕ) : Type 0 where
  pub standing : Standing bs nodes fs top u su got j (stop_of (nodes_of bs) i)
  pub within : Within bs i j left
  pub deep : 64 ≤ depth i 0 (nodes_of bs) + d
  pub spent : Left t u fs top su i j
  pub same : frames_of u fs top ≡ frames_of t fs top
  pub so_far : List Frames
  pub tally : Tally u (frames_of t fs top) so_far ms cs
  pub answer : acted bs setting loop d i (state_of t fs top ret)
      ≡ branches (names_of bs) setting loop (i + 1) so_far (arms_from (nodes_of bs) (λ k. expr_at (nodes_of bs) d k) (λ k. block_at (nodes_of bs) d k) left j) (state (frames_of t fs top) (denote u got))

first_condition_lem : (bs : List ℕ) (e : ℕ → Expr) (b : ℕ → Stmts) (n i : ℕ) → 1 < n → first_condition (arms_from (nodes_of bs) e b n i) ≡ place (e i)
unfolding first_condition
first_condition_lem bs e b n i p = rw (arms_down (nodes_of bs) e b n i p)

choosing_first : {bs : List ℕ} {setting : Setting} {nodes : ℕ} {t : Tab} {fs : Rows} {top : ℕ} {st : List ℕ} {ret i d n : ℕ} (loop : Bool)
    → Standing bs nodes fs top t st ret i (stop_of (nodes_of bs) i) → Stmt bs i d 8 → n ≡ (node_of (nodes_of bs) i).children
    → Choosing bs setting nodes t fs top ret i d loop t ret st absent_row (replicate 128 false) (i + 1) n
unfolding acted act arms_from
choosing_first {bs} {setting} {nodes} {t} {fs} {top} {st} {ret} {i} {d} {n} loop r q e =
    let s = r.ready.sound in
    let w = wide_at s i q.there in
    let many : 1 < n = rw e (count_if s q) in
    record {
      standing = record { ready = ready_within r.ready (omega arith) (omega arith); kept = r.kept };
      within = rw e (within_all s i q.there);
      deep = q.deep;
      spent = left_refl r.ready (omega arith);
      same = refl;
      so_far = [];
      tally = tally_none t (frames_of t fs top);
      answer = rw (
        if_at (nodes_of bs) (λ k. expr_at (nodes_of bs) d k) (λ k. block_at (nodes_of bs) d k) i q.kind,
        ← (add-one i),
        ← e,
        first_condition_lem bs (λ k. expr_at (nodes_of bs) d k) (λ k. block_at (nodes_of bs) d k) n (i + 1) many,
        place_at bs d (i + 1),
      );
    }

-- the same from the cursor at the first condition
pub choosing_begin : {bs : List ℕ} {setting : Setting} {nodes : ℕ} {t : Tab} {fs : Rows} {top : ℕ} {st : List ℕ} {ret d n : ℕ} {c : Cursor} {q : Read} (loop : Bool)
    → Standing bs nodes fs top t st ret c.at (stop_of (nodes_of bs) c.at) → Stmt bs c.at d 8 → Moved bs c q (c.at + 1) → n ≡ q.node.children
    → Choosing bs setting nodes t fs top ret (q.cursor.at - 1) d loop t ret st absent_row (replicate 128 false) q.cursor.at n
choosing_begin loop s h m e = rw (parent_of m, m.at) (choosing_first loop s h (e ∙ ap (λ x. x.children) m.node))

pub first_place : {bs : List ℕ} {c : Cursor} {q : Read} → Moved bs c q (c.at + 1) → q.cursor.at ≡ q.cursor.at - 1 + 1
first_place m = omega (arith, m.at)

module _ {bs : List ℕ} {setting : Setting} {nodes : ℕ} {t : Tab} {fs : Rows} {top ret i d : ℕ} {loop : Bool} {u : Tab} {got : ℕ} {su ms : List ℕ} {cs : List Bool} {j left : ℕ}
    (l : Choosing bs setting nodes t fs top ret i d loop u got su ms cs j left) (p : 0 < left) where
  choosing_step : Step bs i j left d
  choosing_step = step l.standing.ready.sound l.within l.deep p

  pub choosing_branch : Branch bs j left d
  choosing_branch = choosing_step.branch

  pub choosing_standing : Standing bs nodes fs top u su got j (stop_of (nodes_of bs) (arm_block bs left j))
  choosing_standing = record { ready = ready_within l.standing.ready (omega arith) choosing_step.inside; kept = l.standing.kept }

  choosing_answer : acted bs setting loop d i (state_of t fs top ret)
      ≡ (on_copy (frames_of t fs top) (armed_at bs setting loop d left j (state_of u fs top got))
      >>= λ s₁. branches (names_of bs) setting loop (i + 1) (l.so_far ++ (s₁.frames ∷ []))
      (arms_from (nodes_of bs) (λ k. expr_at (nodes_of bs) d k) (λ k. block_at (nodes_of bs) d k) (left - 2) (stop_of (nodes_of bs) (arm_block bs left j)))
      (state (frames_of t fs top) s₁.returns))
  unfolding branches armed_at
  choosing_answer = l.answer ∙ rw (arms_step bs (λ k. expr_at (nodes_of bs) d k) (λ k. block_at (nodes_of bs) d k) left j p, l.same)

  module _ {v : Tab} {hs : Rows} {peak had : ℕ} {sv : List ℕ} {code : ℕ} {place' : Places} {a b : ℕ}
      (c : Done (names_of bs) (armed_at bs setting loop d left j (state_of u fs top got)) u v hs top peak had sv j (stop_of (nodes_of bs) (arm_block bs left j)) (node_count bs) code place' a b) where
    -- the base frames over the table that the branch left
    choosing_left : (code ≡ 9 → ⊥) → Left t v fs top sv i (stop_of (nodes_of bs) (arm_block bs left j))
    choosing_left y = left_then l.spent (left_rows l.spent.fit (c.fine y).left)

    choosing_same : (code ≡ 9 → ⊥) → frames_of v fs top ≡ frames_of t fs top
    choosing_same y = frames_grown (c.fine y).left.grown l.spent.fit ∙ l.same

    -- a refusal of the condition or, where it is not dropped, in the body: the branch's copy of the frames is thrown away
    pub choosing_out : (code ≡ 0 → ⊥)
        → Done (names_of bs) (acted bs setting loop d i (state_of t fs top ret)) t v fs top top had sv i (stop_of (nodes_of bs) i) (node_count bs) code place' a b
    unfolding on_copy ◌>>=◌
    choosing_out z = elim (ℕ_discrete code 9) [
      | yes y ↦ too_deep_lem y (choosing_answer ∙ rw (was_deep c y)) (deep_wider (deep_then l.spent (c.deep y)) (omega arith) choosing_step.inside)
      | no y ↦ record {
        says = choosing_answer
            ∙ rw (was_wrong c z y, ← (choosing_same y)) (sym (ended_wrong (names_of bs) v fs top (denote v had) code place' a b z y));
        fine = λ _. record {
          left = left_wider (choosing_left y) (omega arith) choosing_step.inside;
          kept = (c.fine y).kept;
          raised = omega arith;
        };
        named = c.named;
        deep = λ x. absurd (y x);
      }
    ]

    pub choosing_next : {ns : List ℕ} {ds : List Bool} {e k high : ℕ} → e ≡ stop_of (nodes_of bs) (arm_block bs left j) → k ≡ left - 2 → code ≡ 0 → high ≡ peak
        → Noted (get_or fs top []) (get_or hs high []) ms cs ns ds 128
        → Choosing bs setting nodes t fs top ret i d loop v had sv ns ds e k
    unfolding on_copy ◌>>=◌
    choosing_next {ns} {ds} {e} {k} z y o h n' =
        let n = rw h at n' in
        let x : code ≡ 9 → ⊥ = λ x. omega arith in
        let f = c.fine x in
        let m = left_rows l.spent.fit f.left in
        let q = choosing_step in
        rw (z, y) (record {
          standing = record { ready = ready_next l.standing.ready m (omega (arith, q.order, q.wide)); kept = f.kept };
          within = q.rest;
          deep = l.deep;
          spent = choosing_left x;
          same = choosing_same x;
          so_far = l.so_far ++ (frames_of v hs peak ∷ []);
          tally = tally_next f.left.grown.wf m.fit f.left.fit (sym (choosing_same x)) (tally_grown f.left.grown l.tally) n;
          answer = choosing_answer ∙ rw (was_done c o);
        })

-- ---- the name of a clash is one of 128: with names spelt like none, the merge's own refusal would tell it

some_name : Name
some_name = record { spelling = 1 ∷ []; role = plain }

some_names : List Name
some_names = replicate 128 some_name

Spelt : End → Type 0
Spelt (done s) = Unit {0}
Spelt (wrong r s) = r.names ≡ a_text (1 ∷ []) ∷ []
Spelt (too_deep n) = Unit {0}

spelt : (x : ℕ) → x < 128 → (name_of some_names x).spelling ≡ 1 ∷ []
unfolding name_of some_names some_name
spelt x h = ap (λ w. w.spelling) (get_or-replicate 128 x some_name (record { spelling = []; role = plain }) h)

unspelt : (x : ℕ) → 128 ≤ x → (name_of some_names x).spelling ≡ []
unfolding name_of some_names
unspelt x h = ap (λ w. w.spelling) (get_or-eq_default (replicate 128 some_name) (record { spelling = []; role = plain }) {n = x} (rw length-replicate h))

name_spelt : (c x : ℕ) → x < 128 → (o : Option Binding) (q : Bool) (s : State) (k : State → End) → ((s : State) → Spelt (k s)) → Spelt (settle_name some_names c x o q s >>= k)
unfolding settle_name ◌>>=◌ Spelt
name_spelt c x h none q s k f = f s
name_spelt c x h (some t) true s k f = ap (λ w. a_text w ∷ []) (spelt x h)
name_spelt c x h (some t) false s k f = f _

settle_spelt : (c : ℕ) (f : ℕ → Option Binding) (g : ℕ → Bool) (n i : ℕ) (s : State) → i + n ≤ 128 → Spelt (settle some_names c f g (count i n) s)
unfolding settle count Spelt
settle_spelt c f g zero i s h = tt
settle_spelt c f g (suc n) i s h = name_spelt c i (omega arith) (f i) (g i) s _ (λ s'. settle_spelt c f g n (suc i) s' (omega arith))

weight : Piece → ℕ
weight (a_type t) = 0
weight (a_text s) = length s
weight (a_number n) = 0

weights : List Piece → ℕ
weights [] = 0
weights (p ∷ ps) = weight p

clash_name_lem : {fs gs : Rows} {top : ℕ} {ms : List ℕ} {cs : List Bool} {d : Disagreement} (t : Tab) → Committed fs gs top ms cs (Err d) → d.name < 128
unfolding merge_end Spelt weights weight
clash_name_lem {fs} {gs} {top} {ms} {cs} {d} t c = elim (dec_lt d.name 128) [
  | yes h ↦ h
  | no h ↦
      let a = settle_spelt 0 (λ x. slot t (get_or ms x 0)) (λ x. get_or cs x false) 128 0 (state (frames_of t fs top) (denote t 0)) (omega arith) in
      let b = rw (c.says some_names 0 t (denote t 0), unspelt d.name (omega arith)) at a in
      let z : ◌≡◌ {A = ℕ} 0 1 = ap weights b in
      absurd (omega arith)
]

-- ---- the merge

-- n is noted: where a name clashes, it is the first node of its first type
abbrev pub ClashNoted : First → Merge → Type 0
ClashNoted n (Ok _) = Unit {0}
ClashNoted n (Err d) = n ≡ d.first

merge_ended : (ws : List Name) (u : Tab) (gs : Rows) (top : ℕ) (y : Ty) (c : ℕ) (n : First) (m : Merge) → ClashNoted n m
    → merge_end ws c m (state (frames_of u gs top) y) ≡ ended ws u gs top y (merge_code m) (places c n) (clash_name m) 0
unfolding merge_end ended first_at pieces types_named is_in choose test◌then◌else◌ ◌or◌
merge_ended ws u gs top y c n (Ok _) e = refl
merge_ended ws u gs top y c n (Err d) e = rw e

merge_named : {fs gs : Rows} {top : ℕ} {ms : List ℕ} {cs : List Bool} {c : ℕ} {n : First} {M : ℕ} (u : Tab) (m : Merge) → Committed fs gs top ms cs m → c < M
    → Named u M (merge_code m) (places c n) (clash_name m) 0
unfolding types_named is_in test◌then◌else◌ ◌or◌
merge_named u (Ok _) k h = named_well
merge_named u (Err x) k h =
    let n = clash_name_lem u k in
    record {
      first = λ x. absurd (omega (arith, none23));
      second = λ x. absurd (omega (arith, none23));
      small = λ x y. (omega arith, omega arith);
      placed = λ x. h;
    }
  where
    none23 : types_named 23 ≡ 0
    none23 = refl

merge_shallow : (m : Merge) → merge_code m ≡ 9 → ⊥
merge_shallow (Ok _) e = absurd (omega arith)
merge_shallow (Err x) e = absurd (omega arith)

pub choosing_end : {bs : List ℕ} {setting : Setting} {nodes : ℕ} {t : Tab} {fs gs : Rows} {top ret i d : ℕ} {loop : Bool} {u : Tab} {got : ℕ} {su ms : List ℕ} {cs : List Bool} {j left : ℕ} {n : First} {m : Merge}
    → Stmt bs i d 8 → Choosing bs setting nodes t fs top ret i d loop u got su ms cs j left → left ≤ 0 → Committed fs gs top ms cs m → ClashNoted n m
    → Done (names_of bs) (acted bs setting loop d i (state_of t fs top ret)) t u gs top top got su i (stop_of (nodes_of bs) i) (node_count bs) (merge_code m) (places (i + 1) n) (clash_name m) 0
unfolding branches arms_from
choosing_end {bs} {setting} {nodes} {t} {fs} {gs} {top} {ret} {i} {d} {loop} {u} {got} {su} {ms} {cs} {j} {left} {n} {m} q l z c noted =
    let o : left ≡ 0 = omega arith in
    let s = l.standing.ready.sound in
    let e = l.spent in
    let h = (within_child s (within_all s i q.there) (omega (arith, count_if s q))).2 in
    let le = within_le s l.within in
    record {
      says = (rw o at l.answer) ∙ merged (names_of bs) (i + 1) (denote u got) (sym l.same) l.tally c ∙ merge_ended (names_of bs) u gs top (denote u got) (i + 1) n m noted;
      fine = λ _. record {
        left = record {
          grown = e.grown;
          fit = c.fit u e.fit l.tally.within;
          stack = e.stack;
          types_spent = omega (arith, e.types_spent, le);
          elements_spent = omega (arith, e.elements_spent, le);
        };
        kept = l.standing.kept;
        raised = omega arith;
      };
      named = λ _. merge_named u m c h;
      deep = λ x. absurd (merge_shallow m x);
    }
