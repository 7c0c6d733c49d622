-- The statement of a node, and a Block: what is left of it ends as all of it ends.
use mathlib.Core.Path.{◌≡◌, refl, sym, ap, ◌∙◌}
use Rattle.std.specs.Prelude.{None}
use mathlib.Core.Bool.{Bool, true, false}
use mathlib.Core.List.{List}
use mathlib.Core.Logic.{◌⊎◌}
use Prim.Native.Nat.{ℕ, zero, suc, ◌+◌, ◌-◌, ◌≤◌, ◌<◌}
use native.Mathlib.Omega.{arith}
use native.Mathlib.Numerals.{sub-one, add-one}
use Rattle.meaning.specs.Image.{node_count, nodes_of, node_of, names_of, depth}
use Rattle.meaning.specs.Decode.{stop_of, stmt_at, block_at, stmts_from}
use Rattle.meaning.specs.Walk.{Setting, State, onward, walk, body}
use Rattle.meaning.proofs.Decoding.{stmts_down}
use Rattle.meaning.proofs.Faults.{Sound}
use Rattle.types.specs.Table.{Tab, denote}
use Rattle.frames.specs.Env.{Rows}
use Rattle.image.specs.Parts.{Moved}
use Rattle.image.specs.declared.Cursor.{Cursor}
use Rattle.image.specs.declared.Read.{Read}
use Rattle.image.proofs.Moving.{parent_of}
use Rattle.expr.specs.Contract.{At}
use Rattle.expr.proofs.Rows.{shallow}
use Rattle.state.specs.Notes.{Places, places}
use Rattle.targets.proofs.Endings.{ended_well, ended_wrong}
use Rattle.stmt.specs.Contract.{state_of, acted, walked_at, body_at, Standing, Stmt, Bodiless, Within, Fine, Done}
use Rattle.stmt.proofs.Laws.{was_deep, was_wrong, goes_on, too_deep_lem, deep_wider, deep_then, named_well, left_refl, fine_trans, fine_wider, done_as, ready_within, ready_next, wide_at, within_all, within_le, within_child, within_at}

less_one : (n : ℕ) → suc n - 1 ≡ n
less_one n = sub-one (suc n)

-- ---- the statement of a node

walked_acted : (bs : List ℕ) (setting : Setting) (loop : Bool) (d i : ℕ) (s : State) → 0 < d → walked_at bs setting loop d i s ≡ acted bs setting loop (d - 1) i s
unfolding walked_at acted walk stmt_at
walked_acted bs setting loop zero i s h = absurd (omega arith)
walked_acted bs setting loop (suc d) i s h = rw (less_one d)

module _ {bs : List ℕ} {i d : ℕ} (s : Sound bs) (h : At bs i d) where
  -- node i, and what was read of it
  pub stmt_here : {k : ℕ} → k ≡ (node_of (nodes_of bs) i).kind → Stmt bs i (d - 1) k
  stmt_here e = record { there = h.there; deep = omega (arith, h.deep, shallow s h); kind = sym e }

  pub stmt_done : (setting : Setting) (loop : Bool) (q : State) {t u : Tab} {gs : Rows} {top high got : ℕ} {su : List ℕ} {e M code : ℕ} {place : Places} {a b : ℕ}
      → Done (names_of bs) (acted bs setting loop (d - 1) i q) t u gs top high got su i e M code place a b
      → Done (names_of bs) (walked_at bs setting loop d i q) t u gs top high got su i e M code place a b
  stmt_done setting loop q a = done_as (walked_acted bs setting loop d i q (shallow s h)) a

pub bodiless : {k : ℕ} → (k ≡ 8 → ⊥) → (k ≡ 9 → ⊥) → (k ≡ 10 → ⊥) → (k ≡ 11 → ⊥) → Bodiless k
bodiless a b c d = record { no_if = a; no_while = b; no_for = c; no_def = d }

-- ---- the loop of `block`

pub block_down : (bs : List ℕ) (d i : ℕ) → 0 < d
    → block_at (nodes_of bs) d i ≡ stmts_from (nodes_of bs) (λ k. stmt_at (nodes_of bs) (d - 1) k) (node_of (nodes_of bs) i).children (i + 1)
unfolding block_at
block_down bs zero i h = absurd (omega arith)
block_down bs (suc d) i h = rw (less_one d, add-one i)

pub record Loop (bs : List ℕ) (setting : Setting) (nodes : ℕ) (t : Tab) (fs : Rows) (top ret i d : ℕ) (loop drops : Bool) (u : Tab) (gs : Rows) (high got : ℕ) (su : List ℕ) (j left : ℕ) : Type 0 where
  pub standing : Standing bs nodes gs high u su got j (stop_of (nodes_of bs) i)
  pub within : Within bs i j left
  pub deep : 64 ≤ depth i 0 (nodes_of bs) + (d - 1)
  pub fine : Fine t u gs top high got su i j
  pub answer : body_at bs setting loop drops d i (state_of t fs top ret)
      ≡ body (names_of bs) setting loop drops (stmts_from (nodes_of bs) (λ k. stmt_at (nodes_of bs) (d - 1) k) left j) (state_of u gs high got)

loop_first : {bs : List ℕ} {setting : Setting} {nodes : ℕ} {t : Tab} {fs : Rows} {top ret i d n : ℕ} {st : List ℕ} (loop drops : Bool)
    → Standing bs nodes fs top t st ret i (stop_of (nodes_of bs) i) → At bs i d → n ≡ (node_of (nodes_of bs) i).children
    → Loop bs setting nodes t fs top ret i d loop drops t fs top ret st (i + 1) n
unfolding body_at
loop_first {bs} {setting} {nodes} {t} {fs} {top} {ret} {i} {d} {n} loop drops r h e =
    let s = r.ready.sound in
    let w = wide_at s i h.there in
    let o = shallow s h in
    record {
      standing = record { ready = ready_within r.ready (omega arith) (omega arith); kept = r.kept };
      within = rw e (within_all s i h.there);
      deep = omega (arith, h.deep);
      fine = record { left = left_refl r.ready (omega arith); kept = r.kept; raised = omega arith };
      answer = rw (block_down bs d i o, ← e);
    }

-- the same from the cursor at the first statement
pub loop_begin : {bs : List ℕ} {setting : Setting} {nodes : ℕ} {t : Tab} {fs : Rows} {top ret d n : ℕ} {st : List ℕ} {c : Cursor} {r : Read} (loop drops : Bool)
    → Standing bs nodes fs top t st ret c.at (stop_of (nodes_of bs) c.at) → At bs c.at d → Moved bs c r (c.at + 1) → n ≡ r.node.children
    → Loop bs setting nodes t fs top ret (r.cursor.at - 1) d loop drops t fs top ret st r.cursor.at n
loop_begin loop drops s h m e = rw (parent_of m, m.at) (loop_first loop drops s h (e ∙ ap (λ x. x.children) m.node))

module _ {bs : List ℕ} {setting : Setting} {nodes : ℕ} {t u : Tab} {fs gs : Rows} {top ret i d : ℕ} {loop drops : Bool} {high got : ℕ} {su : List ℕ} {j left : ℕ}
    (l : Loop bs setting nodes t fs top ret i d loop drops u gs high got su j left) (p : 0 < left) where
  loop_child : (j < stop_of (nodes_of bs) j) × (stop_of (nodes_of bs) j ≤ stop_of (nodes_of bs) i) × (j < node_count bs) × Within bs i (stop_of (nodes_of bs) j) (left - 1)
  loop_child = within_child l.standing.ready.sound l.within p

  pub loop_standing : Standing bs nodes gs high u su got j (stop_of (nodes_of bs) j)
  loop_standing = record { ready = ready_within l.standing.ready (omega arith) loop_child.1; kept = l.standing.kept }

  pub loop_at : At bs j (d - 1)
  loop_at = within_at l.standing.ready.sound l.within l.deep p

  loop_answer : body_at bs setting loop drops d i (state_of t fs top ret)
      ≡ onward drops (walked_at bs setting loop (d - 1) j (state_of u gs high got))
      (λ s'. body (names_of bs) setting loop drops (stmts_from (nodes_of bs) (λ k. stmt_at (nodes_of bs) (d - 1) k) (left - 1) (stop_of (nodes_of bs) j)) s')
  unfolding body walked_at
  loop_answer = l.answer ∙ rw (stmts_down (nodes_of bs) (λ k. stmt_at (nodes_of bs) (d - 1) k) left j p)

  module _ {v : Tab} {hs : Rows} {peak had : ℕ} {sv : List ℕ} {code : ℕ} {place : Places} {a b : ℕ}
      (c : Done (names_of bs) (walked_at bs setting loop (d - 1) j (state_of u gs high got)) u v hs high peak had sv j (stop_of (nodes_of bs) j) (node_count bs) code place a b) where
    -- a Def was too deep: that is the end, whatever is dropped
    pub loop_deep : code ≡ 9
        → Done (names_of bs) (body_at bs setting loop drops d i (state_of t fs top ret)) t v hs top peak had sv i (stop_of (nodes_of bs) i) (node_count bs) code place a b
    unfolding onward
    loop_deep z = too_deep_lem z (loop_answer ∙ rw (was_deep c z)) (deep_wider (deep_then l.fine.left (c.deep z)) (omega arith) loop_child.1)

    -- an error is returned
    pub loop_wrong : (code ≡ 0 → ⊥) → (code ≡ 9 → ⊥) → drops ≡ false
        → Done (names_of bs) (body_at bs setting loop drops d i (state_of t fs top ret)) t v hs top peak had sv i (stop_of (nodes_of bs) i) (node_count bs) code place a b
    unfolding onward
    loop_wrong z n y = record {
      says = loop_answer ∙ rw (was_wrong c z n, y) (sym (ended_wrong (names_of bs) v hs peak (denote v had) code place a b z n));
      fine = λ x. fine_wider (fine_trans l.fine (c.fine n)) (omega arith) loop_child.1;
      named = c.named;
      deep = λ x. absurd (n x);
    }

    pub loop_next : {e rest : ℕ} → e ≡ stop_of (nodes_of bs) j → rest ≡ left - 1 → (code ≡ 9 → ⊥) → (code ≡ 0) ⊎ (drops ≡ true)
        → Loop bs setting nodes t fs top ret i d loop drops v hs peak had sv e rest
    loop_next z r n y =
        let f = c.fine n in
        let k = loop_child in
        rw (z, r) (record {
          standing = record { ready = ready_next l.standing.ready f.left (omega arith); kept = f.kept };
          within = k.3;
          deep = l.deep;
          fine = fine_trans l.fine f;
          answer = loop_answer ∙ goes_on c drops _ n y;
        })

pub loop_end : {bs : List ℕ} {setting : Setting} {nodes : ℕ} {t u : Tab} {fs gs : Rows} {top ret i d : ℕ} {loop drops : Bool} {high got : ℕ} {su : List ℕ} {j left : ℕ}
    → Loop bs setting nodes t fs top ret i d loop drops u gs high got su j left → left ≤ 0
    → Done (names_of bs) (body_at bs setting loop drops d i (state_of t fs top ret)) t u gs top high got su i (stop_of (nodes_of bs) i) (node_count bs) 0 (places 0 None) 0 0
unfolding body stmts_from
loop_end {bs} {setting} {nodes} {t} {u} {fs} {gs} {top} {ret} {i} {d} {loop} {drops} {high} {got} {su} {j} {left} l z =
    let o : left ≡ 0 = omega arith in
    record {
      says = (rw o at l.answer) ∙ sym (ended_well (names_of bs) u gs high (denote u got) 0 (places 0 None) 0 0 refl);
      fine = λ _. fine_wider l.fine (omega arith) (within_le l.standing.ready.sound l.within);
      named = λ _. named_well;
      deep = λ x. absurd (omega arith);
    }
