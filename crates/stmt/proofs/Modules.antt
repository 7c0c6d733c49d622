-- The module's statements.
use mathlib.Core.Path.{◌≡◌, refl, sym, ap, ◌∙◌}
use mathlib.Core.Bool.{false}
use mathlib.Core.List.{List, [], ◌∷◌}
use Prim.Native.Nat.{ℕ, ◌+◌, ◌-◌, ◌≤◌, ◌<◌}
use native.Mathlib.Omega.{arith}
use native.Mathlib.Decide.{ℕ_discrete}
use borrow.Author.Tests.{lt-ltb}
use lib.ListN.{length, replicate, length-replicate, get_or-replicate}
use Rattle.meaning.specs.Base.{◌and◌, test◌then◌else◌}
use Rattle.meaning.specs.Types.{Ty, unknown}
use Rattle.meaning.specs.Image.{Node, node_count, nodes_from, nodes_of, node_of, names_of, depth}
use Rattle.meaning.specs.Decode.{stop_of, stmt_at, stmts_from, tree_of}
use Rattle.meaning.specs.Walk.{Setting, state, ◌>>=◌, program, start}
use Rattle.meaning.specs.Answer.{walked}
use Rattle.meaning.proofs.Decoding.{stmts_down}
use Rattle.meaning.proofs.Faults.{Sound, sizes}
use Rattle.meaning.proofs.Nesting.{sound_nested, nodes_many, root}
use Rattle.types.specs.Table.{Tab, denote}
use Rattle.types.proofs.Laws.{unknown_number}
use Rattle.frames.specs.Env.{Rows, absent_row, frame_of, below, frames_of, Fit}
use Rattle.frames.proofs.Laws.{absent_cells, map_replicate}
use Rattle.meaning.specs.Frames.{empty}
use Rattle.expr.specs.Contract.{Ready, At}
use Rattle.targets.specs.Ending.{Left}
use Rattle.targets.proofs.Endings.{ended_well, ended_deep, ended_wrong, left_none, left_then, left_wider}
use Rattle.state.specs.Notes.{Places}
use Rattle.stmt.specs.Contract.{state_of, walked_at, Standing, Within, Done, Started, Ran}
use Rattle.stmt.proofs.Laws.{was_done, was_deep, was_wrong, named_well, deep_wider, deep_then, ready_within, ready_next, few_nodes, wide_at, within_all, within_le, within_child, within_at, stop_is}
use Rattle.stmt.proofs.Bodies.{block_down}

root_depth : (ds : List Node) → 0 < length ds → 0 < (node_of ds 0).stop → 1 ≤ depth 0 0 ds
unfolding depth node_of test◌then◌else◌ ◌and◌
root_depth [] p h = absurd (omega arith)
root_depth (d ∷ ds) p h = rw (lt-ltb 0 d.stop h) (omega arith)

module _ {bs : List ℕ} (s : Sound bs) where
  pub some_node : 0 < node_count bs
  some_node = (sizes s.headed).one_node

  deep_root : 64 ≤ depth 0 0 (nodes_of bs) + 63
  deep_root = omega (arith, root_depth (nodes_of bs) (rw (nodes_many bs) some_node) (omega (arith, (wide_at s 0 some_node).0, stop_is s 0)))

  root_stop : stop_of (nodes_of bs) 0 ≡ node_count bs
  root_stop = sym (stop_is s 0) ∙ (root (sound_nested s) (rw (nodes_many bs) some_node)).1 ∙ nodes_many bs

-- what is left of the module ends as all of it ends
pub record Running (bs : List ℕ) (setting : Setting) (nodes : ℕ) (t u : Tab) (gs : Rows) (high : ℕ) (su : List ℕ) (j left : ℕ) : Type 0 where
  pub standing : Standing bs nodes gs high u su 0 j (node_count bs)
  pub within : Within bs 0 j left
  pub spent : Left t u gs high su 1 j
  pub returns : Ty
  pub answer : walked setting bs ≡ program (names_of bs) setting (stmts_from (nodes_of bs) (λ k. stmt_at (nodes_of bs) 63 k) left j) (state (frames_of u gs high) returns)

pub running_first : {bs : List ℕ} {setting : Setting} {nodes : ℕ} {fs : Rows} {t : Tab} {st : List ℕ} {n : ℕ} → Started bs fs t → length st ≡ 2048 → nodes ≡ nodes_from bs → n ≡ (node_of (nodes_of bs) 0).children
    → Running bs setting nodes t t fs 0 st 1 n
unfolding walked tree_of start
running_first {bs} {setting} {nodes} {fs} {t} {st} {n} a h k e =
    let s = a.sound in
    let r : Ready bs nodes fs 0 t st 0 0 (node_count bs) = record {
      sound = s;
      nodes_at = k;
      wf = a.wf;
      fit = a.fit;
      stack = h;
      types_room = omega (arith, a.types, a.room);
      elements_room = omega (arith, a.elements, a.room);
      stack_room = omega (arith, few_nodes s);
    } in
    record {
      standing = record { ready = ready_within r (omega arith) (omega arith); kept = omega (arith, a.types) };
      within = rw e (within_all s 0 (some_node s));
      spent = left_none 1 a.wf a.fit h;
      returns = unknown;
      answer = rw (block_down bs 64 0 (omega arith), ← e, a.module_frame);
    }

module _ {bs : List ℕ} {setting : Setting} {nodes : ℕ} {t u : Tab} {gs : Rows} {high : ℕ} {su : List ℕ} {j left : ℕ} (l : Running bs setting nodes t u gs high su j left) (p : 0 < left) where
  running_child : (j < stop_of (nodes_of bs) j) × (stop_of (nodes_of bs) j ≤ stop_of (nodes_of bs) 0) × (j < node_count bs) × Within bs 0 (stop_of (nodes_of bs) j) (left - 1)
  running_child = within_child l.standing.ready.sound l.within p

  pub running_here : j < node_count bs
  running_here = running_child.2

  pub running_at : At bs j 63
  running_at = within_at l.standing.ready.sound l.within (deep_root l.standing.ready.sound) p

  pub running_standing : Standing bs nodes gs high u su 0 j (stop_of (nodes_of bs) j)
  running_standing = record { ready = ready_within l.standing.ready (omega arith) (omega (arith, running_child.1, root_stop l.standing.ready.sound)); kept = l.standing.kept }

  running_answer : walked setting bs
      ≡ (walked_at bs setting false 63 j (state_of u gs high 0) >>= λ s. program (names_of bs) setting (stmts_from (nodes_of bs) (λ k. stmt_at (nodes_of bs) 63 k) (left - 1) (stop_of (nodes_of bs) j)) s)
  unfolding program walked_at
  running_answer = l.answer ∙ rw (stmts_down (nodes_of bs) (λ k. stmt_at (nodes_of bs) 63 k) left j p, unknown_number l.standing.ready.wf)

  module _ {v : Tab} {hs : Rows} {peak had : ℕ} {sv : List ℕ} {code : ℕ} {place : Places} {a b : ℕ}
      (c : Done (names_of bs) (walked_at bs setting false 63 j (state_of u gs high 0)) u v hs high peak had sv j (stop_of (nodes_of bs) j) (node_count bs) code place a b) where
    pub running_out : (code ≡ 0 → ⊥) → Ran bs setting t v hs peak code place a b
    unfolding ◌>>=◌
    running_out z = record {
      returns = denote v had;
      stack = sv;
      says = elim (ℕ_discrete code 9) [
        | yes y ↦ running_answer ∙ rw (was_deep c y) (sym (ended_deep (names_of bs) v hs peak (denote v had) code place a b y))
        | no y ↦ running_answer ∙ rw (was_wrong c z y) (sym (ended_wrong (names_of bs) v hs peak (denote v had) code place a b z y))
      ];
      named = c.named;
      left = λ n. left_wider (left_then l.spent (c.fine n).left) (omega arith) (omega (arith, running_child.1, root_stop l.standing.ready.sound));
      deep = λ y. deep_wider (deep_then l.spent (c.deep y)) (omega arith) (omega (arith, running_child.1, root_stop l.standing.ready.sound));
    }

    pub running_next : {e rest : ℕ} → e ≡ stop_of (nodes_of bs) j → rest ≡ left - 1 → code ≡ 0 → Running bs setting nodes t v hs peak sv e rest
    unfolding ◌>>=◌
    running_next z r o =
        let f = c.fine (λ x. omega arith) in
        let k = running_child in
        rw (z, r) (record {
          standing = record { ready = ready_next l.standing.ready f.left (omega arith); kept = omega (arith, f.left.grown.wf.base) };
          within = k.3;
          spent = left_then l.spent f.left;
          returns = denote v had;
          answer = running_answer ∙ rw (was_done c o);
        })

pub running_end : {bs : List ℕ} {setting : Setting} {nodes : ℕ} {t u : Tab} {gs : Rows} {high : ℕ} {su : List ℕ} {j left : ℕ} {place : Places} {a b : ℕ}
    → Running bs setting nodes t u gs high su j left → left ≤ 0 → Ran bs setting t u gs high 0 place a b
unfolding program stmts_from
running_end {bs} {setting} {nodes} {t} {u} {gs} {high} {su} {j} {left} {place} {a} {b} l z =
    let o : left ≡ 0 = omega arith in
    let s = l.standing.ready.sound in
    record {
      returns = l.returns;
      stack = su;
      says = (rw o at l.answer) ∙ sym (ended_well (names_of bs) u gs high l.returns 0 place a b refl);
      named = λ _. named_well;
      left = λ _. left_wider l.spent (omega arith) (omega (arith, within_le s l.within, root_stop s));
      deep = λ x. absurd (omega arith);
    }

-- ---- eight rows of absent names: the module's frame is empty

pub fresh_fit : (t : Tab) → Fit t (replicate 8 absent_row) 0
fresh_fit t = record {
  long = length-replicate 8 absent_row;
  wide = λ i h. ap length (get_or-replicate 8 i absent_row [] h) ∙ length-replicate {A = ℕ} 128 65536;
  high = omega arith;
  known = λ i x h. rw (get_or-replicate 8 i absent_row [] h) (omega (arith, absent_cells 128 x));
}

pub fresh_frames : (t : Tab) → frames_of t (replicate 8 absent_row) 0 ≡ empty ∷ []
unfolding frames_of below frame_of empty
fresh_frames t = ap (λ f. f ∷ []) (map_replicate t 128)
