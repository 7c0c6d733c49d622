-- The loop of `range`.
use mathlib.Core.Path.{◌≡◌, refl, sym, ◌∙◌}
use mathlib.Core.List.{List}
use Prim.Native.Nat.{ℕ, ◌-◌, ◌≤◌, ◌<◌}
use native.Mathlib.Omega.{arith}
use Rattle.meaning.specs.Types.{plain}
use Rattle.meaning.specs.Image.{node_count, nodes_of, names_of}
use Rattle.meaning.specs.Decode.{expr_at, stop_of, past}
use Rattle.meaning.specs.Operators.{Checked, ◌>>=◌}
use Rattle.meaning.specs.Rules.{check, range_rule}
use Rattle.types.specs.Table.{Tab, denote}
use Rattle.types.proofs.Laws.{plain_number}
use Rattle.frames.specs.Env.{Rows, frames_of}
use Rattle.rules.specs.Leaves.{bound_rule}
use Rattle.rules.proofs.Calls.{range_next}
use Rattle.state.specs.Giving.{Told, Given}
use Rattle.nodes.specs.Operands.{Judges, Ruled}
use Rattle.expr.specs.Contract.{Ready, Row, Fine, Done, checks}
use Rattle.expr.proofs.Rows.{few}
use Rattle.expr.proofs.Leaving.{fine_up, fine_node}
use Rattle.expr.proofs.Telling.{told_as, told_bind, told_ill, told_well, checks_none, checks_down, done_bind}
use Rattle.expr.proofs.Looping.{Loop, loop_first, loop_fine, loop_stop, loop_next, past_one, one_fine}

-- one more bound, or none
pub record Bounding (bs : List ℕ) (nodes : ℕ) (fs : Rows) (top : ℕ) (t : Tab) (st : List ℕ) (sp at from n d : ℕ) (u : Tab) (su : List ℕ) (i left : ℕ) : Type 0 where
  pub loop : Loop bs nodes fs top t st sp from n d (range_rule at (checks bs (frames_of t fs top) d n from))
      (range_rule at (checks bs (frames_of t fs top) d left i)) u su i left

pub bounding_first : {bs : List ℕ} {nodes : ℕ} {fs : Rows} {top : ℕ} {t : Tab} {st : List ℕ} {sp at from n d j left : ℕ} → j < from
    → Ready bs nodes fs top t st sp j (past (nodes_of bs) n from) → Row bs from n d → left ≡ n → Bounding bs nodes fs top t st sp at from n d t st from left
bounding_first h r w e = rw e record { loop = loop_first refl h r w }

module _ {bs : List ℕ} {nodes : ℕ} {fs : Rows} {top : ℕ} {t : Tab} {st : List ℕ} {sp at from n d : ℕ} {u : Tab} {su : List ℕ} {i left : ℕ}
    (l : Bounding bs nodes fs top t st sp at from n d u su i left) (h : 0 < left) where
  module _ {v : Tab} {sv : List ℕ} {code place number a b : ℕ}
      (w : Done (names_of bs) (check (names_of bs) (frames_of u fs top) (expr_at (nodes_of bs) d i)) u v su sv sp i (stop_of (nodes_of bs) i) (node_count bs) code place number a b) where
    rest : Checked
    rest = range_rule at (checks bs (frames_of t fs top) d (left - 1) (stop_of (nodes_of bs) i))

    here : range_rule at (checks bs (frames_of t fs top) d n from)
        ≡ (check (names_of bs) (frames_of u fs top) (expr_at (nodes_of bs) d i) >>= λ ty. bound_rule at ty >>= λ x. rest)
    unfolding rest
    here =
        l.loop.answer
        ∙ rw (checks_down bs (frames_of t fs top) d left i h, l.loop.same) (range_next at (checks bs (frames_of t fs top) d (left - 1) (stop_of (nodes_of bs) i)) _)

    told : Told (names_of bs) (range_rule at (checks bs (frames_of t fs top) d n from)) (bound_rule at (denote v number) >>= λ x. rest) v (node_count bs) code place a b
    told = told_as here (done_bind w (λ ty. bound_rule at ty >>= λ x. rest))

    stopped : Fine t v st sv sp from (past (nodes_of bs) n from) n
    stopped = loop_stop l.loop 1 h (one_fine bs w.fine)

    pub bounding_refused : (code ≡ 0 → ⊥)
        → Done (names_of bs) (range_rule at (checks bs (frames_of t fs top) d n from)) t v st sv sp (from - 1) (past (nodes_of bs) n from) (node_count bs) code place number a b
    bounding_refused z = record {
      told = told_ill _ z told;
      below = λ e. absurd (z e);
      fine = fine_up (from - 1) (omega (arith, l.loop.start)) stopped;
    }

    -- its type is judged at the call's node
    pub bounding_judges : code ≡ 0 → at < node_count bs → Judges v number at
    bounding_judges z k = record { wf = w.fine.grown.wf; below = w.below z; node = few l.loop.ready.sound k }

    module _ {x : Tab} {code' place' number' a' b' : ℕ} (z : code ≡ 0) (k : at < node_count bs)
        (o : Ruled v x (bound_rule at (denote v number)) at code' place' number' a' b') where
      judged : Given (names_of bs) (bound_rule at (denote v number)) v x 0 (node_count bs) code' place' number' a' b'
      judged = o.says (names_of bs) (node_count bs) k

      -- a wrong one ends it
      pub bounding_wrong : (code' ≡ 0 → ⊥)
          → Done (names_of bs) (range_rule at (checks bs (frames_of t fs top) d n from)) t x st sv sp (from - 1) (past (nodes_of bs) n from) (node_count bs) code' place' number' a' b'
      bounding_wrong q = record {
        told = told_as (told.well z) (told_bind _ _ q judged.told);
        below = λ e. absurd (q e);
        fine = fine_node {k = 0} (from - 1) (omega (arith, l.loop.start)) (omega arith) stopped judged.grown judged.room judged.space;
      }

      pub bounding_next : {j fewer : ℕ} → code' ≡ 0 → x ≡ v → j ≡ stop_of (nodes_of bs) i → fewer ≡ left - 1
          → Bounding bs nodes fs top t st sp at from n d x sv j fewer
      unfolding ◌>>=◌ rest
      bounding_next {j} q e p f = record {
        loop =
            rw (e, p, f) (loop_next l.loop 1 h (one_fine bs w.fine) (stop_of (nodes_of bs) i) (sym (past_one bs i))
            (told.well z ∙ rw (judged.told.well q)));
      }

pub bounding_end : {bs : List ℕ} {nodes : ℕ} {fs : Rows} {top : ℕ} {t : Tab} {st : List ℕ} {sp at from n d : ℕ} {u : Tab} {su : List ℕ} {i left : ℕ}
    {M number code place a b : ℕ} → Bounding bs nodes fs top t st sp at from n d u su i left → left ≤ 0 → code ≡ 0 → number ≡ 6
    → Done (names_of bs) (range_rule at (checks bs (frames_of t fs top) d n from)) t u st su sp (from - 1) (past (nodes_of bs) n from) M code place number a b
unfolding range_rule plain
bounding_end {bs} {fs = fs} {top} {t} {d = d} {u = u} {i = i} {left} l h c e =
    let z : left ≡ 0 = omega arith in
    let f = loop_fine l.loop in
    record {
      told = told_well c (l.loop.answer ∙ rw (z, checks_none bs (frames_of t fs top) d i, e, plain_number f.grown.wf 6 (omega arith)));
      below = λ w. omega (arith, f.grown.wf.base);
      fine = fine_up _ (omega (arith, l.loop.start)) f;
    }
