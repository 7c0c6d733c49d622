-- The loop of `list`.
use mathlib.Core.Path.{◌≡◌, refl, sym, ap, ◌∙◌}
use Rattle.std.specs.Prelude.{Option, Some, None}
use mathlib.Core.List.{List, ◌∷◌}
use Prim.Native.Nat.{ℕ, ◌-◌, ◌≤◌, ◌<◌}
use native.Mathlib.Omega.{arith}
use Rattle.meaning.specs.Types.{Ty, unknown, list}
use Rattle.meaning.specs.Image.{Node, nodes_of, names_of, nodes_from}
use Rattle.meaning.specs.Decode.{expr_at, stop_of, past}
use Rattle.meaning.specs.Operators.{Checked, ok, ◌>>=◌}
use Rattle.meaning.specs.Rules.{check, list_rule}
use Rattle.types.specs.Table.{Tab, denote, Made}
use Rattle.types.proofs.Laws.{unknown_number}
use Rattle.frames.specs.Env.{Rows, frames_of}
use Rattle.rules.specs.Leaves.{ListStep, list_after, Asks}
use Rattle.state.specs.Giving.{Told}
use Rattle.expr.specs.Contract.{Ready, Row, Done, checks}
use Rattle.expr.proofs.Rows.{Opened}
use Rattle.expr.proofs.Calling.{children_before, children_row}
use Rattle.expr.proofs.Leaving.{ready_moved, fine_up}
use Rattle.expr.proofs.Telling.{told_as, told_ill, checks_none, checks_down, done_bind, done_made, done_as}
use Rattle.expr.proofs.Looping.{Loop, loop_first, loop_fine, loop_stop, loop_next, loop_asks, past_one, one_fine, bind_ok}

-- `element` is the element type so far
pub record Listing (bs : List ℕ) (nodes : ℕ) (fs : Rows) (top : ℕ) (t : Tab) (st : List ℕ) (sp from n d : ℕ) (u : Tab) (su : List ℕ) (i left element : ℕ) : Type 0 where
  pub loop : Loop bs nodes fs top t st sp from n d (list_rule unknown (checks bs (frames_of t fs top) d n from))
      (list_rule (denote u element) (checks bs (frames_of t fs top) d left i)) u su i left
  pub known : element < u.n

listing_first : {bs : List ℕ} {nodes : ℕ} {fs : Rows} {top : ℕ} {t : Tab} {st : List ℕ} {sp from n d j left : ℕ} → j < from
    → Ready bs nodes fs top t st sp j (past (nodes_of bs) n from) → Row bs from n d → left ≡ n → Listing bs nodes fs top t st sp from n d t st from left 0
listing_first {bs} {fs = fs} {top} {t} {from = from} {n} {d} h r w e = rw e record {
  loop = loop_first (ap (λ a. list_rule a (checks bs (frames_of t fs top) d n from)) (sym (unknown_number r.wf))) h r w;
  known = omega (arith, r.wf.base);
}

-- the node was read, and the cursor stands at its first child
pub listing_opened : {bs : List ℕ} {nodes next : ℕ} {fs : Rows} {top : ℕ} {t : Tab} {st : List ℕ} {sp i d from n left : ℕ} {node : Node}
    → Ready bs nodes fs top t st sp i (stop_of (nodes_of bs) i) → Opened bs i d node 26 from → next ≡ nodes_from bs → n ≡ node.children → left ≡ n
    → Listing bs next fs top t st sp from n d t st from left 0
listing_opened {i = i} r o e m l =
    listing_first {j = i} (omega (arith, o.first)) (ready_moved e (children_before r o.inner o.first m)) (children_row r o.inner o.first m) l

module _ {bs : List ℕ} {nodes : ℕ} {fs : Rows} {top : ℕ} {t : Tab} {st : List ℕ} {sp from n d : ℕ} {u : Tab} {su : List ℕ} {i left element : ℕ}
    (l : Listing bs nodes fs top t st sp from n d u su i left element) (h : 0 < left) where
  module _ {v : Tab} {sv : List ℕ} {M code place number a b : ℕ}
      (w : Done (names_of bs) (check (names_of bs) (frames_of u fs top) (expr_at (nodes_of bs) d i)) u v su sv sp i (stop_of (nodes_of bs) i) M code place number a b) where
    -- what the rule does with the type of the next element
    step : Ty → Checked
    step ty = list_rule (denote u element) ((i, ok ty) ∷ checks bs (frames_of t fs top) d (left - 1) (stop_of (nodes_of bs) i))

    here : list_rule unknown (checks bs (frames_of t fs top) d n from) ≡ (check (names_of bs) (frames_of u fs top) (expr_at (nodes_of bs) d i) >>= step)
    unfolding step list_rule
    here = l.loop.answer ∙ rw (checks_down bs (frames_of t fs top) d left i h, l.loop.same) (bind_ok _ _)

    told : Told (names_of bs) (list_rule unknown (checks bs (frames_of t fs top) d n from)) (step (denote v number)) v M code place a b
    told = told_as here (done_bind w step)

    pub listing_refused : (code ≡ 0 → ⊥)
        → Done (names_of bs) (list_rule unknown (checks bs (frames_of t fs top) d n from)) t v st sv sp (from - 1) (past (nodes_of bs) n from) M code place number a b
    listing_refused z = record {
      told = told_ill _ z told;
      below = λ e. absurd (z e);
      fine = fine_up (from - 1) (omega (arith, l.loop.start)) (loop_stop l.loop 1 h (one_fine bs w.fine));
    }

    turned : {next : Option ℕ} → code ≡ 0 → ListStep element number next
        → list_rule unknown (checks bs (frames_of t fs top) d n from)
        ≡ list_after v next (checks bs (frames_of t fs top) d (left - 1) (stop_of (nodes_of bs) i))
    unfolding step
    turned z s =
        told.well z
        ∙ ap (λ a. list_rule a ((i, ok (denote v number)) ∷ checks bs (frames_of t fs top) d (left - 1) (stop_of (nodes_of bs) i))) (sym (w.fine.grown.same element l.known))
        ∙ s.says v _ _ w.fine.grown.wf (omega (arith, l.known, w.fine.grown.more)) (w.below z) refl

    -- a List that ends here is one of Unknown
    pub listing_asks : Asks v 0
    listing_asks = loop_asks l.loop (loop_stop l.loop 1 h (one_fine bs w.fine)) (omega (arith, w.fine.grown.wf.base))

    pub listing_stop : {next : Option ℕ} {r : ℕ} {x : Tab} {place' a' b' : ℕ} {code' : ℕ} → code ≡ 0 → ListStep element number next → next ≡ None
        → code' ≡ 0 → Made v x r (list (denote v 0)) 0
        → Done (names_of bs) (list_rule unknown (checks bs (frames_of t fs top) d n from)) t x st sv sp (from - 1) (past (nodes_of bs) n from) M code' place' r a' b'
    listing_stop z s e c m =
        done_as (turned z s ∙ rw (e, unknown_number w.fine.grown.wf)) (done_made (from - 1) (omega (arith, l.loop.start)) (loop_stop l.loop 1 h (one_fine bs w.fine)) c m)

    pub listing_next : {next : Option ℕ} {joined j fewer : ℕ} → code ≡ 0 → ListStep element number next → next ≡ Some joined → j ≡ stop_of (nodes_of bs) i
        → fewer ≡ left - 1 → Listing bs nodes fs top t st sp from n d v sv j fewer joined
    listing_next {joined = joined} z s e p f = record {
      loop = rw (p, f) (loop_next l.loop 1 h (one_fine bs w.fine) (stop_of (nodes_of bs) i) (sym (past_one bs i)) (turned z s ∙ rw e));
      known = s.below v (w.below z) joined e;
    }

pub listing_end : {bs : List ℕ} {nodes : ℕ} {fs : Rows} {top : ℕ} {t : Tab} {st : List ℕ} {sp from n d : ℕ} {u : Tab} {su : List ℕ} {i left element : ℕ}
    {x : Tab} {M r code place a b : ℕ} → Listing bs nodes fs top t st sp from n d u su i left element → left ≤ 0 → code ≡ 0 → Made u x r (list (denote u element)) 0
    → Done (names_of bs) (list_rule unknown (checks bs (frames_of t fs top) d n from)) t x st su sp (from - 1) (past (nodes_of bs) n from) M code place r a b
unfolding list_rule
listing_end {bs} {fs = fs} {top} {t} {d = d} {i = i} {left} l h c m =
    let e : left ≡ 0 = omega arith in
    done_as (l.loop.answer ∙ rw (e, checks_none bs (frames_of t fs top) d i)) (done_made _ (omega (arith, l.loop.start)) (loop_fine l.loop) c m)

pub listing_last : {bs : List ℕ} {nodes : ℕ} {fs : Rows} {top : ℕ} {t : Tab} {st : List ℕ} {sp from n d : ℕ} {u : Tab} {su : List ℕ} {i left element : ℕ}
    → Listing bs nodes fs top t st sp from n d u su i left element → Asks u element
listing_last l = loop_asks l.loop (loop_fine l.loop) l.known
