-- The loop of `dict`.
use mathlib.Core.Path.{◌≡◌, refl, sym, ap, ◌∙◌}
use Rattle.std.specs.Prelude.{Option, Some, None}
use mathlib.Core.List.{List, ◌∷◌}
use Prim.Native.Nat.{ℕ, zero, suc, ◌-◌, ◌≤◌, ◌<◌}
use native.Mathlib.Omega.{arith}
use Rattle.meaning.specs.Types.{Ty, unknown, dict}
use Rattle.meaning.specs.Image.{Node, nodes_of, names_of, nodes_from}
use Rattle.meaning.specs.Decode.{expr_at, stop_of, past}
use Rattle.meaning.specs.Frames.{Frames}
use Rattle.meaning.specs.Operators.{Checked, ok, refused, ◌>>=◌}
use Rattle.meaning.specs.Rules.{check, dict_rule}
use Rattle.types.specs.Table.{Tab, Wf, denote, Made}
use Rattle.types.proofs.Laws.{unknown_number}
use Rattle.frames.specs.Env.{Rows, frames_of}
use Rattle.rules.specs.declared.Pair.{Pair}
use Rattle.rules.specs.Leaves.{DictStep, dict_after, Asks}
use Rattle.state.specs.Giving.{Told}
use Rattle.expr.specs.Contract.{Ready, At, Row, Fine, Done, checks}
use Rattle.expr.proofs.Rows.{Opened}
use Rattle.expr.proofs.Calling.{children_before, children_row}
use Rattle.expr.proofs.Leaving.{ready_moved, fine_then, fine_up, same_frames}
use Rattle.expr.proofs.Telling.{told_as, told_ill, checks_none, checks_suc, checks_down, done_bind, done_made, done_as}
use Rattle.expr.proofs.Looping.{Loop, loop_first, loop_fine, loop_stop, loop_next, loop_asks, loop_at, loop_child, past_one, past_two, one_fine}

-- p has the key and the value type so far
pub record Pairing (bs : List ℕ) (nodes : ℕ) (fs : Rows) (top : ℕ) (t : Tab) (st : List ℕ) (sp from n d : ℕ) (u : Tab) (su : List ℕ) (i left : ℕ) (p : Pair) : Type 0 where
  pub loop : Loop bs nodes fs top t st sp from n d (dict_rule unknown unknown (checks bs (frames_of t fs top) d n from))
      (dict_rule (denote u p.key) (denote u p.value) (checks bs (frames_of t fs top) d left i)) u su i left
  pub key_known : p.key < u.n
  pub value_known : p.value < u.n

pairing_first : {bs : List ℕ} {nodes : ℕ} {fs : Rows} {top : ℕ} {t : Tab} {st : List ℕ} {sp from n d j left : ℕ} → j < from
    → Ready bs nodes fs top t st sp j (past (nodes_of bs) n from) → Row bs from n d → left ≡ n
    → Pairing bs nodes fs top t st sp from n d t st from left record { key = 0; value = 0 }
pairing_first {bs} {fs = fs} {top} {t} {from = from} {n} {d} h r w e = rw e record {
  loop = loop_first (ap (λ a. dict_rule a a (checks bs (frames_of t fs top) d n from)) (sym (unknown_number r.wf))) h r w;
  key_known = omega (arith, r.wf.base);
  value_known = omega (arith, r.wf.base);
}

-- the node was read, and the cursor stands at its first child
pub pairing_opened : {bs : List ℕ} {nodes next : ℕ} {fs : Rows} {top : ℕ} {t : Tab} {st : List ℕ} {sp i d from n left : ℕ} {node : Node}
    → Ready bs nodes fs top t st sp i (stop_of (nodes_of bs) i) → Opened bs i d node 27 from → next ≡ nodes_from bs → n ≡ node.children → left ≡ n
    → Pairing bs next fs top t st sp from n d t st from left record { key = 0; value = 0 }
pairing_opened {i = i} r o e m l =
    pairing_first {j = i} (omega (arith, o.first)) (ready_moved e (children_before r o.inner o.first m)) (children_row r o.inner o.first m) l

module _ {bs : List ℕ} {nodes : ℕ} {fs : Rows} {top : ℕ} {t : Tab} {st : List ℕ} {sp from n d : ℕ} {u : Tab} {su : List ℕ} {i left : ℕ} {p : Pair}
    (l : Pairing bs nodes fs top t st sp from n d u su i left p) (h : 1 < left) where
  rest : List (ℕ × Checked)
  rest = checks bs (frames_of t fs top) d (left - 2) (past (nodes_of bs) 2 i)

  -- what the rule does with the types of the next pair
  both : Ty → Ty → Checked
  both x y = dict_rule (denote u p.key) (denote u p.value) ((i, ok x) ∷ (stop_of (nodes_of bs) i, ok y) ∷ rest)

  bind_two : (c e : Checked) (k : Ty → Ty → Checked)
      → (c >>= λ x. e >>= λ y. k x y) ≡ (c >>= λ x. e >>= λ y. ok x >>= λ z. ok y >>= λ o. k z o)
  unfolding ◌>>=◌
  bind_two (ok x) (ok y) k = refl
  bind_two (ok x) (refused r) k = refl
  bind_two (refused r) e k = refl

  two_down : checks bs (frames_of t fs top) d left i
      ≡ (i, check (names_of bs) (frames_of t fs top) (expr_at (nodes_of bs) d i))
      ∷ (stop_of (nodes_of bs) i, check (names_of bs) (frames_of t fs top) (expr_at (nodes_of bs) d (stop_of (nodes_of bs) i)))
      ∷ rest
  unfolding rest
  two_down =
      let e : left - 1 - 1 ≡ left - 2 = omega arith in
      rw (past_two bs i, ← e, checks_down bs (frames_of t fs top) d left i (omega arith), checks_down bs (frames_of t fs top) d (left - 1) (stop_of (nodes_of bs) i) (omega arith))

  here : dict_rule unknown unknown (checks bs (frames_of t fs top) d n from)
      ≡ (check (names_of bs) (frames_of u fs top) (expr_at (nodes_of bs) d i) >>= λ x.
      check (names_of bs) (frames_of u fs top) (expr_at (nodes_of bs) d (stop_of (nodes_of bs) i)) >>= λ y. both x y)
  unfolding both dict_rule
  here = l.loop.answer ∙ rw (two_down, l.loop.same) (bind_two _ _ _)

  whole : Checked
  whole = dict_rule unknown unknown (checks bs (frames_of t fs top) d n from)

  pub pairing_child : Ready bs nodes fs top u su sp i (stop_of (nodes_of bs) i)
  pairing_child = loop_child l.loop (omega arith)

  pub pairing_at : At bs i d
  pairing_at = loop_at l.loop (omega arith)

  -- after the key
  module _ {v : Tab} {sv : List ℕ} {M code place number a b : ℕ}
      (w : Done (names_of bs) (check (names_of bs) (frames_of u fs top) (expr_at (nodes_of bs) d i)) u v su sv sp i (stop_of (nodes_of bs) i) M code place number a b) where
    told₁ : Told (names_of bs) (dict_rule unknown unknown (checks bs (frames_of t fs top) d n from))
        (check (names_of bs) (frames_of u fs top) (expr_at (nodes_of bs) d (stop_of (nodes_of bs) i)) >>= λ y. both (denote v number) y) v M code place a b
    told₁ =
        told_as here
        (done_bind w (λ x. check (names_of bs) (frames_of u fs top) (expr_at (nodes_of bs) d (stop_of (nodes_of bs) i)) >>= λ y. both x y))

    pub pairing_refused : (code ≡ 0 → ⊥)
        → Done (names_of bs) (dict_rule unknown unknown (checks bs (frames_of t fs top) d n from)) t v st sv sp (from - 1) (past (nodes_of bs) n from) M code place number a b
    pairing_refused z = record {
      told = told_ill _ z told₁;
      below = λ e. absurd (z e);
      fine = fine_up (from - 1) (omega (arith, l.loop.start)) (loop_stop l.loop 1 (omega arith) (one_fine bs w.fine));
    }

    module _ {j : ℕ} (s : j ≡ stop_of (nodes_of bs) i) where
      between : Loop bs nodes fs top t st sp from n d whole whole v sv j (left - 1)
      unfolding whole
      between =
          rw s
          (loop_next record {
            ready = l.loop.ready;
            row = l.loop.row;
            same = l.loop.same;
            few = l.loop.few;
            last = l.loop.last;
            fine = l.loop.fine;
            answer = refl;
            start = l.loop.start;
            spare = l.loop.spare;
          } 1 (omega arith) (one_fine bs w.fine) (stop_of (nodes_of bs) i) (sym (past_one bs i)) refl)

      pub pairing_child_2 : Ready bs nodes fs top v sv sp j (stop_of (nodes_of bs) j)
      pairing_child_2 = loop_child between (omega arith)

      pub pairing_at_2 : At bs j d
      pairing_at_2 = loop_at between (omega arith)

      -- and after the value
      module _ {x : Tab} {sx : List ℕ} {code₂ place₂ number₂ a₂ b₂ : ℕ} (z : code ≡ 0)
          (w₂ : Done (names_of bs) (check (names_of bs) (frames_of v fs top) (expr_at (nodes_of bs) d j)) v x sv sx sp j (stop_of (nodes_of bs) j) M code₂ place₂ number₂ a₂ b₂) where
        told₂ : Told (names_of bs) (dict_rule unknown unknown (checks bs (frames_of t fs top) d n from)) (both (denote v number) (denote x number₂)) x M code₂ place₂ a₂ b₂
        told₂ =
            told_as (told₁.well z ∙ rw (← s, same_frames l.loop.ready w.fine.grown)) (done_bind w₂ (λ y. both (denote v number) y))

        fine₂ : Fine u x su sx sp i (past (nodes_of bs) 2 i) 2
        unfolding past
        fine₂ = fine_then w.fine (rw s at w₂.fine) (omega arith)

        pub pairing_refused_2 : (code₂ ≡ 0 → ⊥)
            → Done (names_of bs) (dict_rule unknown unknown (checks bs (frames_of t fs top) d n from)) t x st sx sp (from - 1) (past (nodes_of bs) n from) M code₂ place₂ number₂ a₂ b₂
        pairing_refused_2 y = record {
          told = told_ill _ y told₂;
          below = λ e. absurd (y e);
          fine = fine_up (from - 1) (omega (arith, l.loop.start)) (loop_stop l.loop 2 h fine₂);
        }

        -- a Dict that ends here is one of Unknown
        stopped : Fine t x st sx sp from (past (nodes_of bs) n from) n
        stopped = loop_stop l.loop 2 h fine₂

        pub pairing_asks : Asks x 0
        pairing_asks = loop_asks l.loop stopped (omega (arith, w₂.fine.grown.wf.base))

        module _ {o : Option Pair} (y : code₂ ≡ 0) (q : DictStep p record { key = number; value = number₂ } o) where
          wf : Wf x
          wf = w₂.fine.grown.wf

          -- the key's type is known after the value too
          known : number < x.n
          known = omega (arith, w.below z, w₂.fine.grown.more)

          next : List (ℕ × Checked)
          next = (i, ok (denote v number)) ∷ (stop_of (nodes_of bs) i, ok (denote x number₂)) ∷ rest

          turned : dict_rule unknown unknown (checks bs (frames_of t fs top) d n from) ≡ dict_after x o rest
          unfolding both next
          turned =
              told₂.well y
              ∙ ap (λ e. dict_rule e (denote u p.value) next) (sym (fine₂.grown.same p.key l.key_known))
              ∙ ap (λ e. dict_rule (denote x p.key) e next) (sym (fine₂.grown.same p.value l.value_known))
              ∙ q.says x _ _ _ wf (omega (arith, l.key_known, fine₂.grown.more)) (omega (arith, l.value_known, fine₂.grown.more)) known
              (w₂.below y) (ap ok (sym (w₂.fine.grown.same number (w.below z)))) refl

          pub pairing_stop : {r : ℕ} {m : Tab} {place' a' b' code' : ℕ} → o ≡ None → code' ≡ 0 → Made x m r (dict (denote x 0) (denote x 0)) 0
              → Done (names_of bs) (dict_rule unknown unknown (checks bs (frames_of t fs top) d n from)) t m st sx sp (from - 1) (past (nodes_of bs) n from) M code' place' r a' b'
          pairing_stop e c m = done_as (turned ∙ rw (e, unknown_number wf)) (done_made (from - 1) (omega (arith, l.loop.start)) stopped c m)

          pub pairing_next : {joined : Pair} {g fewer : ℕ} → o ≡ Some joined → g ≡ stop_of (nodes_of bs) j → fewer ≡ left - 2
              → Pairing bs nodes fs top t st sp from n d x sx g fewer joined
          unfolding rest
          pairing_next {joined} {g} e f less = record {
            loop = rw (f, less, s, ← past_two bs i) (loop_next l.loop 2 h fine₂ (past (nodes_of bs) 2 i) refl (turned ∙ rw e));
            key_known = q.key_below x wf known joined e;
            value_known = q.value_below x wf (w₂.below y) joined e;
          }

-- no pair is left
at_most : (bs : List ℕ) (Γ : Frames) (d k i : ℕ) (x y : Ty) → k ≤ 1 → dict_rule x y (checks bs Γ d k i) ≡ ok (dict x y)
unfolding dict_rule
at_most bs Γ d zero i x y h = rw (checks_none bs Γ d i)
at_most bs Γ d (suc zero) i x y h = rw (checks_suc bs Γ d 0 i, checks_none bs Γ d (stop_of (nodes_of bs) i))
at_most bs Γ d (suc (suc k)) i x y h = absurd (omega arith)

pub pairing_end : {bs : List ℕ} {nodes : ℕ} {fs : Rows} {top : ℕ} {t : Tab} {st : List ℕ} {sp from n d : ℕ} {u : Tab} {su : List ℕ} {i left : ℕ} {p : Pair}
    {x : Tab} {M r code place a b : ℕ} → Pairing bs nodes fs top t st sp from n d u su i left p → left ≤ 1 → code ≡ 0
    → Made u x r (dict (denote u p.key) (denote u p.value)) 0
    → Done (names_of bs) (dict_rule unknown unknown (checks bs (frames_of t fs top) d n from)) t x st su sp (from - 1) (past (nodes_of bs) n from) M code place r a b
pairing_end {bs} {fs = fs} {top} {t} {d = d} {u = u} {i = i} {left} {p} l h c m =
    done_as (l.loop.answer ∙ at_most bs (frames_of t fs top) d left i (denote u p.key) (denote u p.value) h)
    (done_made _ (omega (arith, l.loop.start)) (loop_fine l.loop) c m)

pub pairing_last : {bs : List ℕ} {nodes : ℕ} {fs : Rows} {top : ℕ} {t : Tab} {st : List ℕ} {sp from n d : ℕ} {u : Tab} {su : List ℕ} {i left : ℕ} {p : Pair}
    → Pairing bs nodes fs top t st sp from n d u su i left p → Asks u p.key × Asks u p.value
pairing_last l = (loop_asks l.loop (loop_fine l.loop) l.key_known, loop_asks l.loop (loop_fine l.loop) l.value_known)
