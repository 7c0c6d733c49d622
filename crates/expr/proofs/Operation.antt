-- A Binary: its two operands, one after the other.
use mathlib.Core.Path.{◌≡◌, sym, ap, ◌∙◌}
use mathlib.Core.List.{List}
use Prim.Native.Nat.{ℕ, ◌+◌, ◌-◌, ◌<◌}
use native.Mathlib.Omega.{arith}
use lib.ListN.{length}
use Rattle.meaning.specs.Image.{Node, node_count, nodes_of, node_of, names_of}
use Rattle.meaning.specs.Decode.{expr_at, form_at, stop_of, past, binary_of}
use Rattle.meaning.specs.Operators.{Checked, binary_rule, ◌>>=◌}
use Rattle.meaning.specs.Rules.{check, check_form}
use Rattle.meaning.proofs.Nesting.{sound_nested, nodes_many}
use Rattle.types.specs.Table.{Tab, denote}
use Rattle.frames.specs.Env.{Rows, frames_of}
use Rattle.state.specs.Giving.{Told}
use Rattle.nodes.specs.Operands.{Operable, Ruled}
use Rattle.nodes.proofs.Operating.{binary_node, binary_form}
use Rattle.expr.specs.Contract.{Ready, At, Fine, Done}
use Rattle.expr.proofs.Rows.{Opened, row_of, row_at, row_next, row_ends, ends_after, few}
use Rattle.expr.proofs.Leaving.{fine_then, fine_wider, fine_up, fine_node, ready_narrow, ready_then, same_frames}
use Rattle.expr.proofs.Telling.{told_as, told_ill, done_bind}
use Rattle.expr.proofs.Calling.{own_place}

module _ {bs : List ℕ} {nodes : ℕ} {fs : Rows} {top : ℕ} {t : Tab} {st : List ℕ} {sp i d left : ℕ} {node : Node}
    (r : Ready bs nodes fs top t st sp i (stop_of (nodes_of bs) i)) (o : Opened bs i d node 23 left) where
  inside : i < length (nodes_of bs)
  inside = rw (nodes_many bs) o.inner.there

  kind : (node_of (nodes_of bs) i).kind ≡ 23
  kind = rw o.inner.read at o.kind

  two : node.children ≡ 2
  two = rw o.inner.read (binary_node (sound_nested r.sound) i inside kind).1

  operator : node.arg < 14
  operator = rw o.inner.read (binary_node (sound_nested r.sound) i inside kind).0

  pub operand_at : At bs left d
  operand_at = rw o.first (row_at r.sound node.children (omega (arith, two)) (row_of r.sound o.inner))

  -- the second operand, and the end
  second_at : At bs (stop_of (nodes_of bs) left) d
  second_at =
      rw o.first (row_at r.sound (node.children - 1) (omega (arith, two)) (row_next r.sound node.children (omega (arith, two)) (row_of r.sound o.inner)))

  last : stop_of (nodes_of bs) (stop_of (nodes_of bs) left) ≡ stop_of (nodes_of bs) i
  unfolding past
  last = rw o.first (rw two at (row_ends r.sound o.inner))

  pub binary_ready : Ready bs nodes fs top t st sp left (stop_of (nodes_of bs) left)
  binary_ready =
      ready_narrow left _ (omega arith) (omega (arith, last, ends_after r.sound second_at.there)) r

  next : Checked
  next = check (names_of bs) (frames_of t fs top) (expr_at (nodes_of bs) d (stop_of (nodes_of bs) left))

  whole : check_form (names_of bs) (frames_of t fs top) i (form_at (nodes_of bs) (λ j. expr_at (nodes_of bs) d j) i)
      ≡ (check (names_of bs) (frames_of t fs top) (expr_at (nodes_of bs) d left) >>= λ a. next >>= λ b. binary_rule i (binary_of node.arg) a b)
  unfolding next
  whole =
      rw (o.first, o.inner.read)
      (binary_form (sound_nested r.sound) (names_of bs) (frames_of t fs top) (λ j. expr_at (nodes_of bs) d j) (own_place (nodes_of bs) d) i inside kind)

  module _ {v : Tab} {sv : List ℕ} {code place' number a b : ℕ}
      (w : Done (names_of bs) (check (names_of bs) (frames_of t fs top) (expr_at (nodes_of bs) d left)) t v st sv sp left (stop_of (nodes_of bs) left) (node_count bs) code place' number a b) where
    told₁ : Told (names_of bs) (check_form (names_of bs) (frames_of t fs top) i (form_at (nodes_of bs) (λ j. expr_at (nodes_of bs) d j) i))
        (next >>= λ b. binary_rule i (binary_of node.arg) (denote v number) b) v (node_count bs) code place' a b
    told₁ = told_as whole (done_bind w (λ a. next >>= λ b. binary_rule i (binary_of node.arg) a b))

    pub binary_refused : (code ≡ 0 → ⊥)
        → Done (names_of bs) (check_form (names_of bs) (frames_of t fs top) i (form_at (nodes_of bs) (λ j. expr_at (nodes_of bs) d j) i)) t v st sv sp i
        (stop_of (nodes_of bs) i) (node_count bs) code place' number a b
    binary_refused z = record {
      told = told_ill _ z told₁;
      below = λ y. absurd (z y);
      fine = fine_up i (omega arith) (fine_wider (stop_of (nodes_of bs) i) 1 (omega (arith, last, ends_after r.sound second_at.there)) w.fine);
    }

    module _ {right : ℕ} (f : right ≡ stop_of (nodes_of bs) left) where
      pub operand_at_2 : At bs right d
      operand_at_2 = rw f second_at

      pub binary_ready_2 : Ready bs nodes fs top v sv sp right (stop_of (nodes_of bs) right)
      binary_ready_2 =
          rw f
          (ready_narrow {e = stop_of (nodes_of bs) i} (stop_of (nodes_of bs) left) _ (omega arith) (omega (arith, last))
          (ready_then (ready_narrow left (stop_of (nodes_of bs) i) (omega arith) (omega arith) r) w.fine (omega (arith, ends_after r.sound operand_at.there))))

      module _ {x : Tab} {sx : List ℕ} {code₂ place₂ number₂ a₂ b₂ : ℕ} (z : code ≡ 0)
          (w₂ : Done (names_of bs) (check (names_of bs) (frames_of v fs top) (expr_at (nodes_of bs) d right)) v x sv sx sp right (stop_of (nodes_of bs) right) (node_count bs) code₂ place₂ number₂ a₂ b₂) where
        told₂ : Told (names_of bs) (check_form (names_of bs) (frames_of t fs top) i (form_at (nodes_of bs) (λ j. expr_at (nodes_of bs) d j) i))
            (binary_rule i (binary_of node.arg) (denote v number) (denote x number₂)) x (node_count bs) code₂ place₂ a₂ b₂
        unfolding next
        told₂ =
            told_as (told₁.well z ∙ rw (← f, same_frames r w.fine.grown)) (done_bind w₂ (λ b. binary_rule i (binary_of node.arg) (denote v number) b))

        fine₂ : Fine t x st sx sp left (stop_of (nodes_of bs) i) (1 + 1)
        fine₂ = rw (← last) (fine_then w.fine (rw f at w₂.fine) (omega arith))

        pub binary_refused_2 : (code₂ ≡ 0 → ⊥)
            → Done (names_of bs) (check_form (names_of bs) (frames_of t fs top) i (form_at (nodes_of bs) (λ j. expr_at (nodes_of bs) d j) i)) t x st sx sp i
            (stop_of (nodes_of bs) i) (node_count bs) code₂ place₂ number₂ a₂ b₂
        binary_refused_2 y = record {
          told = told_ill _ y told₂;
          below = λ q. absurd (y q);
          fine = fine_up i (omega arith) fine₂;
        }

        pub binary_operable : code₂ ≡ 0 → Operable x number number₂ i node.arg
        binary_operable y = record {
          wf = w₂.fine.grown.wf;
          first = omega (arith, w.below z, w₂.fine.grown.more);
          second = w₂.below y;
          node = few r.sound o.inner.there;
          operator = operator;
        }

        pub binary_done : {m : Tab} {code₃ place₃ number₃ a₃ b₃ : ℕ} → code₂ ≡ 0
            → Ruled x m (binary_rule i (binary_of node.arg) (denote x number) (denote x number₂)) i code₃ place₃ number₃ a₃ b₃
            → Done (names_of bs) (check_form (names_of bs) (frames_of t fs top) i (form_at (nodes_of bs) (λ j. expr_at (nodes_of bs) d j) i)) t m st sx sp i
            (stop_of (nodes_of bs) i) (node_count bs) code₃ place₃ number₃ a₃ b₃
        binary_done y q =
            let g = q.says (names_of bs) (node_count bs) o.inner.there in
            record {
              told = told_as (told₂.well y ∙ ap (λ a. binary_rule i (binary_of node.arg) a (denote x number₂)) (sym (w₂.fine.grown.same number (w.below z)))) g.told;
              below = g.below;
              fine = fine_node {k = 0} i (omega arith) (omega arith) fine₂ g.grown g.room g.space;
            }
