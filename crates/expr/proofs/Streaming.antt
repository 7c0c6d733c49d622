-- The arguments of `map` and `filter`.
use mathlib.Core.Path.{◌≡◌, sym, ◌∙◌}
use mathlib.Core.Bool.{Bool, true, false}
use mathlib.Core.List.{List}
use Prim.Native.Nat.{ℕ, ◌+◌, ◌-◌, ◌≤◌, ◌<◌}
use native.Mathlib.Omega.{arith}
use Rattle.meaning.specs.Image.{node_count, nodes_of, names_of}
use Rattle.meaning.specs.Decode.{expr_at, stop_of, past}
use Rattle.meaning.specs.Operators.{Checked, ◌>>=◌}
use Rattle.meaning.specs.Rules.{Children, check, child}
use Rattle.meaning.proofs.Decoding.{past_down}
use Rattle.types.specs.Table.{Tab, denote}
use Rattle.frames.specs.Env.{Rows, frames_of}
use Rattle.frames.proofs.Laws.{frames_grown}
use Rattle.rules.specs.Leaves.{callable_rule, second_rule}
use Rattle.rules.specs.Outcome.{types_named}
use Rattle.rules.proofs.Calls.{map_two, filter_two, names_map, names_filter}
use Rattle.state.specs.Giving.{Told, Given}
use Rattle.nodes.specs.Operands.{Judges, Streamable, Ruled}
use Rattle.expr.specs.Contract.{Ready, At, Row, Fine, Done, checks, first_code, stream_of}
use Rattle.expr.proofs.Rows.{row_at, row_next, row_long, ends_after, few}
use Rattle.expr.proofs.Leaving.{fine_then, fine_wider, fine_node, fine_up, ready_narrow, ready_then}
use Rattle.expr.proofs.Telling.{told_as, told_bind, told_ill, checks_first, checks_second, done_bind}

two_rules : (filters : Bool) (cs : Children) → stream_of filters cs
    ≡ ((child 0 cs).1 >>= λ a. callable_rule (first_code filters) (child 0 cs).0 a >>= λ x. (child 1 cs).1 >>= λ b. second_rule filters (child 1 cs).0 b)
unfolding stream_of first_code
two_rules true cs = filter_two cs
two_rules false cs = map_two cs

-- the code names one type
pub first_names : (filters : Bool) → types_named (first_code filters) ≡ 1
unfolding first_code
first_names true = names_filter
first_names false = names_map

module _ {bs : List ℕ} {nodes : ℕ} {fs : Rows} {top : ℕ} {t : Tab} {st : List ℕ} {sp from n d : ℕ} (filters : Bool)
    (r : Ready bs nodes fs top t st sp (from - 1) (past (nodes_of bs) n from)) (w : Row bs from n d) (h : 1 < n) where
  some : 0 < from
  some = omega (arith, w.behind)

  next : Row bs (stop_of (nodes_of bs) from) (n - 1) d
  next = row_next r.sound n (omega arith) w

  pub function_at : At bs from d
  function_at = row_at r.sound n (omega arith) w

  ends : past (nodes_of bs) (n - 1) (stop_of (nodes_of bs) from) ≡ past (nodes_of bs) n from
  ends = sym (past_down (nodes_of bs) n from (omega arith))

  long : stop_of (nodes_of bs) from + (n - 1) ≤ past (nodes_of bs) n from
  long = rw ends at (row_long r.sound (n - 1) next)

  -- behind the second one
  longer : stop_of (nodes_of bs) (stop_of (nodes_of bs) from) + (n - 2) ≤ past (nodes_of bs) n from
  longer =
      let e : n - 1 - 1 ≡ n - 2 = omega arith in
      let p : past (nodes_of bs) (n - 1 - 1) (stop_of (nodes_of bs) (stop_of (nodes_of bs) from)) ≡ past (nodes_of bs) n from =
      sym (past_down (nodes_of bs) (n - 1) (stop_of (nodes_of bs) from) (omega arith)) ∙ ends in
      rw (p, e) at (row_long r.sound (n - 1 - 1) (row_next r.sound (n - 1) (omega arith) next))

  pub stream_child : Ready bs nodes fs top t st sp from (stop_of (nodes_of bs) from)
  stream_child = ready_narrow from _ (omega arith) (omega (arith, long)) r

  rest : Checked
  rest = check (names_of bs) (frames_of t fs top) (expr_at (nodes_of bs) d (stop_of (nodes_of bs) from)) >>= λ b. second_rule filters (stop_of (nodes_of bs) from) b

  whole : stream_of filters (checks bs (frames_of t fs top) d n from)
      ≡ (check (names_of bs) (frames_of t fs top) (expr_at (nodes_of bs) d from) >>= λ a. callable_rule (first_code filters) from a >>= λ x. rest)
  unfolding rest
  whole =
      two_rules filters (checks bs (frames_of t fs top) d n from)
      ∙ rw (checks_first bs (frames_of t fs top) d n from (omega arith), checks_second bs (frames_of t fs top) d n from h)

  -- after the first argument
  module _ {u : Tab} {su : List ℕ} {code place number a b : ℕ}
      (v : Done (names_of bs) (check (names_of bs) (frames_of t fs top) (expr_at (nodes_of bs) d from)) t u st su sp from (stop_of (nodes_of bs) from) (node_count bs) code place number a b) where
    told₁ : Told (names_of bs) (stream_of filters (checks bs (frames_of t fs top) d n from))
        (callable_rule (first_code filters) from (denote u number) >>= λ x. rest) u (node_count bs) code place a b
    told₁ = told_as whole (done_bind v (λ y. callable_rule (first_code filters) from y >>= λ x. rest))

    wide₁ : Fine t u st su sp from (past (nodes_of bs) n from) (1 + (n - 1))
    wide₁ = fine_wider (past (nodes_of bs) n from) (n - 1) long v.fine

    pub stream_refused : (code ≡ 0 → ⊥)
        → Done (names_of bs) (stream_of filters (checks bs (frames_of t fs top) d n from)) t u st su sp (from - 1) (past (nodes_of bs) n from) (node_count bs) code place number a b
    stream_refused z = record {
      told = told_ill _ z told₁;
      below = λ e. absurd (z e);
      fine = fine_up (from - 1) (omega (arith, some)) wide₁;
    }

    pub stream_judges : code ≡ 0 → Judges u number from
    stream_judges z = record { wf = v.fine.grown.wf; below = v.below z; node = few r.sound function_at.there }

    -- its type is judged at its own node
    module _ {x : Tab} {code' place' number' a' b' : ℕ} (z : code ≡ 0) (o : Ruled u x (callable_rule (first_code filters) from (denote u number)) from code' place' number' a' b') where
      judged : Given (names_of bs) (callable_rule (first_code filters) from (denote u number)) u x 0 (node_count bs) code' place' number' a' b'
      judged = o.says (names_of bs) (node_count bs) function_at.there

      pub stream_wrong : (code' ≡ 0 → ⊥)
          → Done (names_of bs) (stream_of filters (checks bs (frames_of t fs top) d n from)) t x st su sp (from - 1) (past (nodes_of bs) n from) (node_count bs) code' place' number' a' b'
      stream_wrong q = record {
        told = told_as (told₁.well z) (told_bind _ _ q judged.told);
        below = λ e. absurd (q e);
        fine = fine_node {k = 0} (from - 1) (omega (arith, some)) (omega arith) wide₁ judged.grown judged.room judged.space;
      }

      module _ {second : ℕ} (same : x ≡ u) (s : second ≡ stop_of (nodes_of bs) from) where
        pub stream_child_2 : Ready bs nodes fs top x su sp second (stop_of (nodes_of bs) second)
        stream_child_2 =
            rw (same, s)
            (ready_narrow {e = past (nodes_of bs) n from} (stop_of (nodes_of bs) from) _ (omega arith) (omega (arith, longer))
            (ready_then (ready_narrow from (past (nodes_of bs) n from) (omega arith) (omega arith) r) v.fine (omega (arith, ends_after r.sound function_at.there))))

        pub iterable_at : At bs second d
        iterable_at = rw s (row_at r.sound (n - 1) (omega arith) next)

        -- after the second
        module _ {v' : Tab} {sv : List ℕ} {code₂ place₂ number₂ a₂ b₂ : ℕ} (q : code' ≡ 0)
            (w₂ : Done (names_of bs) (check (names_of bs) (frames_of x fs top) (expr_at (nodes_of bs) d second)) x v' su sv sp second (stop_of (nodes_of bs) second) (node_count bs) code₂ place₂ number₂ a₂ b₂) where
          passed : stream_of filters (checks bs (frames_of t fs top) d n from)
              ≡ (check (names_of bs) (frames_of x fs top) (expr_at (nodes_of bs) d second) >>= λ y. second_rule filters second y)
          unfolding ◌>>=◌ rest
          passed = told₁.well z ∙ rw (judged.told.well q, s, same, frames_grown v.fine.grown r.fit)

          told₂ : Told (names_of bs) (stream_of filters (checks bs (frames_of t fs top) d n from)) (second_rule filters second (denote v' number₂)) v' (node_count bs) code₂ place₂ a₂ b₂
          told₂ = told_as passed (done_bind w₂ (λ y. second_rule filters second y))

          wide₂ : Fine t v' st sv sp from (past (nodes_of bs) n from) (1 + 1 + (n - 2))
          wide₂ = fine_wider (past (nodes_of bs) n from) (n - 2) longer (fine_then v.fine (rw (same, s) at w₂.fine) (omega arith))

          pub stream_refused_2 : (code₂ ≡ 0 → ⊥)
              → Done (names_of bs) (stream_of filters (checks bs (frames_of t fs top) d n from)) t v' st sv sp (from - 1) (past (nodes_of bs) n from) (node_count bs) code₂ place₂ number₂ a₂ b₂
          stream_refused_2 y = record {
            told = told_ill _ y told₂;
            below = λ e. absurd (y e);
            fine = fine_up (from - 1) (omega (arith, some)) wide₂;
          }

          pub stream_able : code₂ ≡ 0 → Streamable v' number₂ second
          stream_able y = record {
            asks = record {
              wf = wide₂.grown.wf;
              room = omega (arith, wide₂.types_spent, wide₂.grown.as_wide, r.types_room, some);
              below = w₂.below y;
            };
            node = few r.sound iterable_at.there;
          }

          pub stream_done : {y' : Tab} {code₃ place₃ number₃ a₃ b₃ : ℕ} → code₂ ≡ 0 → Ruled v' y' (second_rule filters second (denote v' number₂)) second code₃ place₃ number₃ a₃ b₃
              → Done (names_of bs) (stream_of filters (checks bs (frames_of t fs top) d n from)) t y' st sv sp (from - 1) (past (nodes_of bs) n from) (node_count bs) code₃ place₃ number₃ a₃ b₃
          stream_done y m =
              let g = m.says (names_of bs) (node_count bs) iterable_at.there in
              record {
                told = told_as (told₂.well y) g.told;
                below = g.below;
                fine = fine_node {k = 0} (from - 1) (omega (arith, some)) (omega arith) wide₂ g.grown g.room g.space;
              }
