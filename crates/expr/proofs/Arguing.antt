-- Calls of names: their refusals for count, and rules that look at all arguments, at none or at the first alone.
use mathlib.Core.Path.{◌≡◌, refl, sym, ap, ◌∙◌}
use mathlib.Core.Bool.{true, false}
use mathlib.Core.List.{List, []}
use Prim.Native.Nat.{ℕ, suc, ◌+◌, ◌-◌, ◌≤◌, ◌<◌}
use native.Mathlib.Omega.{arith}
use native.Mathlib.Decide.{ℕ_discrete}
use Rattle.meaning.specs.Base.{base_open}
use Rattle.meaning.specs.Types.{Ty, plain}
use Rattle.meaning.specs.Image.{Name, Node, node_count, nodes_of, names_of, name_count}
use Rattle.meaning.specs.Decode.{expr_at, form_at, stop_of, past}
use Rattle.meaning.specs.Operators.{Checked, ok, ◌>>=◌}
use Rattle.meaning.specs.Rules.{Children, child, check, check_form, each_then, first_then, input_rule, len_rule, range_rule}
use Rattle.meaning.proofs.Faults.{sizes}
use Rattle.meaning.proofs.Decoding.{past_down}
use Rattle.types.specs.Table.{Tab, denote}
use Rattle.types.proofs.Laws.{plain_number}
use Rattle.frames.specs.Env.{Rows, frames_of}
use Rattle.rules.specs.Outcome.{types_named}
use Rattle.rules.specs.Leaves.{prompt_rule, sized_rule}
use Rattle.rules.proofs.Calls.{input_one, input_other, len_first}
use Rattle.std.specs.Prelude.{Ok, Err}
use Rattle.codes.specs.declared.Code.{Code}
use Rattle.codes.specs.Codes.{code_number}
use Rattle.calls.specs.Planning.{Plan, rule_of, Planned}
use Rattle.calls.specs.declared.Rule.{Rule}
use Rattle.calls.specs.declared.Rule.TheVariants.{Each, First, Input, Len, Range, Map, Filter}
use Rattle.nodes.specs.Operands.{Judges, Ruled}
use Rattle.expr.specs.Contract.{Ready, At, Row, Fine, Done, Values, checks, stream_of}
use Rattle.expr.proofs.Rows.{Opened, Behind, row_of, row_at, row_ends, row_next, row_long, ends_after, ends_within, few}
use Rattle.expr.proofs.Leaving.{fine_none, fine_wider, fine_up, ready_narrow}
use Rattle.expr.proofs.Telling.{told_as, told_ill, told_well, done_given, done_as, done_bind, checks_many, checks_first}
use Rattle.expr.proofs.Calling.{call_some, callee_there, call_whole, name_there}

named_37 : types_named 37 ≡ 0
unfolding types_named base_open
named_37 = refl

named_38 : types_named 38 ≡ 0
unfolding types_named base_open
named_38 = refl

-- 37 and 38 name no types
no_types : (c : ℕ) → 37 ≤ c → c ≤ 38 → types_named c ≡ 0
no_types c a b = elim (ℕ_discrete c 37) [ yes e ↦ rw e named_37 | no e ↦ let f : c ≡ 38 = omega arith in rw f named_38 ]

pub call_coded : {ws : List Name} {x count : ℕ} {code : Code} {p : Plan} → Planned ws x count p → p ≡ Err code → code_number code ≡ 0 → ⊥
call_coded {code = code} p y z = omega (arith, (p.codes code y).0)

-- ---- the call at node i of a name

module _ {bs : List ℕ} {nodes : ℕ} {fs : Rows} {top : ℕ} {t : Tab} {st : List ℕ} {sp i d first from : ℕ} {node callee : Node}
    (r : Ready bs nodes fs top t st sp i (stop_of (nodes_of bs) i)) (o : Opened bs i d node 24 first)
    (c : Behind bs i callee from) (v : callee.kind ≡ 21) where
  pub call_refused : {x count : ℕ} {code : Code} {number : ℕ} {p : Plan} → x ≡ callee.arg → count ≡ node.children - 1
      → Planned (names_of bs) x count p → p ≡ Err code
      → Done (names_of bs) (check_form (names_of bs) (frames_of t fs top) i (form_at (nodes_of bs) (λ j. expr_at (nodes_of bs) d j) i)) t t st st sp i
      (stop_of (nodes_of bs) i) (node_count bs) (code_number code) i number x count
  call_refused {x} {count} {code} e m p y =
      let h : x < name_count bs = rw e (name_there r.sound o c v) in
      let none = no_types (code_number code) (p.codes code y).0 (p.codes code y).1 in
      let z : code_number code ≡ 0 → ⊥ = call_coded p y in
      let size = sizes r.sound.headed in
      let few : count < 4294967296 = omega (arith, m, row_long r.sound node.children (row_of r.sound o.inner), row_ends r.sound o.inner, ends_within r.sound o.inner.there, size.nodes) in
      record {
        told = record {
          well = λ w. absurd (z w);
          ill = λ w.
              call_whole r.sound o c (frames_of t fs top) v m ∙ rw (← e)
              (p.ill code y t i (checks bs (frames_of t fs top) d count from) (checks_many bs (frames_of t fs top) d count from));
          first = λ g. absurd (omega arith);
          second = λ g. absurd (omega arith);
          small = λ g n. (omega (arith, h, size.names), few);
          placed = λ g. o.inner.there;
        };
        below = λ w. absurd (z w);
        fine = fine_wider (stop_of (nodes_of bs) i) 1 (omega (arith, ends_after r.sound o.inner.there)) (fine_none sp i r.wf r.stack);
      }

  module _ {n : ℕ} (m : n ≡ node.children - 1) where
    stops : from ≡ stop_of (nodes_of bs) (suc i)
    unfolding stop_of
    stops = c.next ∙ ap (λ y. y.stop) c.read

    ends : past (nodes_of bs) n from ≡ stop_of (nodes_of bs) i
    ends =
        rw (stops, m) (sym (past_down (nodes_of bs) node.children (suc i) (call_some r.sound o)) ∙ row_ends r.sound o.inner)

    after : i < from - 1
    after = omega (arith, stops, ends_after r.sound (callee_there r.sound o))

    pub call_ready : Ready bs nodes fs top t st sp (from - 1) (past (nodes_of bs) n from)
    call_ready = ready_narrow (from - 1) _ (omega (arith, after)) (omega (arith, ends)) r

    pub call_row : Row bs from n d
    call_row = rw (stops, m) (row_next r.sound node.children (call_some r.sound o) (row_of r.sound o.inner))

    pub call_done : {x count : ℕ} {p : Plan} {rule : Rule} {u : Tab} {su : List ℕ} {code' place number a b : ℕ} → x ≡ callee.arg → count ≡ n → Planned (names_of bs) x count p → p ≡ Ok rule
        → Done (names_of bs) (rule_of rule i (checks bs (frames_of t fs top) d n from)) t u st su sp (from - 1) (past (nodes_of bs) n from) (node_count bs) code' place number a b
        → Done (names_of bs) (check_form (names_of bs) (frames_of t fs top) i (form_at (nodes_of bs) (λ j. expr_at (nodes_of bs) d j) i)) t u st su sp i
        (stop_of (nodes_of bs) i) (node_count bs) code' place number a b
    call_done {x} {rule = rule} e q p z g =
        done_as
        (call_whole r.sound o c (frames_of t fs top) v m ∙ rw (← e)
        (p.well rule z i (checks bs (frames_of t fs top) d n from) (checks_many bs (frames_of t fs top) d n from ∙ sym q)))
        record {
          told = g.told;
          below = g.below;
          fine = fine_up i after (rw ends at g.fine);
        }

-- ---- the arguments of a call, n of them from `from` on

module _ {bs : List ℕ} {nodes : ℕ} {fs : Rows} {top : ℕ} {t : Tab} {st : List ℕ} {sp from n d : ℕ}
    (r : Ready bs nodes fs top t st sp (from - 1) (past (nodes_of bs) n from)) (w : Row bs from n d) where
  some : 0 < from
  some = omega (arith, w.behind)

  -- a plain type after what was checked
  plain_done : {whole : Checked} {u : Tab} {su : List ℕ} {x M code place p a b : ℕ} → code ≡ 0 → p < 8 → whole ≡ ok (plain p) → Fine t u st su sp from (past (nodes_of bs) n from) x
      → Done (names_of bs) whole t u st su sp (from - 1) (past (nodes_of bs) n from) M code place p a b
  plain_done {p = p} z h e f = record {
    told = told_well z (e ∙ ap ok (sym (plain_number f.grown.wf p h)));
    below = λ y. omega (arith, f.grown.wf.base);
    fine = fine_up (from - 1) (omega (arith, some)) f;
  }

  -- ---- all of them

  pub each_ready : Ready bs nodes fs top t st sp from (past (nodes_of bs) n from)
  each_ready = ready_narrow from _ (omega arith) (omega arith) r

  module _ {u : Tab} {su : List ℕ} {code place a b : ℕ}
      (v : Values (names_of bs) (checks bs (frames_of t fs top) d n from) t u st su sp n from (past (nodes_of bs) n from) (node_count bs) code place a b) where
    pub each_refused : (p : ℕ) {number : ℕ} → (code ≡ 0 → ⊥)
        → Done (names_of bs) (each_then (plain p) (checks bs (frames_of t fs top) d n from)) t u st su sp (from - 1) (past (nodes_of bs) n from) (node_count bs) code place number a b
    unfolding each_then
    each_refused p z = record {
      told = told_ill _ z (v.told _ []);
      below = λ e. absurd (z e);
      fine = fine_up (from - 1) (omega (arith, some)) v.fine;
    }

    pub each_done : (p : ℕ) {code' place' a' b' : ℕ} → p < 8 → code ≡ 0 → code' ≡ 0
        → Done (names_of bs) (each_then (plain p) (checks bs (frames_of t fs top) d n from)) t u st su sp (from - 1) (past (nodes_of bs) n from) (node_count bs) code' place' p a' b'
    unfolding each_then
    each_done p h z y = plain_done y h ((v.told _ []).well z) v.fine

  -- ---- none of them: `input` without a prompt

  pub input_none : (at : ℕ) {code place a b : ℕ} → (n ≡ 1 → ⊥) → code ≡ 0
      → Done (names_of bs) (input_rule at (checks bs (frames_of t fs top) d n from)) t t st st sp (from - 1) (past (nodes_of bs) n from) (node_count bs) code place 3 a b
  unfolding plain
  input_none at e z =
      plain_done z (omega arith) (input_other at (checks bs (frames_of t fs top) d n from) (λ y. e (sym (checks_many bs (frames_of t fs top) d n from) ∙ y)))
      (fine_wider (past (nodes_of bs) n from) n (row_long r.sound n w) (fine_none sp from r.wf r.stack))

  -- ---- the first of them

  module _ (h : 0 < n) where
    pub first_at : At bs from d
    first_at = row_at r.sound n h w

    first_ends : past (nodes_of bs) (n - 1) (stop_of (nodes_of bs) from) ≡ past (nodes_of bs) n from
    first_ends = sym (past_down (nodes_of bs) n from h)

    first_long : stop_of (nodes_of bs) from + (n - 1) ≤ past (nodes_of bs) n from
    first_long = rw first_ends at (row_long r.sound (n - 1) (row_next r.sound n h w))

    pub first_ready : Ready bs nodes fs top t st sp from (stop_of (nodes_of bs) from)
    first_ready = ready_narrow from _ (omega arith) (omega (arith, first_long)) r

    first_is : (k : Ty → Checked) {whole : Checked} → whole ≡ ((child 0 (checks bs (frames_of t fs top) d n from)).1 >>= k)
        → whole ≡ (check (names_of bs) (frames_of t fs top) (expr_at (nodes_of bs) d from) >>= k)
    first_is k e = e ∙ rw (checks_first bs (frames_of t fs top) d n from h)

    module _ {u : Tab} {su : List ℕ} {code place number a b : ℕ}
        (v : Done (names_of bs) (check (names_of bs) (frames_of t fs top) (expr_at (nodes_of bs) d from)) t u st su sp from (stop_of (nodes_of bs) from) (node_count bs) code place number a b) where
      passed : Fine t u st su sp from (past (nodes_of bs) n from) (1 + (n - 1))
      passed = fine_wider (past (nodes_of bs) n from) (n - 1) first_long v.fine

      refused_first : (k : Ty → Checked) {whole : Checked} → whole ≡ (check (names_of bs) (frames_of t fs top) (expr_at (nodes_of bs) d from) >>= k) → (code ≡ 0 → ⊥)
          → Done (names_of bs) whole t u st su sp (from - 1) (past (nodes_of bs) n from) (node_count bs) code place number a b
      refused_first k e z = record {
        told = told_as e (told_ill _ z (done_bind v k));
        below = λ y. absurd (z y);
        fine = fine_up (from - 1) (omega (arith, some)) passed;
      }

      ruled_first : (k : Ty → Checked) {whole : Checked} {x : Tab} {at code' place' number' a' b' : ℕ} → whole ≡ (check (names_of bs) (frames_of t fs top) (expr_at (nodes_of bs) d from) >>= k)
          → at < node_count bs → code ≡ 0 → Ruled u x (k (denote u number)) at code' place' number' a' b'
          → Done (names_of bs) whole t x st su sp (from - 1) (past (nodes_of bs) n from) (node_count bs) code' place' number' a' b'
      ruled_first k e l z o =
          done_as (e ∙ (done_bind v k).well z)
          (done_given (from - 1) (omega (arith, some)) passed 0 (omega arith) (o.says (names_of bs) (node_count bs) l))

      pub first_judges : {at : ℕ} → code ≡ 0 → at < node_count bs → Judges u number at
      first_judges z l = record { wf = v.fine.grown.wf; below = v.below z; node = few r.sound l }

      -- int, float, bool, str and assert
      pub first_refused : (p : ℕ) → (code ≡ 0 → ⊥)
          → Done (names_of bs) (first_then (plain p) (checks bs (frames_of t fs top) d n from)) t u st su sp (from - 1) (past (nodes_of bs) n from) (node_count bs) code place number a b
      unfolding first_then
      first_refused p z = refused_first (λ a. ok (plain p)) (first_is (λ a. ok (plain p)) refl) z

      pub first_done : (p : ℕ) {code' place' a' b' : ℕ} → p < 8 → code ≡ 0 → code' ≡ 0
          → Done (names_of bs) (first_then (plain p) (checks bs (frames_of t fs top) d n from)) t u st su sp (from - 1) (past (nodes_of bs) n from) (node_count bs) code' place' p a' b'
      unfolding first_then
      first_done p l z y = plain_done y l (first_is (λ a. ok (plain p)) refl ∙ (done_bind v (λ a. ok (plain p))).well z) passed

      -- input with a prompt
      module _ (at : ℕ) (m : n ≡ 1) where
        prompts : input_rule at (checks bs (frames_of t fs top) d n from) ≡ (check (names_of bs) (frames_of t fs top) (expr_at (nodes_of bs) d from) >>= prompt_rule at)
        prompts = first_is (prompt_rule at) (input_one at (checks bs (frames_of t fs top) d n from) (checks_many bs (frames_of t fs top) d n from ∙ m))

        pub input_refused : (code ≡ 0 → ⊥)
            → Done (names_of bs) (input_rule at (checks bs (frames_of t fs top) d n from)) t u st su sp (from - 1) (past (nodes_of bs) n from) (node_count bs) code place number a b
        input_refused z = refused_first (prompt_rule at) prompts z

        pub input_done : {x : Tab} {code' place' number' a' b' : ℕ} → at < node_count bs → code ≡ 0 → Ruled u x (prompt_rule at (denote u number)) at code' place' number' a' b'
            → Done (names_of bs) (input_rule at (checks bs (frames_of t fs top) d n from)) t x st su sp (from - 1) (past (nodes_of bs) n from) (node_count bs) code' place' number' a' b'
        input_done l z o = ruled_first (prompt_rule at) prompts l z o

      -- len
      module _ (at : ℕ) where
        sizes_it : len_rule at (checks bs (frames_of t fs top) d n from) ≡ (check (names_of bs) (frames_of t fs top) (expr_at (nodes_of bs) d from) >>= sized_rule at)
        sizes_it = first_is (sized_rule at) (len_first at (checks bs (frames_of t fs top) d n from))

        pub len_refused : (code ≡ 0 → ⊥)
            → Done (names_of bs) (len_rule at (checks bs (frames_of t fs top) d n from)) t u st su sp (from - 1) (past (nodes_of bs) n from) (node_count bs) code place number a b
        len_refused z = refused_first (sized_rule at) sizes_it z

        pub len_done : {x : Tab} {code' place' number' a' b' : ℕ} → at < node_count bs → code ≡ 0 → Ruled u x (sized_rule at (denote u number)) at code' place' number' a' b'
            → Done (names_of bs) (len_rule at (checks bs (frames_of t fs top) d n from)) t x st su sp (from - 1) (past (nodes_of bs) n from) (node_count bs) code' place' number' a' b'
        len_done l z o = ruled_first (sized_rule at) sizes_it l z o

-- ---- a call's rule, by its case

module _ {k : Rule} (n : ℕ) (cs : Children) where
  pub as_each : {p : ℕ} → k ≡ Each p → rule_of k n cs ≡ each_then (plain p) cs
  unfolding rule_of
  as_each e = rw e

  pub as_first : {p : ℕ} → k ≡ First p → rule_of k n cs ≡ first_then (plain p) cs
  unfolding rule_of
  as_first e = rw e

  pub as_input : k ≡ Input → rule_of k n cs ≡ input_rule n cs
  unfolding rule_of
  as_input e = rw e

  pub as_len : k ≡ Len → rule_of k n cs ≡ len_rule n cs
  unfolding rule_of
  as_len e = rw e

  pub as_range : k ≡ Range → rule_of k n cs ≡ range_rule n cs
  unfolding rule_of
  as_range e = rw e

  pub as_map : k ≡ Map → rule_of k n cs ≡ stream_of false cs
  unfolding rule_of stream_of
  as_map e = rw e

  pub as_filter : k ≡ Filter → rule_of k n cs ≡ stream_of true cs
  unfolding rule_of stream_of
  as_filter e = rw e
