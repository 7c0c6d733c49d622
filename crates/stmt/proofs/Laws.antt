-- How the parts of the walk end, and where the nodes of a sound image stand.
use mathlib.Core.Path.{◌≡◌, refl, sym, ◌∙◌}
use Rattle.std.specs.Prelude.{None}
use mathlib.Core.Bool.{Bool, true, false}
use mathlib.Core.List.{List, [], ◌∷◌}
use mathlib.Core.Logic.{◌⊎◌, inl, inr}
use Prim.Native.Nat.{ℕ, zero, suc, ◌+◌, ◌-◌, ◌≤◌, ◌<◌}
use native.Mathlib.Omega.{arith}
use native.Mathlib.Decide.{ℕ_discrete}
use native.Mathlib.Numerals.{add-one}
use borrow.Author.Tests.{eqb-true, leb-true}
use lib.Dec.{eqb}
use Rattle.meaning.specs.Base.{test◌then◌else◌, choose}
use Rattle.meaning.specs.Types.{Ty}
use Rattle.meaning.specs.Tree.{Expr, place}
use Rattle.meaning.specs.Image.{Name, name_count, node_count, nodes_from, nodes_of, node_of, depth, arg_below, count_stands}
use Rattle.meaning.specs.Decode.{stop_of, expr_at}
use Rattle.meaning.specs.Message.{conflict}
use Rattle.meaning.specs.Rules.{check}
use Rattle.meaning.specs.Walk.{dropping, State, state, End, done, wrong, too_deep, typed, onward}
use Rattle.meaning.proofs.Faults.{Sound, sizes}
use Rattle.meaning.proofs.Nesting.{Nested, sound_nested, nodes_many, node_stands_lem, child, children, children_le, children_end, deeper}
use Rattle.meaning.proofs.Choices.{if_le}
use Rattle.types.specs.Table.{Tab, denote}
use Rattle.types.proofs.Laws.{grown_refl, grown_trans}
use Rattle.frames.specs.Env.{Rows, First, frames_of, Fit}
use Rattle.frames.proofs.Laws.{frames_grown, fit_grown}
use Rattle.rules.specs.Outcome.{types_named, pieces}
use Rattle.image.specs.Parts.{Moved}
use Rattle.image.specs.declared.Cursor.{Cursor}
use Rattle.image.specs.declared.Read.{Read}
use Rattle.image.proofs.Moving.{stops}
use Rattle.expr.specs.Contract.{Ready, At}
use Rattle.expr.specs.Contract.{Done as Typed}
use Rattle.expr.proofs.Rows.{many}
use Rattle.state.specs.Notes.{Places, places}
use Rattle.targets.specs.Ending.{first_at, ended, Named, Left}
use Rattle.targets.proofs.Singles.{typing_code, only_checked}
use Rattle.targets.proofs.Endings.{named_none as well_named, ended_well, ended_deep, ended_wrong, ended_alone, left_then, left_wider}
use Rattle.stmt.specs.Contract.{state_of, setting_if, Stmt, Pair, Within, Fine, Deep, Done}

-- ---- the setting: code that is told whether it is plain drops exactly if it is

pub drops_if : (b : Bool) → dropping (setting_if b) ≡ b
unfolding dropping test◌then◌else◌
drops_if true = refl
drops_if false = refl

-- ---- how a part of the walk ended

module _ {ws : List Name} {r : End} {t u : Tab} {gs : Rows} {top high ret : ℕ} {su : List ℕ} {i e M code : ℕ} {place : Places} {a b : ℕ}
    (d : Done ws r t u gs top high ret su i e M code place a b) where
  pub was_done : code ≡ 0 → r ≡ done (state_of u gs high ret)
  was_done z = d.says ∙ ended_well ws u gs high (denote u ret) code place a b z

  pub was_deep : code ≡ 9 → r ≡ too_deep place.here
  was_deep z = d.says ∙ ended_deep ws u gs high (denote u ret) code place a b z

  pub was_wrong : (code ≡ 0 → ⊥) → (code ≡ 9 → ⊥) → r ≡ wrong (conflict code place.here (first_at code place.since) (pieces ws u code a b)) (state_of u gs high ret)
  was_wrong z n = d.says ∙ ended_wrong ws u gs high (denote u ret) code place a b z n

  -- the walk goes on after it: it ended well, or its error is dropped
  pub goes_on : (drops : Bool) (k : State → End) → (code ≡ 9 → ⊥) → (code ≡ 0) ⊎ (drops ≡ true) → onward drops r k ≡ k (state_of u gs high ret)
  unfolding onward
  goes_on drops k n (inl z) = rw (was_done z)
  goes_on drops k n (inr y) = elim (ℕ_discrete code 0) [
    | yes z ↦ rw (was_done z)
    | no z ↦ rw (was_wrong z n, y)
  ]

-- a Def was too deep: of the rows and the stack nothing more is promised
pub too_deep_lem : {ws : List Name} {r : End} {t u : Tab} {gs : Rows} {top high ret : ℕ} {su : List ℕ} {i e M code : ℕ} {place : Places} {a b : ℕ}
    → code ≡ 9 → r ≡ too_deep place.here → Deep t u i e M place.here → Done ws r t u gs top high ret su i e M code place a b
too_deep_lem {ws} {r} {t} {u} {gs} {top} {high} {ret} {su} {i} {e} {M} {code} {place} {a} {b} z q h = record {
  says = q ∙ sym (ended_deep ws u gs high (denote u ret) code place a b z);
  fine = λ n. absurd (n z);
  named = λ n. absurd (n z);
  deep = λ _. h;
}

-- a code whose message names nothing
pub named_none : {u : Tab} {M : ℕ} (code : ℕ) (place : Places) → types_named code ≡ 0 → ((code ≡ 0 → ⊥) → place.here < M) → Named u M code place 0 0
named_none code place e p = record {
  first = λ l. absurd (omega arith);
  second = λ l. absurd (omega arith);
  small = λ z y. (omega arith, omega arith);
  placed = p;
}

-- code 0 whatever the rest
pub named_well : {u : Tab} {M : ℕ} {place : Places} {a b : ℕ} → Named u M 0 place a b
named_well = well_named refl

-- ---- what is asked and what is left go on from node to node

pub left_refl : {bs : List ℕ} {nodes : ℕ} {fs : Rows} {top : ℕ} {t : Tab} {st : List ℕ} {i e j : ℕ} → Ready bs nodes fs top t st 0 i e → i ≤ j → Left t t fs top st i j
left_refl r h = record { grown = grown_refl r.wf; fit = r.fit; stack = r.stack; types_spent = omega arith; elements_spent = omega arith }

-- other rows over the same table
pub left_rows : {t u : Tab} {fs gs : Rows} {top high : ℕ} {su : List ℕ} {i e : ℕ} → Fit t fs top → Left t u gs high su i e → Left t u fs top su i e
left_rows f a = record { grown = a.grown; fit = fit_grown a.grown.more f; stack = a.stack; types_spent = a.types_spent; elements_spent = a.elements_spent }

pub fine_trans : {t u v : Tab} {gs hs : Rows} {top high peak ret got : ℕ} {su sv : List ℕ} {i j e : ℕ}
    → Fine t u gs top high ret su i j → Fine u v hs high peak got sv j e → Fine t v hs top peak got sv i e
fine_trans a b = record { left = left_then a.left b.left; kept = b.kept; raised = omega (arith, a.raised, b.raised) }

pub fine_wider : {t u : Tab} {gs : Rows} {top high ret : ℕ} {su : List ℕ} {i e k f : ℕ} → Fine t u gs top high ret su i e → k ≤ i → e ≤ f → Fine t u gs top high ret su k f
fine_wider a p q = record { left = left_wider a.left p q; kept = a.kept; raised = a.raised }

pub deep_wider : {t u : Tab} {i e k f M place : ℕ} → Deep t u i e M place → k ≤ i → e ≤ f → Deep t u k f M place
deep_wider d p q = record { grown = d.grown; types_spent = omega (arith, d.types_spent); placed = d.placed }

-- a part that ended otherwise, and then one that was too deep
pub deep_then : {t u v : Tab} {gs : Rows} {high : ℕ} {su : List ℕ} {i j e M place : ℕ} → Left t u gs high su i j → Deep u v j e M place → Deep t v i e M place
deep_then a d = record {
  grown = grown_trans a.grown d.grown;
  types_spent = omega (arith, a.types_spent, d.types_spent);
  placed = d.placed;
}

pub done_wider : {ws : List Name} {r : End} {t u : Tab} {gs : Rows} {top high ret : ℕ} {su : List ℕ} {i e k f M code : ℕ} {place : Places} {a b : ℕ}
    → Done ws r t u gs top high ret su i e M code place a b → k ≤ i → e ≤ f → Done ws r t u gs top high ret su k f M code place a b
done_wider d p q = record { says = d.says; fine = λ n. fine_wider (d.fine n) p q; named = d.named; deep = λ x. deep_wider (d.deep x) p q }

pub done_as : {ws : List Name} {r q : End} {t u : Tab} {gs : Rows} {top high ret : ℕ} {su : List ℕ} {i e M code : ℕ} {place : Places} {a b : ℕ}
    → q ≡ r → Done ws r t u gs top high ret su i e M code place a b → Done ws q t u gs top high ret su i e M code place a b
done_as o d = record { says = o ∙ d.says; fine = d.fine; named = d.named; deep = d.deep }

-- all went well: the place and the numbers tell nothing
pub done_any : {ws : List Name} {r : End} {t u : Tab} {gs : Rows} {top high ret : ℕ} {su : List ℕ} {i e M code : ℕ} {place : Places} {a b code' : ℕ} {place' : Places} {a' b' : ℕ}
    → code ≡ 0 → code' ≡ 0 → Done ws r t u gs top high ret su i e M code place a b → Done ws r t u gs top high ret su i e M code' place' a' b'
done_any {ws} {r} {t} {u} {gs} {top} {high} {ret} {code' = code'} {place'} {a'} {b'} z o d = record {
  says = was_done d z ∙ sym (ended_well ws u gs high (denote u ret) code' place' a' b' o);
  fine = λ _. d.fine (λ x. omega arith);
  named = λ _. rw o named_well;
  deep = λ x. absurd (omega arith);
}

pub ready_within : {bs : List ℕ} {nodes : ℕ} {fs : Rows} {top : ℕ} {t : Tab} {st : List ℕ} {i e j f : ℕ}
    → Ready bs nodes fs top t st 0 i e → i ≤ j → f ≤ e → Ready bs nodes fs top t st 0 j f
ready_within r p q = record {
  sound = r.sound;
  nodes_at = r.nodes_at;
  wf = r.wf;
  fit = r.fit;
  stack = r.stack;
  types_room = omega (arith, r.types_room);
  elements_room = omega (arith, r.elements_room);
  stack_room = omega (arith, r.stack_room);
}

-- the same by an equal start of the node area
pub ready_nodes : {bs : List ℕ} {nodes from : ℕ} {fs : Rows} {top : ℕ} {t : Tab} {st : List ℕ} {i e : ℕ}
    → from ≡ nodes_from bs → Ready bs nodes fs top t st 0 i e → Ready bs from fs top t st 0 i e
ready_nodes o r = record {
  sound = r.sound;
  nodes_at = o;
  wf = r.wf;
  fit = r.fit;
  stack = r.stack;
  types_room = r.types_room;
  elements_room = r.elements_room;
  stack_room = r.stack_room;
}

pub ready_next : {bs : List ℕ} {nodes : ℕ} {fs gs : Rows} {top high : ℕ} {t u : Tab} {st su : List ℕ} {i j e : ℕ}
    → Ready bs nodes fs top t st 0 i e → Left t u gs high su i j → i ≤ j → Ready bs nodes gs high u su 0 j e
ready_next r l h = record {
  sound = r.sound;
  nodes_at = r.nodes_at;
  wf = l.grown.wf;
  fit = l.fit;
  stack = l.stack;
  types_room = omega (arith, r.types_room, l.types_spent, l.grown.as_wide);
  elements_room = omega (arith, r.elements_room, l.elements_spent, l.grown.as_wide);
  stack_room = omega (arith, r.stack_room);
}

-- ---- an expression was checked

module _ {ws : List Name} {t u : Tab} {fs : Rows} {top : ℕ} {st su : List ℕ} {i e M code place' number a b : ℕ} (x : Expr) (f : Fit t fs top)
    (d : Typed ws (check ws (frames_of t fs top) x) t u st su 0 i e M code place' number a b) where
  pub typing : code ≡ 9 → ⊥
  typing = (only_checked x None f d).typing

  pub check_left : Left t u fs top su i e
  check_left = (only_checked x None f d).left

  pub check_named : {m : First} → Named u M code (places place' m) a b
  check_named {m} = (only_checked x m f d).named

  pub check_well : code ≡ 0 → (s : State) (k : Ty → End) → typed (check ws (frames_of t fs top) x) s k ≡ k (denote u number)
  unfolding typed
  check_well z s k = rw (d.told.well z)

  -- which points at no first place, whatever is noted there
  pub check_ill : (m : First) → (code ≡ 0 → ⊥) → (y : Ty) (k : Ty → End)
      → typed (check ws (frames_of t fs top) x) (state (frames_of t fs top) y) k ≡ ended ws u fs top y code (places place' m) a b
  unfolding typed
  check_ill m z y k =
      let j = typing_code x None f d z in
      rw (d.told.ill z, ← (frames_grown d.fine.grown f))
      (sym (ended_alone ws u fs top y code (places place' m) a b z typing (λ q. omega arith, λ q. omega arith)))

-- ---- nodes of a sound image

pub place_at : (bs : List ℕ) (d i : ℕ) → place (expr_at (nodes_of bs) d i) ≡ i
unfolding expr_at place
place_at bs zero i = refl
place_at bs (suc d) i = refl

-- behind a first child
pub second_of : {bs : List ℕ} {c : Cursor} {r q : Read} → Moved bs c r (c.at + 1) → Moved bs r.cursor q (node_of (nodes_of bs) r.cursor.at).stop
    → q.cursor.at ≡ stop_of (nodes_of bs) (c.at + 1)
second_of m n = rw m.at at (stops n)

abbrev RowsBelow : ℕ → List (ℕ × ℕ) → Type 0
RowsBelow m [] = Unit {0}
RowsBelow m (r ∷ rs) = (r.1 ≤ m) × RowsBelow m rs

choose_le : (k d m : ℕ) (rs : List (ℕ × ℕ)) → d ≤ m → RowsBelow m rs → choose k d rs ≤ m
unfolding choose
choose_le k d m [] p q = p
choose_le k d m (r ∷ rs) p q = if_le (eqb k r.0) q.0 (choose_le k d m rs p q.1)

arg_below_lem : {N : ℕ} (k : ℕ) → N ≤ 128 → arg_below N k ≤ 128
unfolding arg_below
arg_below_lem {N} k h =
    choose_le k 1 128 _ (omega arith)
    (h, (h, (h, (omega arith, (h, (omega arith, (omega arith, tt)))))))

module _ {bs : List ℕ} (s : Sound bs) where
  nested : Nested (name_count bs) (nodes_of bs)
  nested = sound_nested s

  pub few_nodes : node_count bs ≤ 2048
  few_nodes = (sizes s.headed).nodes

  pub wide_at : (i : ℕ) → i < node_count bs → (i < stop_of (nodes_of bs) i) × (stop_of (nodes_of bs) i ≤ node_count bs)
  unfolding stop_of
  wide_at i h =
      let k = node_stands_lem nested i (many s h) in
      (k.above, rw (nodes_many bs) at k.within)

  -- the first of a pair has a node at least, and ends before the pair does
  pub pair_wide : {i d : ℕ} → Pair bs i d → (i + 1 < stop_of (nodes_of bs) (i + 1)) × (stop_of (nodes_of bs) (i + 1) < stop_of (nodes_of bs) i)
  pair_wide {i} p =
      let a = wide_at (i + 1) p.first.there in
      let b = wide_at (stop_of (nodes_of bs) (i + 1)) p.second.there in
      (a.0, omega (arith, b.0, p.last))

  -- a node inside node i, one level less
  pub at_inside : {i d c : ℕ} → i < node_count bs → 64 ≤ depth i 0 (nodes_of bs) + d → i < c → c < stop_of (nodes_of bs) i → At bs c d
  at_inside {i} {d} {c} h l p q = record {
    there = omega (arith, (wide_at i h).1);
    deep = omega (arith, l, deeper nested i c p (many s h) q);
  }

  -- ---- children
  pub stop_is : (i : ℕ) → (node_of (nodes_of bs) i).stop ≡ stop_of (nodes_of bs) i
  unfolding stop_of
  stop_is i = refl

  pub within_all : (i : ℕ) → i < node_count bs → Within bs i (i + 1) (node_of (nodes_of bs) i).children
  within_all i h = record { there = h; behind = omega arith; children = rw (add-one i) (children nested i (many s h)) }

  module _ {i j n : ℕ} (w : Within bs i j n) where
    pub within_le : j ≤ stop_of (nodes_of bs) i
    within_le = omega (arith, children_le n w.children, stop_is i)

    pub within_end : n ≤ 0 → j ≡ stop_of (nodes_of bs) i
    within_end z = let o : n ≡ 0 = omega arith in children_end (rw o at w.children) ∙ stop_is i

    pub within_child : 0 < n → (j < stop_of (nodes_of bs) j) × (stop_of (nodes_of bs) j ≤ stop_of (nodes_of bs) i) × (j < node_count bs) × Within bs i (stop_of (nodes_of bs) j) (n - 1)
    within_child p =
        let o : n ≡ suc (n - 1) = omega arith in
        let k = child (rw o at w.children) in
        let c = wide_at i w.there in
        let h : j < node_count bs = omega (arith, c.1, stop_is i, k.inside) in
        let g = wide_at j h in (
          g.0,
          omega (arith, stop_is i, children_le (n - 1) k.rest),
          h,
          record { there = w.there; behind = omega (arith, w.behind, g.0); children = k.rest },
        )

    pub within_at : {d : ℕ} → 64 ≤ depth i 0 (nodes_of bs) + d → 0 < n → At bs j d
    within_at l p = let k = within_child p in at_inside w.there l w.behind (omega arith)

  -- ---- how many children
  counted : (i k : ℕ) → i < node_count bs → (node_of (nodes_of bs) i).kind ≡ k → count_stands k (node_of (nodes_of bs) i).children ≡ true
  counted i k h e = rw e at (node_stands_lem nested i (many s h)).count

  only_child : {i d k : ℕ} → Stmt bs i d k → (node_of (nodes_of bs) i).children ≡ 1 → (At bs (i + 1) d) × (stop_of (nodes_of bs) (i + 1) ≡ stop_of (nodes_of bs) i)
  only_child {i} q e =
      let w : Within bs i (i + 1) 1 = rw e at (within_all i q.there) in
      (within_at w q.deep (omega arith), within_end (within_child w (omega arith)).3 (omega arith))

  pub one_child : {i d k : ℕ} → Stmt bs i d k → (k ≡ 6) ⊎ (k ≡ 7) → (At bs (i + 1) d) × (stop_of (nodes_of bs) (i + 1) ≡ stop_of (nodes_of bs) i)
  unfolding count_stands choose test◌then◌else◌
  one_child {i} q (inl e) = only_child q (eqb-true _ 1 (counted i 6 q.there (q.kind ∙ e)))
  one_child {i} q (inr e) = only_child q (eqb-true _ 1 (counted i 7 q.there (q.kind ∙ e)))

  pair_of : {i d k : ℕ} → Stmt bs i d k → (node_of (nodes_of bs) i).children ≡ 2 → Pair bs i d
  pair_of {i} q e =
      let w : Within bs i (i + 1) 2 = rw e at (within_all i q.there) in
      let v = (within_child w (omega arith)).3 in
      record {
        there = q.there;
        first = within_at w q.deep (omega arith);
        second = within_at v q.deep (omega arith);
        last = within_end (within_child v (omega arith)).3 (omega arith);
      }

  pub pair_assign : {i d : ℕ} → Stmt bs i d 5 → Pair bs i d
  unfolding count_stands choose test◌then◌else◌
  pair_assign {i} q = pair_of q (eqb-true _ 2 (counted i 5 q.there q.kind))

  pub pair_while : {i d : ℕ} → Stmt bs i d 9 → Pair bs i d
  unfolding count_stands choose test◌then◌else◌
  pair_while {i} q = pair_of q (eqb-true _ 2 (counted i 9 q.there q.kind))

  pub pair_for : {i d : ℕ} → Stmt bs i d 10 → Pair bs i d
  unfolding count_stands choose test◌then◌else◌
  pair_for {i} q = pair_of q (eqb-true _ 2 (counted i 10 q.there q.kind))

  pub count_if : {i d : ℕ} → Stmt bs i d 8 → 2 ≤ (node_of (nodes_of bs) i).children
  unfolding count_stands choose test◌then◌else◌
  count_if {i} q = leb-true 2 _ (counted i 8 q.there q.kind)

  pub count_def : {i d : ℕ} → Stmt bs i d 11 → 1 ≤ (node_of (nodes_of bs) i).children
  unfolding count_stands choose test◌then◌else◌
  count_def {i} q = leb-true 1 _ (counted i 11 q.there q.kind)

  -- ---- a node's arg: a name or less
  pub arg_small : (i : ℕ) → i < node_count bs → (node_of (nodes_of bs) i).arg < 128
  arg_small i h = omega (arith, (node_stands_lem nested i (many s h)).arg, arg_below_lem (node_of (nodes_of bs) i).kind (sizes s.headed).names)
