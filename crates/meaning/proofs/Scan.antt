-- The flat form of what a module may bind, for code: the nodes in order, with no recursion over the tree. At an Assign the nodes of its
-- target are scanned; a For gives its name; If, While, For and Block are entered, and everything else is jumped over. In a sound image
-- this gives the very list that the definition over the tree gives.
use mathlib.Core.Path.{◌≡◌, refl, ◌∙◌, ap, sym, subst}
use mathlib.Core.Bool.{Bool, true, false}
use mathlib.Core.Logic.{⊎_elim}
use mathlib.Core.List.Memᴰ
use mathlib.Core.List.{List, [], ◌∷◌, ◌++◌, append_assoc, append-nil, Memᴰ}
use Prim.Native.Nat.{ℕ, zero, suc, ◌+◌, ◌-◌, ◌%◌, ◌≤◌, ◌<◌}
use native.Mathlib.Numerals.{sub-one}
use native.Mathlib.Omega.{arith}
use native.Mathlib.Decide.{ℕ_discrete}
use borrow.Author.Tests.{leb-true, ltb-true, lt-ltb, le-ltb, eqb-true, eq-eqb, ne_eqb}
use lib.Dec.{eqb, ltb}
use lib.ListN.{length}
use Rattle.meaning.specs.Limits.{deepest}
use Rattle.meaning.specs.Base.{◌and◌, ◌or◌, test◌then◌else◌, choose}
use Rattle.meaning.specs.Tree.{Expr, Form, lambda, Stmt, Act, pass, Stmts}
use Rattle.meaning.specs.Bound.{targets, targets_in, targets_among, may_bind, binds_by, binds_in, binds_among}
use Rattle.meaning.specs.Image.{Node, node_of, nodes_of, name_count, node_count, is_statement, is_expression, arg_below, count_stands, belongs, depth}
use Rattle.meaning.specs.Decode.{stop_of, exprs_from, stmts_from, arms_from, form_at, expr_at, act_at, stmt_at, block_at, tree_of}
use Rattle.meaning.proofs.Choices.{and_left, and_right}
use Rattle.meaning.proofs.Faults.{Sound, sizes}
use Rattle.meaning.proofs.Nesting.{Nested, nodes_many, sound_nested, node_stands_lem, Children, children, children_end, child, root, within, deeper}
use Rattle.meaning.proofs.Decoding.{variable_at, tuple_at, assign_at, if_at, while_at, for_at}

-- ---- the scan; k bounds the steps

-- nodes j to e - 1 of a target: a Variable gives its name, a Tuple is entered, everything else is jumped over
unfoldable pub scan_target : List Node → ℕ → ℕ → ℕ → List ℕ
scan_target ds zero j e = []
scan_target ds (suc k) j e =
    let inner : List ℕ = scan_target ds k (suc j) e in
    let over : List ℕ = scan_target ds k (stop_of ds j) e in
    test ltb j e then choose (node_of ds j).kind over ((21, (node_of ds j).arg ∷ over) ∷ (28, inner) ∷ []) else []

-- the nodes from i on
unfoldable pub scan : List Node → ℕ → ℕ → List ℕ
scan ds zero i = []
scan ds (suc k) i =
    let inner : List ℕ = scan ds k (suc i) in
    let over : List ℕ = scan ds k (stop_of ds i) in
    let target : List ℕ = scan_target ds (length ds) (suc i) (stop_of ds (suc i)) in
    test ltb i (length ds)
    then choose (node_of ds i).kind over
    ((5, target ++ over) ∷ (8, inner) ∷ (9, inner) ∷ (10, (node_of ds i).arg ∷ inner) ∷ (12, inner) ∷ [])
    else []

-- ---- a choice whose row gives nothing

module _ {A : Type 0} (f : A → List ℕ) (k : ℕ) where
  pub data Quiet : List (ℕ × A) → Type 0 where
    no_rows : Quiet []
    another : {r : ℕ × A} {rs : List (ℕ × A)} → (k ≡ r.0 → ⊥) → Quiet rs → Quiet (r ∷ rs)
    nothing : {r : ℕ × A} {rs : List (ℕ × A)} → f r.1 ≡ [] → Quiet rs → Quiet (r ∷ rs)

  pub quiet : (d : A) (rs : List (ℕ × A)) → f d ≡ [] → Quiet rs → f (choose k d rs) ≡ []
  unfolding choose test◌then◌else◌
  quiet d [] e no_rows = e
  quiet d (r ∷ rs) e (another n q) = rw (ne_eqb k r.0 n) (quiet d rs e q)
  quiet d (r ∷ rs) e (nothing g q) = elim (ℕ_discrete k r.0) [
    | yes p ↦ rw (eq-eqb k r.0 p) g
    | no n ↦ rw (ne_eqb k r.0 n) (quiet d rs e q)
  ]

-- an expression that is neither Variable nor Tuple has no targets
quiet_form : (ds : List Node) (e : ℕ → Expr) (i : ℕ) → ((node_of ds i).kind ≡ 21 → ⊥) → ((node_of ds i).kind ≡ 28 → ⊥) → targets_in (form_at ds e i) ≡ []
unfolding form_at targets
quiet_form ds e i v t =
    quiet targets_in (node_of ds i).kind lambda _ refl
    (nothing refl (another v (nothing refl (nothing refl (nothing refl (nothing refl (nothing refl (nothing refl (another t (nothing refl (nothing refl (nothing refl no_rows))))))))))))

-- a statement that is neither Assign, If, While nor For binds nothing
quiet_act : (ds : List Node) (e : ℕ → Expr) (b : ℕ → Stmts) (i : ℕ) → ((node_of ds i).kind ≡ 5 → ⊥) → ((node_of ds i).kind ≡ 8 → ⊥) → ((node_of ds i).kind ≡ 9 → ⊥)
    → ((node_of ds i).kind ≡ 10 → ⊥) → binds_in (act_at ds e b i) ≡ []
unfolding act_at may_bind
quiet_act ds e b i n5 n8 n9 n10 =
    quiet binds_in (node_of ds i).kind pass _ refl
    (nothing refl (nothing refl (nothing refl (nothing refl (another n5 (nothing refl (nothing refl (another n8 (another n9 (another n10 (nothing refl no_rows)))))))))))

-- ---- one step of the scan of a target, by a count that goes down

pub target_end : (ds : List Node) (k j e : ℕ) → e ≤ j → scan_target ds k j e ≡ []
unfolding scan_target test◌then◌else◌
target_end ds zero j e h = refl
target_end ds (suc k) j e h = rw (le-ltb j e h)

pub target_variable : (ds : List Node) (k j e : ℕ) → 0 < k → j < e → (node_of ds j).kind ≡ 21
    → scan_target ds k j e ≡ (node_of ds j).arg ∷ scan_target ds (k - 1) (stop_of ds j) e
unfolding scan_target choose test◌then◌else◌
target_variable ds zero j e h l q = absurd (omega arith)
target_variable ds (suc k) j e h l q = rw (lt-ltb j e l, q, sub-one)

pub target_tuple : (ds : List Node) (k j e : ℕ) → 0 < k → j < e → (node_of ds j).kind ≡ 28 → scan_target ds k j e ≡ scan_target ds (k - 1) (suc j) e
unfolding scan_target choose test◌then◌else◌
target_tuple ds zero j e h l q = absurd (omega arith)
target_tuple ds (suc k) j e h l q = rw (lt-ltb j e l, q, sub-one)

pub target_other : (ds : List Node) (k j e : ℕ) → 0 < k → j < e → ((node_of ds j).kind ≡ 21 → ⊥) → ((node_of ds j).kind ≡ 28 → ⊥)
    → scan_target ds k j e ≡ scan_target ds (k - 1) (stop_of ds j) e
unfolding scan_target choose test◌then◌else◌
target_other ds zero j e h l v t = absurd (omega arith)
target_other ds (suc k) j e h l v t = rw (lt-ltb j e l, ne_eqb _ 21 v, ne_eqb _ 28 t, sub-one)

-- from j to e it gives xs, however many steps are left, if they are enough
record Aims (ds : List Node) (e j : ℕ) (xs : List ℕ) : Type 0 where
  gives : (k : ℕ) → e ≤ j + k → scan_target ds k j e ≡ xs

aims_is : {ds : List Node} {e j : ℕ} {xs ys : List ℕ} → xs ≡ ys → Aims ds e j xs → Aims ds e j ys
aims_is p a = record { gives = λ k h. a.gives k h ∙ p }

module _ (ds : List Node) (e j : ℕ) where
  aim_end : e ≤ j → Aims ds e j []
  aim_end h = record { gives = λ n l. target_end ds n j e h }

  module _ (inside : j < e) (xs : List ℕ) where
    aim_variable : (node_of ds j).kind ≡ 21 → j < stop_of ds j → Aims ds e (stop_of ds j) xs → Aims ds e j ((node_of ds j).arg ∷ xs)
    aim_variable q up a =
        record { gives = λ n l. target_variable ds n j e (omega arith) inside q ∙ ap (λ ys. (node_of ds j).arg ∷ ys) (a.gives (n - 1) (omega arith)) }

    aim_tuple : (node_of ds j).kind ≡ 28 → Aims ds e (suc j) xs → Aims ds e j xs
    aim_tuple q a = record { gives = λ n l. target_tuple ds n j e (omega arith) inside q ∙ a.gives (n - 1) (omega arith) }

    aim_other : ((node_of ds j).kind ≡ 21 → ⊥) → ((node_of ds j).kind ≡ 28 → ⊥) → j < stop_of ds j → Aims ds e (stop_of ds j) xs → Aims ds e j xs
    aim_other v t up a = record { gives = λ n l. target_other ds n j e (omega arith) inside v t ∙ a.gives (n - 1) (omega arith) }

-- ---- the target at node j

module _ {N : ℕ} {ds : List Node} (sound : Nested N ds) (i : ℕ) (m : i < length ds) where
  pub stop_above : i < stop_of ds i
  unfolding stop_of
  stop_above = (node_stands_lem sound i m).above

  pub stop_within : stop_of ds i ≤ length ds
  unfolding stop_of
  stop_within = (node_stands_lem sound i m).within

module _ {N : ℕ} {ds : List Node} (sound : Nested N ds) (e : ℕ) where
  -- what the scan from j gives is what f reads there, and then what it gives behind it
  Hits : (ℕ → Expr) → ℕ → Type 0
  Hits f j = (xs : List ℕ) → Aims ds e (stop_of ds j) xs → Aims ds e j (targets (f j) ++ xs)

  -- n children of node i, from c on
  hits_all : (f : ℕ → Expr) (i : ℕ) → ((c : ℕ) → i < c → c < stop_of ds i → Hits f c) → (n c : ℕ) → i < c → c ≤ length ds → Children ds (node_of ds i) c n
      → stop_of ds i ≤ length ds → (xs : List ℕ) → Aims ds e (stop_of ds i) xs → Aims ds e c (targets_among (exprs_from ds f n c) ++ xs)
  unfolding exprs_from targets stop_of Hits
  hits_all f i each zero c l m k t xs a = let p = children_end k in rw p a
  hits_all f i each (suc n) c l m k t xs a =
      let r = child k in
      let up = (node_stands_lem sound c (omega (arith, r.inside))).above in
      aims_is (sym (append_assoc (targets (f c)) _ xs))
      (each c l r.inside _ (hits_all f i each n (stop_of ds c) (omega arith) (node_stands_lem sound c (omega (arith, r.inside))).within r.rest t xs a))

  -- one level, the children being read by f
  hit_form : (f : ℕ → Expr) (j : ℕ) → j < length ds → stop_of ds j ≤ e → ((c : ℕ) → j < c → c < stop_of ds j → Hits f c) → (xs : List ℕ)
      → Aims ds e (stop_of ds j) xs → Aims ds e j (targets_in (form_at ds f j) ++ xs)
  unfolding targets stop_of
  hit_form f j m l each xs a =
      let s = node_stands_lem sound j m in
      let up : j < stop_of ds j = s.above in
      let inside : j < e = omega arith in
      elim (ℕ_discrete (node_of ds j).kind 21) [
        | yes v ↦ aims_is (ap (λ (g : Form). targets_in g ++ xs) (sym (variable_at ds f j v))) (aim_variable ds e j inside xs v up a)
        | no v ↦ elim (ℕ_discrete (node_of ds j).kind 28) [
          | yes t ↦ aims_is (ap (λ (g : Form). targets_in g ++ xs) (sym (tuple_at ds f j t)))
              (aim_tuple ds e j inside _ t (hits_all f j each (node_of ds j).children (suc j) (omega arith) (omega arith) (children sound j m) s.within xs a))
          | no t ↦ aims_is (ap (λ (ys : List ℕ). ys ++ xs) (sym (quiet_form ds f j v t))) (aim_other ds e j inside xs v t up a)
        ]
      ]

  hit : (d j : ℕ) → j < length ds → suc deepest ≤ depth j 0 ds + d → stop_of ds j ≤ e → Hits (λ i. expr_at ds d i) j
  unfolding Hits expr_at targets
  hit zero j m h l = absurd (omega (arith, sound.shallow j m))
  hit (suc d) j m h l =
      hit_form (λ i. expr_at ds d i) j m l
      (λ c p q. hit d c (omega (arith, stop_within sound j m)) (omega (arith, deeper sound j c p m q)) (omega (arith, within sound j c p m q)))

-- the scan of an Assign's target gives what the target may bind
target_scanned : {N : ℕ} {ds : List Node} → Nested N ds → (d j : ℕ) → j < length ds → suc deepest ≤ depth j 0 ds + d
    → scan_target ds (length ds) j (stop_of ds j) ≡ targets (expr_at ds d j)
unfolding Hits
target_scanned {N} {ds} sound d j m h =
    let e = stop_of ds j in
    (hit sound e d j m h (omega arith) [] (aim_end ds e e (omega arith))).gives (length ds) (omega (arith, stop_within sound j m)) ∙ append-nil _

-- ---- one step of the scan of the module, by a count that goes down

pub scan_end : (ds : List Node) (k i : ℕ) → length ds ≤ i → scan ds k i ≡ []
unfolding scan test◌then◌else◌
scan_end ds zero i h = refl
scan_end ds (suc k) i h = rw (le-ltb i (length ds) h)

pub scan_assign : (ds : List Node) (k i : ℕ) → 0 < k → i < length ds → (node_of ds i).kind ≡ 5
    → scan ds k i ≡ scan_target ds (length ds) (suc i) (stop_of ds (suc i)) ++ scan ds (k - 1) (stop_of ds i)
unfolding scan choose test◌then◌else◌
scan_assign ds zero i h l q = absurd (omega arith)
scan_assign ds (suc k) i h l q = rw (lt-ltb i (length ds) l, q, sub-one)

pub scan_for : (ds : List Node) (k i : ℕ) → 0 < k → i < length ds → (node_of ds i).kind ≡ 10 → scan ds k i ≡ (node_of ds i).arg ∷ scan ds (k - 1) (suc i)
unfolding scan choose test◌then◌else◌
scan_for ds zero i h l q = absurd (omega arith)
scan_for ds (suc k) i h l q = rw (lt-ltb i (length ds) l, q, sub-one)

-- If, While and Block are entered
pub data Enters : ℕ → Type 0 where
  an_if : Enters 8
  a_while : Enters 9
  a_block : Enters 12

pub scan_enter : (ds : List Node) (k i : ℕ) → 0 < k → i < length ds → {q : ℕ} → Enters q → (node_of ds i).kind ≡ q → scan ds k i ≡ scan ds (k - 1) (suc i)
unfolding scan choose test◌then◌else◌
scan_enter ds zero i h l t q = absurd (omega arith)
scan_enter ds (suc k) i h l an_if q = rw (lt-ltb i (length ds) l, q, sub-one)
scan_enter ds (suc k) i h l a_while q = rw (lt-ltb i (length ds) l, q, sub-one)
scan_enter ds (suc k) i h l a_block q = rw (lt-ltb i (length ds) l, q, sub-one)

-- and everything else is jumped over
pub record Jumped (q : ℕ) : Type 0 where
  pub no_assign : q ≡ 5 → ⊥
  pub no_if : q ≡ 8 → ⊥
  pub no_while : q ≡ 9 → ⊥
  pub no_for : q ≡ 10 → ⊥
  pub no_block : q ≡ 12 → ⊥

pub scan_over : (ds : List Node) (k i : ℕ) → 0 < k → i < length ds → Jumped (node_of ds i).kind → scan ds k i ≡ scan ds (k - 1) (stop_of ds i)
unfolding scan choose test◌then◌else◌
scan_over ds zero i h l q = absurd (omega arith)
scan_over ds (suc k) i h l q =
    rw (lt-ltb i (length ds) l, ne_eqb _ 5 q.no_assign, ne_eqb _ 8 q.no_if, ne_eqb _ 9 q.no_while, ne_eqb _ 10 q.no_for, ne_eqb _ 12 q.no_block, sub-one)

record Scans (ds : List Node) (i : ℕ) (xs : List ℕ) : Type 0 where
  gives : (k : ℕ) → length ds ≤ i + k → scan ds k i ≡ xs

scans_is : {ds : List Node} {i : ℕ} {xs ys : List ℕ} → xs ≡ ys → Scans ds i xs → Scans ds i ys
scans_is p a = record { gives = λ k h. a.gives k h ∙ p }

scans_end : (ds : List Node) (i : ℕ) → length ds ≤ i → Scans ds i []
scans_end ds i h = record { gives = λ n l. scan_end ds n i h }

module _ (ds : List Node) (i : ℕ) (inside : i < length ds) (xs : List ℕ) where
  scans_assign : (node_of ds i).kind ≡ 5 → i < stop_of ds i → Scans ds (stop_of ds i) xs → Scans ds i (scan_target ds (length ds) (suc i) (stop_of ds (suc i)) ++ xs)
  scans_assign q up a =
      record {
        gives = λ n l.
            scan_assign ds n i (omega arith) inside q ∙ ap (λ ys. scan_target ds (length ds) (suc i) (stop_of ds (suc i)) ++ ys) (a.gives (n - 1) (omega arith));
      }

  scans_for : (node_of ds i).kind ≡ 10 → Scans ds (suc i) xs → Scans ds i ((node_of ds i).arg ∷ xs)
  scans_for q a = record { gives = λ n l. scan_for ds n i (omega arith) inside q ∙ ap (λ ys. (node_of ds i).arg ∷ ys) (a.gives (n - 1) (omega arith)) }

  scans_enter : {q : ℕ} → Enters q → (node_of ds i).kind ≡ q → Scans ds (suc i) xs → Scans ds i xs
  scans_enter t q a = record { gives = λ n l. scan_enter ds n i (omega arith) inside t q ∙ a.gives (n - 1) (omega arith) }

  scans_over : Jumped (node_of ds i).kind → i < stop_of ds i → Scans ds (stop_of ds i) xs → Scans ds i xs
  scans_over q up a = record { gives = λ n l. scan_over ds n i (omega arith) inside q ∙ a.gives (n - 1) (omega arith) }

-- ---- who has business where

pub expression_high : (k : ℕ) → is_expression k ≡ true → 20 ≤ k
unfolding is_expression
expression_high k e = leb-true 20 k (and_left _ _ e)

pub statement_low : (k : ℕ) → is_statement k ≡ true → k ≤ 11
unfolding is_statement
statement_low k e = leb-true k 11 (and_right _ _ e)

pub block_below : (p c j k : ℕ) → p ≡ 12 → belongs p c j k ≡ true → is_statement k ≡ true
unfolding belongs choose test◌then◌else◌
block_below p c j k e b = rw e at b

pub if_condition : (p c j k : ℕ) → p ≡ 8 → j % 2 ≡ 0 → (j + 1 ≡ c → ⊥) → belongs p c j k ≡ true → is_expression k ≡ true
unfolding belongs choose test◌then◌else◌ ◌or◌
if_condition p c j k e o n b = rw (e, ne_eqb (j + 1) c n, o) at b

pub if_block : (p c j k : ℕ) → p ≡ 8 → j % 2 ≡ 1 → belongs p c j k ≡ true → k ≡ 12
unfolding belongs choose test◌then◌else◌ ◌or◌
if_block p c j k e o b = eqb-true k 12 (by (eqb (j + 1) c) refl)
  where
    by : (t : Bool) → eqb (j + 1) c ≡ t → eqb k 12 ≡ true
    by true q = rw (e, q) at b
    by false q = rw (e, q, o) at b

pub if_last : (p c j k : ℕ) → p ≡ 8 → j + 1 ≡ c → belongs p c j k ≡ true → k ≡ 12
unfolding belongs choose test◌then◌else◌ ◌or◌
if_last p c j k e l b = eqb-true k 12 (rw (e, eq-eqb (j + 1) c l) at b)

-- a While's children and a For's
pub data Loop : ℕ → Type 0 where
  the_while : Loop 9
  the_for : Loop 10

pub loop_condition : {p : ℕ} → Loop p → (k : ℕ) → belongs p 2 0 k ≡ true → is_expression k ≡ true
unfolding belongs choose test◌then◌else◌
loop_condition the_while k b = b
loop_condition the_for k b = b

pub loop_block : {p : ℕ} → Loop p → (k : ℕ) → belongs p 2 1 k ≡ true → k ≡ 12
unfolding belongs choose test◌then◌else◌
loop_block the_while k b = eqb-true k 12 b
loop_block the_for k b = eqb-true k 12 b

pub loop_two : {p : ℕ} → Loop p → (c : ℕ) → count_stands p c ≡ true → c ≡ 2
unfolding count_stands choose test◌then◌else◌
loop_two the_while c b = eqb-true c 2 b
loop_two the_for c b = eqb-true c 2 b

assign_two : (p c : ℕ) → p ≡ 5 → count_stands p c ≡ true → c ≡ 2
unfolding count_stands choose test◌then◌else◌
assign_two p c e b = eqb-true c 2 (rw e at b)

pub first_deep : (ds : List Node) → 0 < length ds → 0 < (node_of ds 0).stop → 1 ≤ depth 0 0 ds
unfolding depth node_of test◌then◌else◌ ◌and◌
first_deep [] m h = absurd (omega arith)
first_deep (d ∷ ds) m h = rw (lt-ltb 0 d.stop h) (omega arith)

-- ---- the statements, node by node

module _ {N : ℕ} {ds : List Node} (sound : Nested N ds) where
  -- an expression is jumped over
  past_expression : (c : ℕ) → c < length ds → is_expression (node_of ds c).kind ≡ true → (xs : List ℕ) → Scans ds (stop_of ds c) xs → Scans ds c xs
  past_expression c m e xs a =
      let high = expression_high _ e in
      scans_over ds c m xs
      (record { no_assign = λ p. omega arith; no_if = λ p. omega arith; no_while = λ p. omega arith; no_for = λ p. omega arith; no_block = λ p. omega arith })
      (stop_above sound c m) a

  -- what the scan from c gives is what is read there, and then what it gives behind it
  abbrev Statement : (ℕ → Stmt) → ℕ → Type 0
  Statement f c = (xs : List ℕ) → Scans ds (stop_of ds c) xs → Scans ds c (binds_by (f c) ++ xs)

  abbrev Body : (ℕ → Stmts) → ℕ → Type 0
  Body b c = (xs : List ℕ) → Scans ds (stop_of ds c) xs → Scans ds c (may_bind (b c) ++ xs)

  -- n statements of the Block at i, from c on
  statements : (f : ℕ → Stmt) (i : ℕ) → i < length ds → (node_of ds i).kind ≡ 12
      → ((c : ℕ) → i < c → c < stop_of ds i → is_statement (node_of ds c).kind ≡ true → Statement f c)
      → (n c : ℕ) → i < c → Children ds (node_of ds i) c n → (xs : List ℕ) → Scans ds (stop_of ds i) xs → Scans ds c (may_bind (stmts_from ds f n c) ++ xs)
  unfolding stmts_from may_bind stop_of
  statements f i m q each zero c l k xs a = let p = children_end k in rw p a
  statements f i m q each (suc n) c l k xs a =
      let r = child k in
      let w = stop_within sound i m in
      let up = stop_above sound c (omega (arith, r.inside)) in
      scans_is (sym (append_assoc (binds_by (f c)) _ xs))
      (each c l r.inside (block_below _ _ _ _ q r.business) _ (statements f i m q each n (stop_of ds c) (omega arith) r.rest xs a))

  -- n children of the If at i, from c on
  branches_scanned : (e : ℕ → Expr) (b : ℕ → Stmts) (i : ℕ) → i < length ds → (node_of ds i).kind ≡ 8
      → ((c : ℕ) → i < c → c < stop_of ds i → (node_of ds c).kind ≡ 12 → Body b c)
      → (n c : ℕ) → i < c → Children ds (node_of ds i) c n → n ≤ (node_of ds i).children → ((node_of ds i).children - n) % 2 ≡ 0
      → (xs : List ℕ) → Scans ds (stop_of ds i) xs → Scans ds c (binds_among (arms_from ds e b n c) ++ xs)
  unfolding arms_from may_bind stop_of
  branches_scanned e b i m q each zero c l k h o xs a = let p = children_end k in rw p a
  branches_scanned e b i m q each (suc zero) c l k h o xs a =
      let r = child k in
      let p = children_end r.rest in
      scans_is (ap (λ (ys : List ℕ). ys ++ xs) (sym (append-nil (may_bind (b c))))) (each c l r.inside (if_last _ _ _ _ q (omega arith) r.business) xs (rw p a))
  branches_scanned e b i m q each (suc (suc n)) c l k h o xs a =
      let r = child k in
      let w = stop_within sound i m in
      let up = stop_above sound c (omega (arith, r.inside)) in
      let t = child r.rest in
      let above = stop_above sound (stop_of ds c) (omega (arith, t.inside)) in
      past_expression c (omega (arith, r.inside)) (if_condition _ _ _ _ q o (λ z. omega arith) r.business) _
      (scans_is (sym (append_assoc (may_bind (b (stop_of ds c))) _ xs))
      (each (stop_of ds c) (omega arith) t.inside (if_block _ _ _ _ q (omega arith) t.business) _
      (branches_scanned e b i m q each n (stop_of ds (stop_of ds c)) (omega arith) t.rest (omega arith) (omega arith) xs a)))

  -- the condition or iterable, and then the Block, of the While or For at i
  loop_scanned : (b : ℕ → Stmts) (i : ℕ) → i < length ds → Loop (node_of ds i).kind
      → ((c : ℕ) → i < c → c < stop_of ds i → (node_of ds c).kind ≡ 12 → Body b c)
      → (xs : List ℕ) → Scans ds (stop_of ds i) xs → Scans ds (suc i) (may_bind (b (stop_of ds (suc i))) ++ xs)
  unfolding stop_of
  loop_scanned b i m q each xs a =
      let two = loop_two q (node_of ds i).children (node_stands_lem sound i m).count in
      let first = child (rw two at (children sound i m)) in
      let w = stop_within sound i m in
      let up = stop_above sound (suc i) (omega (arith, first.inside)) in
      let second = child first.rest in
      let p = children_end second.rest in
      past_expression (suc i) (omega (arith, first.inside)) (loop_condition q _ first.business) _
      (each (stop_of ds (suc i)) (omega arith) second.inside (loop_block q _ second.business) xs (rw p a))

  -- an Assign's target lies inside it
  pub target_inside : (i : ℕ) → i < length ds → (node_of ds i).kind ≡ 5 → suc i < stop_of ds i
  unfolding stop_of
  target_inside i m q =
      let two = assign_two _ (node_of ds i).children q (node_stands_lem sound i m).count in
      (child (rw two at (children sound i m))).inside

  -- ---- at most so deep: what a statement and a Block may bind is what the scan gives

  abbrev StatementsAt : ℕ → Type 0
  StatementsAt d = (c : ℕ) → c < length ds → is_statement (node_of ds c).kind ≡ true → suc deepest ≤ depth c 0 ds + d → Statement (λ j. stmt_at ds d j) c

  abbrev BodiesAt : ℕ → Type 0
  BodiesAt d = (c : ℕ) → c < length ds → (node_of ds c).kind ≡ 12 → suc deepest ≤ depth c 0 ds + d → Body (λ j. block_at ds d j) c

  statement_scanned : (d : ℕ) → BodiesAt d → StatementsAt (suc d)
  unfolding stmt_at may_bind
  statement_scanned d bodies i m q h xs a =
      let e : ℕ → Expr = λ j. expr_at ds d j in
      let b : ℕ → Stmts = λ j. block_at ds d j in
      let w = stop_within sound i m in
      let each : (c : ℕ) → i < c → c < stop_of ds i → (node_of ds c).kind ≡ 12 → Body b c =
      λ c l k z. bodies c (omega arith) z (omega (arith, deeper sound i c l m k)) in
      elim (ℕ_discrete (node_of ds i).kind 5) [
        | yes k ↦ scans_is (ap (λ (x : Act). binds_in x ++ xs) (sym (assign_at ds e b i k)))
            (scans_is (ap (λ (ys : List ℕ). ys ++ xs) (target_scanned sound d (suc i) (omega (arith, target_inside i m k)) (omega (arith, deeper sound i (suc i) (omega arith) m (target_inside i m k)))))
            (scans_assign ds i m xs k (stop_above sound i m) a))
        | no n5 ↦ elim (ℕ_discrete (node_of ds i).kind 8) [
          | yes k ↦ scans_is (ap (λ (x : Act). binds_in x ++ xs) (sym (if_at ds e b i k)))
              (scans_enter ds i m _ an_if k (branches_scanned e b i m k each (node_of ds i).children (suc i) (omega arith) (children sound i m) (omega arith) (omega arith) xs a))
          | no n8 ↦ elim (ℕ_discrete (node_of ds i).kind 9) [
            | yes k ↦ scans_is (ap (λ (x : Act). binds_in x ++ xs) (sym (while_at ds e b i k)))
                (scans_enter ds i m _ a_while k (loop_scanned b i m (subst Loop (sym k) the_while) each xs a))
            | no n9 ↦ elim (ℕ_discrete (node_of ds i).kind 10) [
              | yes k ↦ scans_is (ap (λ (x : Act). binds_in x ++ xs) (sym (for_at ds e b i k)))
                  (scans_for ds i m _ k (loop_scanned b i m (subst Loop (sym k) the_for) each xs a))
              | no n10 ↦ scans_is (ap (λ (ys : List ℕ). ys ++ xs) (sym (quiet_act ds e b i n5 n8 n9 n10)))
                  (scans_over ds i m xs
                  (record { no_assign = n5; no_if = n8; no_while = n9; no_for = n10; no_block = λ z. omega (arith, statement_low _ q) })
                  (stop_above sound i m) a)
            ]
          ]
        ]
      ]

  body_scanned : (d : ℕ) → StatementsAt d → BodiesAt (suc d)
  unfolding stmt_at
  body_scanned d each i m q h xs a =
      let w = stop_within sound i m in
      scans_enter ds i m _ a_block q
      (statements (λ j. stmt_at ds d j) i m q (λ c l k z. each c (omega arith) z (omega (arith, deeper sound i c l m k))) (node_of ds i).children (suc i) (omega arith)
      (children sound i m) xs a)

  all_scanned : (d : ℕ) → StatementsAt d × BodiesAt d
  all_scanned zero = (λ c m q h. absurd (omega (arith, sound.shallow c m)), λ c m q h. absurd (omega (arith, sound.shallow c m)))
  all_scanned (suc d) = let below = all_scanned d in (statement_scanned d below.1, body_scanned d below.0)

  -- the module: "Node 0 is a Block ending at M"
  module_scanned : 0 < length ds → Scans ds 0 (may_bind (tree_of ds))
  unfolding tree_of stop_of
  module_scanned m =
      let r = root sound m in
      scans_is (append-nil _)
      ((all_scanned deepest).1 0 m r.0 (omega (arith, first_deep ds m (node_stands_lem sound 0 m).above)) [] (scans_end ds (stop_of ds 0) (omega (arith, r.1))))

-- ---- in a sound image the scan from node 0 gives what the module may bind, name by name in program order

scanned : {bs : List ℕ} → Sound bs → Scans (nodes_of bs) 0 (may_bind (tree_of (nodes_of bs)))
scanned {bs} s = module_scanned (sound_nested s) (omega (arith, nodes_many bs, (sizes s.headed).one_node))

pub scan_bound : {bs : List ℕ} → Sound bs → (k : ℕ) → node_count bs ≤ k → scan (nodes_of bs) k 0 ≡ may_bind (tree_of (nodes_of bs))
scan_bound {bs} s k h = (scanned s).gives k (omega (arith, nodes_many bs))

-- ---- what may be bound is a name of the image

-- each of them is below N
data Under (N : ℕ) : List ℕ → Type 0 where
  none_under : Under N []
  one_under : {x : ℕ} {xs : List ℕ} → x < N → Under N xs → Under N (x ∷ xs)

under_append : {N : ℕ} {xs ys : List ℕ} → Under N xs → Under N ys → Under N (xs ++ ys)
under_append none_under b = b
under_append (one_under h a) b = one_under h (under_append a b)

under_each : {N : ℕ} {xs : List ℕ} → Under N xs → (x : ℕ) → Memᴰ x xs → x < N
under_each none_under x m = absurd (Memᴰ.not-nil m)
under_each (one_under h a) x m = ⊎_elim (λ e. rw e h) (λ r. under_each a x r) (Memᴰ.cases_cons m)

under_if : {N : ℕ} (b : Bool) (xs ys : List ℕ) → (b ≡ true → Under N xs) → Under N ys → Under N (test b then xs else ys)
unfolding test◌then◌else◌
under_if true xs ys f g = f refl
under_if false xs ys f g = g

-- a row is looked at only where its number is k
UnderRows : ℕ → ℕ → List (ℕ × List ℕ) → Type 0
UnderRows N k [] = Unit {0}
UnderRows N k (r ∷ rs) = (k ≡ r.0 → Under N r.1) × UnderRows N k rs

under_choose : {N : ℕ} (k : ℕ) (xs : List ℕ) (rs : List (ℕ × List ℕ)) → Under N xs → UnderRows N k rs → Under N (choose k xs rs)
unfolding choose UnderRows
under_choose k xs [] a b = a
under_choose k xs (r ∷ rs) a b = under_if _ _ _ (λ e. b.0 (eqb-true k r.0 e)) (under_choose k xs rs a b.1)

variable_arg : (N k a : ℕ) → k ≡ 21 → a < arg_below N k → a < N
unfolding arg_below choose test◌then◌else◌
variable_arg N k a e h = rw e at h

for_arg : (N k a : ℕ) → k ≡ 10 → a < arg_below N k → a < N
unfolding arg_below choose test◌then◌else◌
for_arg N k a e h = rw e at h

module _ {N : ℕ} {ds : List Node} (sound : Nested N ds) where
  -- the name of a Variable, and of a For
  pub variable_named : (j : ℕ) → j < length ds → (node_of ds j).kind ≡ 21 → (node_of ds j).arg < N
  variable_named j m q = variable_arg N _ _ q (node_stands_lem sound j m).arg

  pub for_named : (i : ℕ) → i < length ds → (node_of ds i).kind ≡ 10 → (node_of ds i).arg < N
  for_named i m q = for_arg N _ _ q (node_stands_lem sound i m).arg

  target_under : (k j e : ℕ) → e ≤ length ds → Under N (scan_target ds k j e)
  unfolding scan_target UnderRows
  target_under zero j e h = none_under
  target_under (suc k) j e h =
      let over = target_under k (stop_of ds j) e h in
      under_if _ _ _
      (λ t. under_choose _ _ _ over
      (λ q. one_under (variable_named j (omega (arith, ltb-true j e t)) q) over, (λ q. target_under k (suc j) e h, tt)))
      none_under

  node_under : (i : ℕ) → i < length ds → (over inner : List ℕ) → Under N over → Under N inner
      → Under N
      (choose (node_of ds i).kind over
      ((5, scan_target ds (length ds) (suc i) (stop_of ds (suc i)) ++ over) ∷ (8, inner) ∷ (9, inner) ∷ (10, (node_of ds i).arg ∷ inner) ∷ (12, inner) ∷ []))
  unfolding UnderRows
  node_under i m over inner a b =
      under_choose (node_of ds i).kind over _ a (
        λ q. under_append
            (target_under (length ds) (suc i) (stop_of ds (suc i)) (stop_within sound (suc i) (omega (arith, target_inside sound i m q, stop_within sound i m))))
            a,
        (λ q. b, (λ q. b, (λ q. one_under (for_named i m q) b, (λ q. b, tt)))),
      )

  scan_under : (k i : ℕ) → Under N (scan ds k i)
  unfolding scan
  scan_under zero i = none_under
  scan_under (suc k) i =
      under_if (ltb i (length ds)) _ [] (λ t. node_under i (ltb-true i (length ds) t) _ _ (scan_under k (stop_of ds i)) (scan_under k (suc i))) none_under

names_under : {bs : List ℕ} → Sound bs → Under (name_count bs) (may_bind (tree_of (nodes_of bs)))
names_under {bs} s = rw (scan_bound s (node_count bs) (omega arith)) at (scan_under (sound_nested s) (node_count bs) 0)

pub bound_named : {bs : List ℕ} → Sound bs → (x : ℕ) → Memᴰ x (may_bind (tree_of (nodes_of bs))) → x < name_count bs
bound_named s x m = under_each (names_under s) x m
