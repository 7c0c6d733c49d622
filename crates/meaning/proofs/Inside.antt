-- The flat form of the Defs that stand inside an If, for code: the nodes in order, with no recursion over the tree. All that is carried along
-- is where the outermost If ends that the node at hand stands in. If, While, For, Def and Block are entered, and everything else is jumped
-- over. In a sound image this gives the very list that the definition over the tree gives.
use mathlib.Core.Path.{◌≡◌, refl, ◌∙◌, ap, sym, subst}
use mathlib.Core.Bool.{Bool, true, false}
use mathlib.Core.List.{List, [], ◌∷◌, ◌++◌, append_assoc, append-nil}
use Prim.Native.Nat.{ℕ, zero, suc, ◌+◌, ◌-◌, ◌%◌, ◌≤◌, ◌<◌}
use native.Mathlib.Numerals.{sub-one}
use native.Mathlib.Omega.{arith}
use native.Mathlib.Decide.{ℕ_discrete, dec_lt}
use borrow.Author.Tests.{leb-true, lt-ltb, le-ltb, eqb-true, eq-eqb, ne_eqb}
use lib.Dec.{ltb}
use lib.ListN.{length}
use Rattle.meaning.specs.Limits.{deepest}
use Rattle.meaning.specs.Base.{test◌then◌else◌, choose}
use Rattle.meaning.specs.Tree.{Expr, Stmt, Act, pass, Stmts}
use Rattle.meaning.specs.Image.{Node, node_of, nodes_of, node_count, is_statement, is_expression, count_stands, belongs, depth}
use Rattle.meaning.specs.Decode.{stop_of, past, stmts_from, arms_from, expr_at, act_at, stmt_at, block_at, tree_of}
use Rattle.meaning.specs.Known.{defs_in, defs_by, defs_of, defs_among, defs_in_ifs}
use Rattle.meaning.proofs.Faults.{Sound, sizes}
use Rattle.meaning.proofs.Nesting.{Nested, nodes_many, sound_nested, node_stands_lem, Children, children, children_end, children_le, child, root, deeper}
use Rattle.meaning.proofs.Decoding.{if_at, while_at, for_at, def_at}
use Rattle.meaning.proofs.Scan.{no_rows, another, nothing, quiet, stop_above, stop_within, expression_high, statement_low, block_below, if_condition, if_block, if_last, Loop, the_while, the_for, loop_condition, loop_block, loop_two, first_deep}

-- ---- the scan; k bounds the steps

-- where the outermost If ends that an If's own nodes stand in: node i is that If, and a node below `until` stands inside one already
unfoldable pub ending : List Node → ℕ → ℕ → ℕ
ending ds i until = test ltb i until then until else stop_of ds i

-- a Def itself, if it stands inside an If
unfoldable pub itself : ℕ → ℕ → List ℕ
itself i until = test ltb i until then i ∷ [] else []

-- the nodes from i on; those below `until` stand inside an If
unfoldable pub scan_defs : List Node → ℕ → ℕ → ℕ → List ℕ
scan_defs ds zero i until = []
scan_defs ds (suc k) i until =
    let inner : List ℕ = scan_defs ds k (suc i) until in
    let under : List ℕ = scan_defs ds k (suc i) (ending ds i until) in
    let over : List ℕ = scan_defs ds k (stop_of ds i) until in
    test ltb i (length ds)
    then choose (node_of ds i).kind over ((8, under) ∷ (9, inner) ∷ (10, inner) ∷ (11, itself i until ++ inner) ∷ (12, inner) ∷ [])
    else []

pub ending_inside : (ds : List Node) (i until : ℕ) → i < until → ending ds i until ≡ until
unfolding ending test◌then◌else◌
ending_inside ds i until h = rw (lt-ltb i until h)

pub ending_outside : (ds : List Node) (i until : ℕ) → until ≤ i → ending ds i until ≡ stop_of ds i
unfolding ending test◌then◌else◌
ending_outside ds i until h = rw (le-ltb i until h)

pub itself_inside : (i until : ℕ) → i < until → itself i until ≡ i ∷ []
unfolding itself test◌then◌else◌
itself_inside i until h = rw (lt-ltb i until h)

pub itself_outside : (i until : ℕ) → until ≤ i → itself i until ≡ []
unfolding itself test◌then◌else◌
itself_outside i until h = rw (le-ltb i until h)

-- ---- one step of the scan, by a count that goes down

pub defs_end : (ds : List Node) (k i until : ℕ) → length ds ≤ i → scan_defs ds k i until ≡ []
unfolding scan_defs test◌then◌else◌
defs_end ds zero i until h = refl
defs_end ds (suc k) i until h = rw (le-ltb i (length ds) h)

pub defs_if : (ds : List Node) (k i until : ℕ) → 0 < k → i < length ds → (node_of ds i).kind ≡ 8
    → scan_defs ds k i until ≡ scan_defs ds (k - 1) (suc i) (ending ds i until)
unfolding scan_defs choose test◌then◌else◌
defs_if ds zero i until h l q = absurd (omega arith)
defs_if ds (suc k) i until h l q = rw (lt-ltb i (length ds) l, q, sub-one)

pub defs_def : (ds : List Node) (k i until : ℕ) → 0 < k → i < length ds → (node_of ds i).kind ≡ 11
    → scan_defs ds k i until ≡ itself i until ++ scan_defs ds (k - 1) (suc i) until
unfolding scan_defs choose test◌then◌else◌
defs_def ds zero i until h l q = absurd (omega arith)
defs_def ds (suc k) i until h l q = rw (lt-ltb i (length ds) l, q, sub-one)

-- While, For and Block are entered
pub data Opens : ℕ → Type 0 where
  opens_while : Opens 9
  opens_for : Opens 10
  opens_block : Opens 12

pub defs_enter : (ds : List Node) (k i until : ℕ) → 0 < k → i < length ds → {q : ℕ} → Opens q → (node_of ds i).kind ≡ q
    → scan_defs ds k i until ≡ scan_defs ds (k - 1) (suc i) until
unfolding scan_defs choose test◌then◌else◌
defs_enter ds zero i until h l t q = absurd (omega arith)
defs_enter ds (suc k) i until h l opens_while q = rw (lt-ltb i (length ds) l, q, sub-one)
defs_enter ds (suc k) i until h l opens_for q = rw (lt-ltb i (length ds) l, q, sub-one)
defs_enter ds (suc k) i until h l opens_block q = rw (lt-ltb i (length ds) l, q, sub-one)

-- and everything else is jumped over
pub record Closed (q : ℕ) : Type 0 where
  pub no_if : q ≡ 8 → ⊥
  pub no_while : q ≡ 9 → ⊥
  pub no_for : q ≡ 10 → ⊥
  pub no_def : q ≡ 11 → ⊥
  pub no_block : q ≡ 12 → ⊥

pub defs_over : (ds : List Node) (k i until : ℕ) → 0 < k → i < length ds → Closed (node_of ds i).kind
    → scan_defs ds k i until ≡ scan_defs ds (k - 1) (stop_of ds i) until
unfolding scan_defs choose test◌then◌else◌
defs_over ds zero i until h l q = absurd (omega arith)
defs_over ds (suc k) i until h l q =
    rw (lt-ltb i (length ds) l, ne_eqb _ 8 q.no_if, ne_eqb _ 9 q.no_while, ne_eqb _ 10 q.no_for, ne_eqb _ 11 q.no_def, ne_eqb _ 12 q.no_block, sub-one)

-- from i on it gives xs, however many steps are left, if they are enough
record Scans (ds : List Node) (i until : ℕ) (xs : List ℕ) : Type 0 where
  gives : (k : ℕ) → length ds ≤ i + k → scan_defs ds k i until ≡ xs

scans_is : {ds : List Node} {i until : ℕ} {xs ys : List ℕ} → xs ≡ ys → Scans ds i until xs → Scans ds i until ys
scans_is p a = record { gives = λ k h. a.gives k h ∙ p }

scans_end : (ds : List Node) (i until : ℕ) → length ds ≤ i → Scans ds i until []
scans_end ds i until h = record { gives = λ n l. defs_end ds n i until h }

module _ (ds : List Node) (i until : ℕ) (inside : i < length ds) (xs : List ℕ) where
  scans_if : (node_of ds i).kind ≡ 8 → Scans ds (suc i) (ending ds i until) xs → Scans ds i until xs
  scans_if q a = record { gives = λ n l. defs_if ds n i until (omega arith) inside q ∙ a.gives (n - 1) (omega arith) }

  scans_def : (node_of ds i).kind ≡ 11 → Scans ds (suc i) until xs → Scans ds i until (itself i until ++ xs)
  scans_def q a =
      record { gives = λ n l. defs_def ds n i until (omega arith) inside q ∙ ap (λ ys. itself i until ++ ys) (a.gives (n - 1) (omega arith)) }

  scans_enter : {q : ℕ} → Opens q → (node_of ds i).kind ≡ q → Scans ds (suc i) until xs → Scans ds i until xs
  scans_enter t q a = record { gives = λ n l. defs_enter ds n i until (omega arith) inside t q ∙ a.gives (n - 1) (omega arith) }

  scans_over : Closed (node_of ds i).kind → i < stop_of ds i → Scans ds (stop_of ds i) until xs → Scans ds i until xs
  scans_over q up a = record { gives = λ n l. defs_over ds n i until (omega arith) inside q ∙ a.gives (n - 1) (omega arith) }

-- ---- who has business below a Def: Params, and last a Block

def_param : (p c j k : ℕ) → p ≡ 11 → (j + 1 ≡ c → ⊥) → belongs p c j k ≡ true → k ≡ 13
unfolding belongs choose test◌then◌else◌
def_param p c j k e n b = eqb-true k 13 (rw (e, ne_eqb (j + 1) c n) at b)

def_block : (p c j k : ℕ) → p ≡ 11 → j + 1 ≡ c → belongs p c j k ≡ true → k ≡ 12
unfolding belongs choose test◌then◌else◌
def_block p c j k e l b = eqb-true k 12 (rw (e, eq-eqb (j + 1) c l) at b)

def_some : (p c : ℕ) → p ≡ 11 → count_stands p c ≡ true → 1 ≤ c
unfolding count_stands choose test◌then◌else◌
def_some p c e b = leb-true 1 c (rw e at b)

-- a statement that is neither If, While, For nor Def has no Def in it
quiet_act : (ds : List Node) (e : ℕ → Expr) (b : ℕ → Stmts) (inside : Bool) (i : ℕ) → ((node_of ds i).kind ≡ 8 → ⊥) → ((node_of ds i).kind ≡ 9 → ⊥)
    → ((node_of ds i).kind ≡ 10 → ⊥) → ((node_of ds i).kind ≡ 11 → ⊥) → defs_of inside i (act_at ds e b i) ≡ []
unfolding act_at defs_in
quiet_act ds e b inside i n8 n9 n10 n11 =
    quiet (defs_of inside i) (node_of ds i).kind pass _ refl
    (nothing refl (nothing refl (nothing refl (nothing refl (nothing refl (nothing refl (nothing refl (another n8 (another n9 (another n10 (another n11 no_rows)))))))))))

-- ---- the nodes c to e - 1 stand inside an If that ends no earlier; or the last If has ended

data Stands (until : ℕ) : Bool → ℕ → ℕ → Type 0 where
  in_if : {c e : ℕ} → e ≤ until → Stands until true c e
  in_none : {c e : ℕ} → until ≤ c → Stands until false c e

-- and so do some of them
narrower : {until c e : ℕ} {inside : Bool} → Stands until inside c e → (b f : ℕ) → c ≤ b → f ≤ e → Stands until inside b f
narrower {until} (in_if h) b f l m = let k : f ≤ until = omega arith in in_if k
narrower {until} (in_none h) b f l m = let k : until ≤ b = omega arith in in_none k

itself_is : {until e : ℕ} {inside : Bool} (i : ℕ) → Stands until inside i e → i < e → itself i until ≡ (test inside then i ∷ [] else [])
unfolding test◌then◌else◌
itself_is i (in_if h) l = itself_inside i _ (omega arith)
itself_is i (in_none h) l = itself_outside i _ h

-- ---- the statements, node by node

module _ {N : ℕ} {ds : List Node} (sound : Nested N ds) where
  -- once the last If has ended, it does not matter where that was
  outside : (k i u v : ℕ) → u ≤ i → v ≤ i → scan_defs ds k i u ≡ scan_defs ds k i v
  unfolding scan_defs test◌then◌else◌
  outside zero i u v h g = refl
  outside (suc k) i u v h g = elim (dec_lt i (length ds)) [
    | yes m ↦ let up = stop_above sound i m in
        let inner = outside k (suc i) u v (omega arith) (omega arith) in
        let over = outside k (stop_of ds i) u v (omega arith) (omega arith) in
        rw (ending_outside ds i u h, ending_outside ds i v g, itself_outside i u h, itself_outside i v g, inner, over)
    | no n ↦ defs_end ds (suc k) i u (omega arith) ∙ sym (defs_end ds (suc k) i v (omega arith))
  ]

  scans_outside : {i u v : ℕ} {xs : List ℕ} → u ≤ i → v ≤ i → Scans ds i u xs → Scans ds i v xs
  scans_outside {i} {u} {v} h g a = record { gives = λ k l. outside k i v u g h ∙ a.gives k l }

  -- a Param is jumped over, and so is an expression
  past_param : (c until : ℕ) → c < length ds → 13 ≤ (node_of ds c).kind → (xs : List ℕ) → Scans ds (stop_of ds c) until xs → Scans ds c until xs
  past_param c until m high xs a =
      scans_over ds c until m xs
      (record { no_if = λ p. omega arith; no_while = λ p. omega arith; no_for = λ p. omega arith; no_def = λ p. omega arith; no_block = λ p. omega arith })
      (stop_above sound c m) a

  past_expression : (c until : ℕ) → c < length ds → is_expression (node_of ds c).kind ≡ true → (xs : List ℕ) → Scans ds (stop_of ds c) until xs → Scans ds c until xs
  past_expression c until m e xs a = past_param c until m (omega (arith, expression_high _ e)) xs a

  -- what the scan from c gives is what is read there, and then what it gives behind it
  abbrev Statement : Bool → (ℕ → Stmt) → ℕ → Type 0
  Statement inside f c =
      (until : ℕ) → Stands until inside c (stop_of ds c) → (xs : List ℕ) → Scans ds (stop_of ds c) until xs → Scans ds c until (defs_by inside (f c) ++ xs)

  abbrev Body : Bool → (ℕ → Stmts) → ℕ → Type 0
  Body inside b c =
      (until : ℕ) → Stands until inside c (stop_of ds c) → (xs : List ℕ) → Scans ds (stop_of ds c) until xs → Scans ds c until (defs_in inside (b c) ++ xs)

  -- n statements of the Block at i, from c on
  statements : (inside : Bool) (f : ℕ → Stmt) (i : ℕ) → i < length ds → (node_of ds i).kind ≡ 12
      → ((c : ℕ) → i < c → c < stop_of ds i → is_statement (node_of ds c).kind ≡ true → Statement inside f c)
      → (n c : ℕ) → i < c → Children ds (node_of ds i) c n → (until : ℕ) → Stands until inside c (stop_of ds i) → (xs : List ℕ) → Scans ds (stop_of ds i) until xs
      → Scans ds c until (defs_in inside (stmts_from ds f n c) ++ xs)
  unfolding stmts_from defs_in stop_of
  statements inside f i m q each zero c l k until s xs a = let p = children_end k in rw p a
  statements inside f i m q each (suc n) c l k until s xs a =
      let r = child k in
      let w = stop_within sound i m in
      let up = stop_above sound c (omega (arith, r.inside)) in
      let down = children_le n r.rest in
      scans_is (sym (append_assoc (defs_by inside (f c)) _ xs))
      (each c l r.inside (block_below _ _ _ _ q r.business) until (narrower s c (stop_of ds c) (omega arith) (omega arith)) _
      (statements inside f i m q each n (stop_of ds c) (omega arith) r.rest until (narrower s (stop_of ds c) (stop_of ds i) (omega arith) (omega arith)) xs a))

  -- n children of the If at i, from c on
  branches_scanned : (e : ℕ → Expr) (b : ℕ → Stmts) (i : ℕ) → i < length ds → (node_of ds i).kind ≡ 8
      → ((c : ℕ) → i < c → c < stop_of ds i → (node_of ds c).kind ≡ 12 → Body true b c)
      → (n c : ℕ) → i < c → Children ds (node_of ds i) c n → n ≤ (node_of ds i).children → ((node_of ds i).children - n) % 2 ≡ 0
      → (until : ℕ) → stop_of ds i ≤ until → (xs : List ℕ) → Scans ds (stop_of ds i) until xs → Scans ds c until (defs_among (arms_from ds e b n c) ++ xs)
  unfolding arms_from defs_in stop_of
  branches_scanned e b i m q each zero c l k h o until s xs a = let p = children_end k in rw p a
  branches_scanned e b i m q each (suc zero) c l k h o until s xs a =
      let r = child k in
      let p = children_end r.rest in
      scans_is (ap (λ (ys : List ℕ). ys ++ xs) (sym (append-nil (defs_in true (b c)))))
      (each c l r.inside (if_last _ _ _ _ q (omega arith) r.business) until (in_if (omega arith)) xs (rw p a))
  branches_scanned e b i m q each (suc (suc n)) c l k h o until s xs a =
      let r = child k in
      let w = stop_within sound i m in
      let up = stop_above sound c (omega (arith, r.inside)) in
      let t = child r.rest in
      let above = stop_above sound (stop_of ds c) (omega (arith, t.inside)) in
      let down = children_le n t.rest in
      past_expression c until (omega (arith, r.inside)) (if_condition _ _ _ _ q o (λ z. omega arith) r.business) _
      (scans_is (sym (append_assoc (defs_in true (b (stop_of ds c))) _ xs))
      (each (stop_of ds c) (omega arith) t.inside (if_block _ _ _ _ q (omega arith) t.business) until (in_if (omega arith)) _
      (branches_scanned e b i m q each n (stop_of ds (stop_of ds c)) (omega arith) t.rest (omega arith) (omega arith) until s xs a)))

  -- the If at i
  if_scanned : (inside : Bool) (e : ℕ → Expr) (b : ℕ → Stmts) (i : ℕ) → i < length ds → (node_of ds i).kind ≡ 8
      → ((c : ℕ) → i < c → c < stop_of ds i → (node_of ds c).kind ≡ 12 → Body true b c)
      → (until : ℕ) → Stands until inside i (stop_of ds i) → (xs : List ℕ) → Scans ds (stop_of ds i) until xs
      → Scans ds i until (defs_among (arms_from ds e b (node_of ds i).children (suc i)) ++ xs)
  if_scanned inside e b i m q each until s xs a = scans_if ds i until m _ q (enter s)
    where
      up : i < stop_of ds i
      up = stop_above sound i m

      branches : (u : ℕ) → stop_of ds i ≤ u → Scans ds (stop_of ds i) u xs → Scans ds (suc i) u (defs_among (arms_from ds e b (node_of ds i).children (suc i)) ++ xs)
      branches u h g = branches_scanned e b i m q each (node_of ds i).children (suc i) (omega arith) (children sound i m) (omega arith) (omega arith) u h xs g

      enter : {t : Bool} → Stands until t i (stop_of ds i) → Scans ds (suc i) (ending ds i until) (defs_among (arms_from ds e b (node_of ds i).children (suc i)) ++ xs)
      enter (in_if h) = rw (ending_inside ds i until (omega (arith, up))) (branches until h a)
      enter (in_none h) = rw (ending_outside ds i until h) (branches (stop_of ds i) (omega arith) (scans_outside (omega (arith, up)) (omega arith) a))

  -- the condition or iterable, and then the Block, of the While or For at i
  loop_scanned : (inside : Bool) (b : ℕ → Stmts) (i : ℕ) → i < length ds → Loop (node_of ds i).kind
      → ((c : ℕ) → i < c → c < stop_of ds i → (node_of ds c).kind ≡ 12 → Body inside b c)
      → (until : ℕ) → Stands until inside i (stop_of ds i) → (xs : List ℕ) → Scans ds (stop_of ds i) until xs
      → Scans ds (suc i) until (defs_in inside (b (stop_of ds (suc i))) ++ xs)
  unfolding stop_of
  loop_scanned inside b i m q each until s xs a =
      let two = loop_two q (node_of ds i).children (node_stands_lem sound i m).count in
      let first = child (rw two at (children sound i m)) in
      let w = stop_within sound i m in
      let up = stop_above sound (suc i) (omega (arith, first.inside)) in
      let second = child first.rest in
      let p = children_end second.rest in
      past_expression (suc i) until (omega (arith, first.inside)) (loop_condition q _ first.business) _
      (each (stop_of ds (suc i)) (omega arith) second.inside (loop_block q _ second.business) until (narrower s _ _ (omega arith) (omega arith)) xs (rw p a))

  -- n Params of the Def at i, from c on, and then its Block
  params_scanned : (inside : Bool) (b : ℕ → Stmts) (i : ℕ) → i < length ds → (node_of ds i).kind ≡ 11
      → ((c : ℕ) → i < c → c < stop_of ds i → (node_of ds c).kind ≡ 12 → Body inside b c)
      → (n c : ℕ) → i < c → Children ds (node_of ds i) c (suc n) → suc n ≤ (node_of ds i).children
      → (until : ℕ) → Stands until inside i (stop_of ds i) → (xs : List ℕ) → Scans ds (stop_of ds i) until xs
      → Scans ds c until (defs_in inside (b (past ds n c)) ++ xs)
  unfolding past stop_of
  params_scanned inside b i m q each zero c l k h until s xs a =
      let r = child k in
      let p = children_end r.rest in
      each c l r.inside (def_block _ _ _ _ q (omega arith) r.business) until (narrower s _ _ (omega arith) (omega arith)) xs (rw p a)
  params_scanned inside b i m q each (suc n) c l k h until s xs a =
      let r = child k in
      let w = stop_within sound i m in
      let up = stop_above sound c (omega (arith, r.inside)) in
      past_param c until (omega (arith, r.inside)) (omega (arith, def_param _ _ _ _ q (λ z. omega arith) r.business)) _
      (params_scanned inside b i m q each n (stop_of ds c) (omega arith) r.rest (omega arith) until s xs a)

  -- the Def at i: itself, and then its Block
  def_scanned : (inside : Bool) (b : ℕ → Stmts) (i : ℕ) → i < length ds → (node_of ds i).kind ≡ 11
      → ((c : ℕ) → i < c → c < stop_of ds i → (node_of ds c).kind ≡ 12 → Body inside b c)
      → (until : ℕ) → Stands until inside i (stop_of ds i) → (xs : List ℕ) → Scans ds (stop_of ds i) until xs
      → Scans ds i until ((test inside then i ∷ [] else []) ++ (defs_in inside (b (past ds ((node_of ds i).children - 1) (suc i))) ++ xs))
  def_scanned inside b i m q each until s xs a =
      let some : 1 ≤ (node_of ds i).children = def_some _ _ q (node_stands_lem sound i m).count in
      let n : ℕ = (node_of ds i).children - 1 in
      let all : (node_of ds i).children ≡ suc n = omega arith in
      scans_is (ap (λ (ys : List ℕ). ys ++ (defs_in inside (b (past ds n (suc i))) ++ xs)) (itself_is i s (stop_above sound i m)))
      (scans_def ds i until m _ q
      (params_scanned inside b i m q each n (suc i) (omega arith) (subst (Children ds (node_of ds i) (suc i)) all (children sound i m)) (omega arith) until s xs a))

  -- ---- at most so deep: the Defs inside Ifs of a statement and of a Block are those that the scan gives

  abbrev StatementsAt : ℕ → Type 0
  StatementsAt d =
      (inside : Bool) (c : ℕ) → c < length ds → is_statement (node_of ds c).kind ≡ true → suc deepest ≤ depth c 0 ds + d
      → Statement inside (λ j. stmt_at ds d j) c

  abbrev BodiesAt : ℕ → Type 0
  BodiesAt d =
      (inside : Bool) (c : ℕ) → c < length ds → (node_of ds c).kind ≡ 12 → suc deepest ≤ depth c 0 ds + d → Body inside (λ j. block_at ds d j) c

  statement_scanned : (d : ℕ) → BodiesAt d → StatementsAt (suc d)
  unfolding stmt_at defs_in
  statement_scanned d bodies inside i m q h until s xs a =
      let e : ℕ → Expr = λ j. expr_at ds d j in
      let b : ℕ → Stmts = λ j. block_at ds d j in
      let w = stop_within sound i m in
      let each : (t : Bool) (c : ℕ) → i < c → c < stop_of ds i → (node_of ds c).kind ≡ 12 → Body t b c =
      λ t c l k z. bodies t c (omega arith) z (omega (arith, deeper sound i c l m k)) in
      elim (ℕ_discrete (node_of ds i).kind 8) [
        | yes k ↦ scans_is (ap (λ (x : Act). defs_of inside i x ++ xs) (sym (if_at ds e b i k))) (if_scanned inside e b i m k (each true) until s xs a)
        | no n8 ↦ elim (ℕ_discrete (node_of ds i).kind 9) [
          | yes k ↦ scans_is (ap (λ (x : Act). defs_of inside i x ++ xs) (sym (while_at ds e b i k)))
              (scans_enter ds i until m _ opens_while k (loop_scanned inside b i m (subst Loop (sym k) the_while) (each inside) until s xs a))
          | no n9 ↦ elim (ℕ_discrete (node_of ds i).kind 10) [
            | yes k ↦ scans_is (ap (λ (x : Act). defs_of inside i x ++ xs) (sym (for_at ds e b i k)))
                (scans_enter ds i until m _ opens_for k (loop_scanned inside b i m (subst Loop (sym k) the_for) (each inside) until s xs a))
            | no n10 ↦ elim (ℕ_discrete (node_of ds i).kind 11) [
              | yes k ↦ scans_is (ap (λ (x : Act). defs_of inside i x ++ xs) (sym (def_at ds e b i k)))
                  (scans_is (sym (append_assoc (test inside then i ∷ [] else []) _ xs)) (def_scanned inside b i m k (each inside) until s xs a))
              | no n11 ↦ scans_is (ap (λ (ys : List ℕ). ys ++ xs) (sym (quiet_act ds e b inside i n8 n9 n10 n11)))
                  (scans_over ds i until m xs
                  (record { no_if = n8; no_while = n9; no_for = n10; no_def = n11; no_block = λ z. omega (arith, statement_low _ q) })
                  (stop_above sound i m) a)
            ]
          ]
        ]
      ]

  body_scanned : (d : ℕ) → StatementsAt d → BodiesAt (suc d)
  unfolding stmt_at
  body_scanned d each inside i m q h until s xs a =
      let w = stop_within sound i m in
      scans_enter ds i until m _ opens_block q
      (statements inside (λ j. stmt_at ds d j) i m q (λ c l k z. each inside c (omega arith) z (omega (arith, deeper sound i c l m k)))
      (node_of ds i).children (suc i) (omega arith) (children sound i m) until (narrower s (suc i) (stop_of ds i) (omega arith) (omega arith)) xs a)

  all_scanned : (d : ℕ) → StatementsAt d × BodiesAt d
  all_scanned zero = (λ t c m q h. absurd (omega (arith, sound.shallow c m)), λ t c m q h. absurd (omega (arith, sound.shallow c m)))
  all_scanned (suc d) = let below = all_scanned d in (statement_scanned d below.1, body_scanned d below.0)

  -- the module: "Node 0 is a Block ending at M", and stands inside no If
  module_scanned : 0 < length ds → Scans ds 0 0 (defs_in_ifs (tree_of ds))
  unfolding tree_of stop_of defs_in_ifs
  module_scanned m =
      let r = root sound m in
      scans_is (append-nil _)
      ((all_scanned deepest).1 false 0 m r.0 (omega (arith, first_deep ds m (node_stands_lem sound 0 m).above)) 0 (in_none (omega arith)) []
      (scans_end ds (stop_of ds 0) 0 (omega (arith, r.1))))

-- ---- in a sound image the scan from node 0 gives the Defs that stand inside an If, in program order

scanned : {bs : List ℕ} → Sound bs → Scans (nodes_of bs) 0 0 (defs_in_ifs (tree_of (nodes_of bs)))
scanned {bs} s = module_scanned (sound_nested s) (omega (arith, nodes_many bs, (sizes s.headed).one_node))

pub defs_scanned : {bs : List ℕ} → Sound bs → (k : ℕ) → node_count bs ≤ k → scan_defs (nodes_of bs) k 0 0 ≡ defs_in_ifs (tree_of (nodes_of bs))
defs_scanned {bs} s k h = (scanned s).gives k (omega (arith, nodes_many bs))
