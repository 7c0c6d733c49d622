-- What makes a type known stands in rising order in a program: the Variables assigned, through Tuples, and the iterables of loops, each
-- between two bounds that move on. The tree of every sound image has it, since its nodes stand in preorder. (False of a tree that reads an
-- If's branches last to first.)
use mathlib.Core.Path.{◌≡◌, refl, ◌∙◌, subst}
use mathlib.Core.Bool.{true}
use mathlib.Core.List.{List}
use Prim.Native.Nat.{ℕ, zero, suc, ◌-◌, ◌≤◌, ◌<◌}
use native.Mathlib.Omega.{arith}
use borrow.Author.Tests.{leb-true, eqb-true}
use lib.ListN.{length}
use Rattle.meaning.specs.Limits.{deepest}
use Rattle.meaning.specs.Base.{test◌then◌else◌, choose}
use Rattle.meaning.specs.Tree.{Expr, at, Form, literal, variable, unary, binary, call, attribute, list_of, dict_of, tuple_of, set_of, index, lambda, Exprs, no_exprs, ◌also◌, place, Stmt, line, Act, break, continue, pass, class, assign, expr, return, if_then, while, for, def, Stmts, no_stmts, ◌next◌, Arms, no_arms, ◌else_arms◌, Arm, on, otherwise, first_condition}
use Rattle.meaning.specs.Image.{Node, node_of, count_stands}
use Rattle.meaning.specs.Decode.{stop_of, past, exprs_from, stmts_from, arms_from, form_at, expr_at, act_at, stmt_at, block_at, tree_of}
use Rattle.meaning.proofs.Choices.{RowsHave, choose_has}
use Rattle.meaning.proofs.Nesting.{Nested, Children, child, children_le, node_stands_lem, children, root}
use Rattle.meaning.proofs.SecondSpan.{expr_place, two_children}

-- a part that ends at a bound between lo and hi, and the rest, which starts there
pub record Parted (A B : ℕ → Type 0) (lo hi : ℕ) : Type 0 where
  pub middle : ℕ
  pub above : lo ≤ middle
  pub below : middle ≤ hi
  pub head : A middle
  pub rest : B middle

unfoldable mutual
  pub TargetRising : ℕ → Expr → ℕ → Type 0
  TargetRising lo (at n f) hi = FormRising lo n f hi

  pub FormRising : ℕ → ℕ → Form → ℕ → Type 0
  FormRising lo n (literal l) hi = Unit {0}
  FormRising lo n (variable x) hi = (lo ≤ n) × (n < hi)
  FormRising lo n (unary o e) hi = Unit {0}
  FormRising lo n (binary o l r) hi = Unit {0}
  FormRising lo n (call f es) hi = Unit {0}
  FormRising lo n (attribute e) hi = Unit {0}
  FormRising lo n (list_of es) hi = Unit {0}
  FormRising lo n (dict_of es) hi = Unit {0}
  FormRising lo n (tuple_of es) hi = TargetsRising lo es hi
  FormRising lo n (set_of es) hi = Unit {0}
  FormRising lo n (index o i) hi = Unit {0}
  FormRising lo n lambda hi = Unit {0}

  pub TargetsRising : ℕ → Exprs → ℕ → Type 0
  TargetsRising lo no_exprs hi = Unit {0}
  TargetsRising lo (e also es) hi = Parted (λ m. TargetRising lo e m) (λ m. TargetsRising m es hi) lo hi

-- Ends c h: the If whose first condition is node c ends at h
module _ (Ends : ℕ → ℕ → Type 0) where
  unfoldable mutual
    pub Rising : ℕ → Stmts → ℕ → Type 0
    Rising lo no_stmts hi = Unit {0}
    Rising lo (a next b) hi = Parted (λ m. LineRising lo a m) (λ m. Rising m b hi) lo hi

    pub LineRising : ℕ → Stmt → ℕ → Type 0
    LineRising lo (line n a) hi = ActRising lo a hi

    pub ActRising : ℕ → Act → ℕ → Type 0
    ActRising lo break hi = Unit {0}
    ActRising lo continue hi = Unit {0}
    ActRising lo pass hi = Unit {0}
    ActRising lo class hi = Unit {0}
    ActRising lo (assign e v) hi = TargetRising lo e hi
    ActRising lo (expr e) hi = Unit {0}
    ActRising lo (return e) hi = Unit {0}
    ActRising lo (if_then as') hi = Parted (λ h. Ends (first_condition as') h) (λ h. ArmsRising lo as' h) lo hi
    ActRising lo (while c b) hi = Rising lo b hi
    ActRising lo (for x e b) hi = (lo ≤ place e) × ((place e < hi) × Rising (suc (place e)) b hi)
    ActRising lo (def xs b) hi = Rising lo b hi

    pub ArmsRising : ℕ → Arms → ℕ → Type 0
    ArmsRising lo no_arms hi = Unit {0}
    ArmsRising lo (a else_arms rest) hi = Parted (λ m. ArmRising lo a m) (λ m. ArmsRising m rest hi) lo hi

    pub ArmRising : ℕ → Arm → ℕ → Type 0
    ArmRising lo (on c b) hi = Rising lo b hi
    ArmRising lo (otherwise b) hi = Rising lo b hi

-- ---- the tree of an image

-- the If whose first condition is node c, its first child, ends at h
unfoldable pub EndsAt : List Node → ℕ → ℕ → Type 0
EndsAt ds c h = (i : ℕ) × (((node_of ds i).kind ≡ 8) × ((c ≡ suc i) × (h ≡ stop_of ds i)))

two_or_more : (c : ℕ) → count_stands 8 c ≡ true → 2 ≤ c
unfolding count_stands choose test◌then◌else◌
two_or_more c h = leb-true 2 c h

one_or_more : (c : ℕ) → count_stands 11 c ≡ true → 1 ≤ c
unfolding count_stands choose test◌then◌else◌
one_or_more c h = leb-true 1 c h

assigns_two : (c : ℕ) → count_stands 5 c ≡ true → c ≡ 2
unfolding count_stands choose test◌then◌else◌
assigns_two c h = eqb-true c 2 h

repeats_two : (c : ℕ) → count_stands 9 c ≡ true → c ≡ 2
unfolding count_stands choose test◌then◌else◌
repeats_two c h = eqb-true c 2 h

first_on : (ds : List Node) (e : ℕ → Expr) (b : ℕ → Stmts) (n i : ℕ) → 2 ≤ n → first_condition (arms_from ds e b n i) ≡ place (e i)
unfolding arms_from first_condition
first_on ds e b zero i h = absurd (omega arith)
first_on ds e b (suc zero) i h = absurd (omega arith)
first_on ds e b (suc (suc n)) i h = refl

module _ {N : ℕ} {ds : List Node} (nested : Nested N ds) where
  -- a child of d lies inside it, from its own number on
  record Lies (d : Node) (i : ℕ) : Type 0 where
    inside : i < length ds
    longer : i < stop_of ds i
    ends : stop_of ds i ≤ d.stop

  lies : {d : Node} {i : ℕ} (n : ℕ) → d.stop ≤ length ds → Children ds d i (suc n) → Lies d i
  unfolding stop_of
  lies {d} {i} n w c =
      let l : i < length ds = omega (arith, (child c).inside) in
      record { inside = l; longer = (node_stands_lem nested i l).above; ends = children_le n (child c).rest }

  -- of suc n children the last
  last_child : {d : Node} (n i : ℕ) → d.stop ≤ length ds → Children ds d i (suc n) → (i ≤ past ds n i) × Children ds d (past ds n i) 1
  unfolding past
  last_child zero i w c = (omega arith, c)
  last_child (suc n) i w c =
      let r = last_child n (stop_of ds i) w (child c).rest in
      (omega (arith, (lies (suc n) w c).longer, r.0), r.1)

  exprs_rise : (f : ℕ → Expr) → ((lo hi j : ℕ) → lo ≤ j → j < length ds → stop_of ds j ≤ hi → TargetRising lo (f j) hi)
      → {d : Node} (lo hi n i : ℕ) → lo ≤ i → d.stop ≤ length ds → d.stop ≤ hi → Children ds d i n → TargetsRising lo (exprs_from ds f n i) hi
  unfolding exprs_from TargetsRising
  exprs_rise f g lo hi zero i l w u c = tt
  exprs_rise f g lo hi (suc n) i l w u c =
      let k = lies n w c in
      record {
        middle = stop_of ds i;
        above = omega (arith, k.longer);
        below = omega (arith, k.ends);
        head = g lo (stop_of ds i) i l k.inside (omega arith);
        rest = exprs_rise f g (stop_of ds i) hi n (stop_of ds i) (omega arith) w u (child c).rest;
      }

  form_rises : (f : ℕ → Expr) → ((lo hi j : ℕ) → lo ≤ j → j < length ds → stop_of ds j ≤ hi → TargetRising lo (f j) hi)
      → (lo hi i : ℕ) → lo ≤ i → i < length ds → stop_of ds i ≤ hi → FormRising lo i (form_at ds f i) hi
  unfolding form_at FormRising RowsHave stop_of
  form_rises f g lo hi i l w u =
      let d = node_stands_lem nested i w in
      choose_has (λ t. FormRising lo i t hi) (node_of ds i).kind _ _ tt
      (λ e. tt, (λ e. (l, omega (arith, d.above)), (λ e. tt, (λ e. tt, (λ e. tt, (λ e. tt, (λ e. tt, (λ e. tt, (λ e. exprs_rise f g lo hi _ (suc i) (omega arith) d.within u (children nested i w), (λ e. tt, (λ e. tt, (λ e. tt, tt))))))))))))

  expr_rises : (d lo hi i : ℕ) → lo ≤ i → i < length ds → stop_of ds i ≤ hi → TargetRising lo (expr_at ds d i) hi
  unfolding expr_at TargetRising
  expr_rises zero lo hi i l w u = tt
  expr_rises (suc d) lo hi i l w u = form_rises _ (λ p q j. expr_rises d p q j) lo hi i l w u

  stmts_rise : (f : ℕ → Stmt) → ((lo hi j : ℕ) → lo ≤ j → j < length ds → stop_of ds j ≤ hi → LineRising (EndsAt ds) lo (f j) hi)
      → {d : Node} (lo hi n i : ℕ) → lo ≤ i → d.stop ≤ length ds → d.stop ≤ hi → Children ds d i n
      → Rising (EndsAt ds) lo (stmts_from ds f n i) hi
  unfolding stmts_from Rising
  stmts_rise f g lo hi zero i l w u c = tt
  stmts_rise f g lo hi (suc n) i l w u c =
      let k = lies n w c in
      record {
        middle = stop_of ds i;
        above = omega (arith, k.longer);
        below = omega (arith, k.ends);
        head = g lo (stop_of ds i) i l k.inside (omega arith);
        rest = stmts_rise f g (stop_of ds i) hi n (stop_of ds i) (omega arith) w u (child c).rest;
      }

  arms_rise : (e : ℕ → Expr) (b : ℕ → Stmts) → ((lo hi j : ℕ) → lo ≤ j → j < length ds → stop_of ds j ≤ hi → Rising (EndsAt ds) lo (b j) hi)
      → {d : Node} (lo hi n i : ℕ) → lo ≤ i → d.stop ≤ length ds → d.stop ≤ hi → Children ds d i n
      → ArmsRising (EndsAt ds) lo (arms_from ds e b n i) hi
  unfolding arms_from ArmsRising
  arms_rise e b g lo hi zero i l w u c = tt
  arms_rise e b g lo hi (suc zero) i l w u c =
      let k = lies 0 w c in
      record {
        middle = stop_of ds i;
        above = omega (arith, k.longer);
        below = omega (arith, k.ends);
        head = g lo (stop_of ds i) i l k.inside (omega arith);
        rest = tt;
      }
  arms_rise e b g lo hi (suc (suc n)) i l w u c =
      let k = lies (suc n) w c in
      let k₂ = lies n w (child c).rest in
      let j : ℕ = stop_of ds i in
      record {
        middle = stop_of ds j;
        above = omega (arith, k.longer, k₂.longer);
        below = omega (arith, k₂.ends);
        head = g lo (stop_of ds j) j (omega (arith, k.longer)) k₂.inside (omega arith);
        rest = arms_rise e b g (stop_of ds j) hi n (stop_of ds j) (omega arith) w u (child (child c).rest).rest;
      }

  act_rises : (d : ℕ) (b : ℕ → Stmts) → ((lo hi j : ℕ) → lo ≤ j → j < length ds → stop_of ds j ≤ hi → Rising (EndsAt ds) lo (b j) hi)
      → (lo hi i : ℕ) → lo ≤ i → i < length ds → stop_of ds i ≤ hi → ActRising (EndsAt ds) lo (act_at ds (λ j. expr_at ds d j) b i) hi
  unfolding act_at ActRising RowsHave stop_of EndsAt
  act_rises d b g lo hi i l w u =
      choose_has (λ a. ActRising (EndsAt ds) lo a hi) (node_of ds i).kind _ _ tt
      (λ e. tt, (λ e. tt, (λ e. tt, (λ e. tt, (assigns, (λ e. tt, (λ e. tt, (branches, (repeats, (loops, (defines, tt)))))))))))
    where
      n : Node
      n = node_of ds i

      first : Expr
      first = expr_at ds d (suc i)

      from₂ : ℕ
      from₂ = stop_of ds (suc i)

      two : (c : Children ds n (suc i) 2) → Lies n (suc i) × Lies n from₂
      two c = (lies 1 (node_stands_lem nested i w).within c, lies 0 (node_stands_lem nested i w).within (child c).rest)

      assigns : n.kind ≡ 5 → TargetRising lo first hi
      assigns e =
          let m : n.children ≡ 2 = assigns_two _ (rw e at (node_stands_lem nested i w).count) in
          let t = two (subst (λ k. Children ds n (suc i) k) m (children nested i w)) in
          expr_rises d lo hi (suc i) (omega arith) t.0.inside (omega (arith, t.0.ends))

      branches : n.kind ≡ 8 → ActRising (EndsAt ds) lo (if_then (arms_from ds (λ j. expr_at ds d j) b n.children (suc i))) hi
      branches e =
          let m : 2 ≤ n.children = two_or_more _ (rw e at (node_stands_lem nested i w).count) in
          record {
            middle = n.stop;
            above = omega (arith, (node_stands_lem nested i w).above);
            below = u;
            head = (i, (e, (first_on ds _ b _ (suc i) m ∙ expr_place ds d (suc i), refl)));
            rest = arms_rise _ b g lo n.stop n.children (suc i) (omega arith) (node_stands_lem nested i w).within (omega arith) (children nested i w);
          }

      repeats : n.kind ≡ 9 → Rising (EndsAt ds) lo (b from₂) hi
      repeats e =
          let m : n.children ≡ 2 = repeats_two _ (rw e at (node_stands_lem nested i w).count) in
          let t = two (subst (λ k. Children ds n (suc i) k) m (children nested i w)) in
          g lo hi from₂ (omega (arith, t.0.longer)) t.1.inside (omega (arith, t.1.ends))

      loops : n.kind ≡ 10 → ActRising (EndsAt ds) lo (for n.arg first (b from₂)) hi
      loops e =
          let m : n.children ≡ 2 = two_children _ (rw e at (node_stands_lem nested i w).count) in
          let t = two (subst (λ k. Children ds n (suc i) k) m (children nested i w)) in
          let p : place first ≡ suc i = expr_place ds d (suc i) in
          (omega (arith, p), (omega (arith, p, t.0.longer, t.0.ends), rw p (g (suc (suc i)) hi from₂ (omega (arith, t.0.longer)) t.1.inside (omega (arith, t.1.ends)))))

      defines : n.kind ≡ 11 → Rising (EndsAt ds) lo (b (past ds (n.children - 1) (suc i))) hi
      defines e =
          let m : 1 ≤ n.children = one_or_more _ (rw e at (node_stands_lem nested i w).count) in
          let v : n.children ≡ suc (n.children - 1) = omega arith in
          let c = last_child (n.children - 1) (suc i) (node_stands_lem nested i w).within (subst (λ k. Children ds n (suc i) k) v (children nested i w)) in
          let k = lies 0 (node_stands_lem nested i w).within c.1 in
          g lo hi _ (omega (arith, c.0)) k.inside (omega (arith, k.ends))

  mutual
    unfolding stmt_at Rising stop_of

    stmt_rises : (d lo hi i : ℕ) → lo ≤ i → i < length ds → stop_of ds i ≤ hi → LineRising (EndsAt ds) lo (stmt_at ds d i) hi
    stmt_rises zero lo hi i l w u = tt
    stmt_rises (suc d) lo hi i l w u = act_rises d _ (λ p q j l₁ w₁ u₁. block_rises d p q j l₁ w₁ u₁) lo hi i l w u

    block_rises : (d lo hi i : ℕ) → lo ≤ i → i < length ds → stop_of ds i ≤ hi → Rising (EndsAt ds) lo (block_at ds d i) hi
    block_rises zero lo hi i l w u = tt
    block_rises (suc d) lo hi i l w u =
        stmts_rise _ (λ p q j l₁ w₁ u₁. stmt_rises d p q j l₁ w₁ u₁) lo hi _ (suc i) (omega arith) (node_stands_lem nested i w).within u (children nested i w)

  pub tree_rising : 0 < length ds → Rising (EndsAt ds) 0 (tree_of ds) (length ds)
  unfolding tree_of stop_of
  tree_rising h = block_rises deepest 0 (length ds) 0 (omega arith) h (omega (arith, (root nested h).1))
