-- "Codes 25 and 23 answer with a second span": in every image and setting it is that of one of the image's nodes, a Variable or a For's
-- iterable. (False of one that points at the Assign or at the value: after `x = 1`, `x = "s"` has its second span on the first x.)
use mathlib.Core.Path.{◌≡◌, refl, ◌∙◌, ap, sym, subst}
use mathlib.Core.Bool.{Bool, true, false}
use mathlib.Core.Logic.{◌⊎◌, inl, inr, ⊎_elim}
use mathlib.Core.List.{List, []}
use mathlib.Core.Option.{Option, none, some}
use Prim.Native.Nat.{ℕ, zero, suc, ◌<◌}
use native.Mathlib.Omega.{arith}
use native.Mathlib.Decide.{dec_lt}
use borrow.Author.Tests.{eqb-true}
use lib.Dec.{leb}
use lib.ListN.{length, get_or-eq_default}
use Rattle.meaning.specs.Limits.{deepest}
use Rattle.meaning.specs.Base.{test◌then◌else◌, choose, if_some}
use Rattle.meaning.specs.Tree.{Expr, Stmt, Stmts, place}
use Rattle.meaning.specs.Image.{Fault, Node, node_of, count_stands, check_fault, names_of, nodes_of}
use Rattle.meaning.specs.Decode.{stop_of, exprs_from, stmts_from, arms_from, form_at, expr_at, act_at, stmt_at, block_at, tree_of}
use Rattle.meaning.specs.Message.{Refusal}
use Rattle.meaning.specs.Frames.{slot_in}
use Rattle.meaning.specs.Walk.{Setting, State, End, done, wrong, too_deep}
use Rattle.meaning.specs.Answer.{Answer, bare, written, ended, walked, walk_answer, unless_fault, answer_under, setting_of, answer}
use Rattle.meaning.proofs.Choices.{RowsHave, choose_has}
use Rattle.meaning.proofs.Faults.{Sound, walks, check_told, early_below}
use Rattle.meaning.proofs.Nesting.{Nested, sound_nested, Children, child, node_stands_lem, children}
use Rattle.meaning.proofs.FirstPlace.{SlotPlaced, Pointed, Pointing, Targets, FormTargets, AllTargets, Binders, LineBinders, ActBinders, ArmsBinders, slot_in_placed, walked_pointing, pointing_done, pointing_wrong}

-- "the Variable assigned, or the iterable for a loop name": node n is a Variable, or comes right after a For, whose first child it is
unfoldable pub Makes : List Node → ℕ → Type 0
Makes ds n = ((node_of ds n).kind ≡ 21) ⊎ ((m : ℕ) × (((node_of ds m).kind ≡ 10) × (n ≡ suc m)))

-- ---- the tree of an image: every node that its walk may keep is one of these

module _ (ds : List Node) where
  exprs_make : (f : ℕ → Expr) → ((j : ℕ) → Targets (Makes ds) (f j)) → (n i : ℕ) → AllTargets (Makes ds) (exprs_from ds f n i)
  unfolding exprs_from AllTargets
  exprs_make f h zero i = tt
  exprs_make f h (suc n) i = (h i, exprs_make f h n (stop_of ds i))

  form_makes : (f : ℕ → Expr) → ((j : ℕ) → Targets (Makes ds) (f j)) → (i : ℕ) → FormTargets (Makes ds) i (form_at ds f i)
  unfolding form_at FormTargets RowsHave Makes
  form_makes f h i =
      choose_has (λ g. FormTargets (Makes ds) i g) (node_of ds i).kind _ _ tt
      (λ e. tt, (λ e. inl e, (λ e. tt, (λ e. tt, (λ e. tt, (λ e. tt, (λ e. tt, (λ e. tt, (λ e. exprs_make f h _ (suc i), (λ e. tt, (λ e. tt, (λ e. tt, tt))))))))))))

  expr_makes : (d i : ℕ) → Targets (Makes ds) (expr_at ds d i)
  unfolding expr_at Targets
  expr_makes zero i = tt
  expr_makes (suc d) i = form_makes _ (λ j. expr_makes d j) i

  pub expr_place : (d i : ℕ) → place (expr_at ds d i) ≡ i
  unfolding expr_at place
  expr_place zero i = refl
  expr_place (suc d) i = refl

  stmts_make : (f : ℕ → Stmt) → ((j : ℕ) → LineBinders (Makes ds) (f j)) → (n i : ℕ) → Binders (Makes ds) (stmts_from ds f n i)
  unfolding stmts_from Binders
  stmts_make f h zero i = tt
  stmts_make f h (suc n) i = (h i, stmts_make f h n (stop_of ds i))

  arms_make : (e : ℕ → Expr) (b : ℕ → Stmts) → ((j : ℕ) → Binders (Makes ds) (b j)) → (n i : ℕ) → ArmsBinders (Makes ds) (arms_from ds e b n i)
  unfolding arms_from ArmsBinders
  arms_make e b h zero i = tt
  arms_make e b h (suc zero) i = (h i, tt)
  arms_make e b h (suc (suc n)) i = (h (stop_of ds i), arms_make e b h n (stop_of ds (stop_of ds i)))

  act_makes : (d : ℕ) (b : ℕ → Stmts) → ((j : ℕ) → Binders (Makes ds) (b j)) → (i : ℕ)
      → ActBinders (Makes ds) (act_at ds (λ j. expr_at ds d j) b i)
  unfolding act_at ActBinders RowsHave Makes
  act_makes d b h i =
      choose_has (λ a. ActBinders (Makes ds) a) (node_of ds i).kind _ _ tt
      (λ e. tt, (λ e. tt, (λ e. tt, (λ e. tt, (λ e. expr_makes d (suc i), (λ e. tt, (λ e. tt, (λ e. arms_make _ b h _ (suc i), (λ e. h _, (λ e. (inr (i, (e, expr_place d (suc i))), h _), (λ e. h _, tt)))))))))))

  mutual
    unfolding stmt_at Binders

    stmt_makes : (d i : ℕ) → LineBinders (Makes ds) (stmt_at ds d i)
    stmt_makes zero i = tt
    stmt_makes (suc d) i = act_makes d _ (λ j. block_makes d j) i

    block_makes : (d i : ℕ) → Binders (Makes ds) (block_at ds d i)
    block_makes zero i = tt
    block_makes (suc d) i = stmts_make _ (λ j. stmt_makes d j) _ (suc i)

  pub tree_makes : Binders (Makes ds) (tree_of ds)
  unfolding tree_of
  tree_makes = block_makes deepest 0

-- ---- the walk of an image

module _ (setting : Setting) (bs : List ℕ) where
  image_pointing : Pointing (Makes (nodes_of bs)) (walked setting bs)
  unfolding walked
  image_pointing = walked_pointing (Makes (nodes_of bs)) (names_of bs) setting (tree_of (nodes_of bs)) (tree_makes (nodes_of bs))

  -- a name of an accepted program: Unknown without a node, or a known type with one
  pub accepted_placed : (s : State) (x : ℕ) → walked setting bs ≡ done s → SlotPlaced (Makes (nodes_of bs)) (slot_in s.frames x)
  accepted_placed s x e = slot_in_placed (Makes (nodes_of bs)) s.frames x (pointing_done (Makes (nodes_of bs)) image_pointing e)

  pub refused_pointed : (r : Refusal) (s : State) → walked setting bs ≡ wrong r s → Pointed (Makes (nodes_of bs)) r
  refused_pointed r s e = pointing_wrong (Makes (nodes_of bs)) image_pointing e

-- ---- in a sound image such a node is one of its M nodes

kind_inside : (ds : List Node) (n k : ℕ) → (node_of ds n).kind ≡ suc k → n < length ds
unfolding node_of
kind_inside ds n k e = elim (dec_lt n (length ds)) [
  | yes l ↦ l
  | no l ↦
      let z : ◌≡◌ {A = ℕ} 0 (suc k) = sym (ap (λ (d : Node). d.kind) (get_or-eq_default ds _ {n = n} (omega arith))) ∙ e in
      absurd (omega arith)
]

pub two_children : (c : ℕ) → count_stands 10 c ≡ true → c ≡ 2
unfolding count_stands choose test◌then◌else◌
two_children c h = eqb-true c 2 h

pub makes_inside : {N : ℕ} {ds : List Node} → Nested N ds → (n : ℕ) → Makes ds n → n < length ds
unfolding Makes
makes_inside {N} {ds} h n (inl e) = kind_inside ds n 20 e
makes_inside {N} {ds} h n (inr f) =
    let m : ℕ = f.0 in
    let l : m < length ds = kind_inside ds m 9 f.1.0 in
    let d = node_stands_lem h m l in
    let two : (node_of ds m).children ≡ 2 = two_children _ (rw f.1.0 at d.count) in
    let c = subst (λ k. Children ds (node_of ds m) (suc m) k) two (children h m l) in
    omega (arith, (child c).inside, d.within, f.1.1)

-- ---- the answer

-- the second span is that of one of the image's nodes
pub record Second (ds : List Node) (a : Answer) : Type 0 where
  pub node : ℕ
  pub makes : Makes ds node
  pub inside : node < length ds
  pub from : a.second_start ≡ (node_of ds node).span_start
  pub to : a.second_end ≡ (node_of ds node).span_end

-- what is written has code 0 or 10
pub written_neither : (room : ℕ) (xs : List ℕ) → ((written room xs).code ≡ 23) ⊎ ((written room xs).code ≡ 25) → ⊥
unfolding written test◌then◌else◌
written_neither room xs = by (leb (length xs) room)
  where
    full : Answer
    full = record { code = 0; place = 0; span_start = 0; span_end = 0; second_start = 0; second_end = 0; sheet = xs; message = [] }

    by : (q : Bool) → ((test q then full else bare 10 0).code ≡ 23) ⊎ ((test q then full else bare 10 0).code ≡ 25) → ⊥
    by true e = ⊎_elim (λ z. omega arith) (λ z. omega arith) e
    by false e = ⊎_elim (λ z. omega arith) (λ z. omega arith) e

module _ (bs : List ℕ) (sheet_room message_room : ℕ) where
  ended_second : (e : End) → Sound bs → Pointing (Makes (nodes_of bs)) e → let a : Answer = ended (names_of bs) (nodes_of bs) sheet_room message_room e in
      (a.code ≡ 23) ⊎ (a.code ≡ 25) → Second (nodes_of bs) a
  unfolding ended if_some Pointing
  ended_second (done s) h p c = absurd (written_neither sheet_room _ c)
  ended_second (wrong r s) h p c =
      let t = p.0.there c in
      record {
        node = t.node;
        makes = t.holds;
        inside = makes_inside (sound_nested h) t.node t.holds;
        from = rw t.is;
        to = rw t.is;
      }
  ended_second (too_deep n) h p c = absurd (⊎_elim (λ z. omega arith) (λ z. omega arith) c)

  under_second : (setting : Setting) → let a : Answer = answer_under setting bs sheet_room message_room in (a.code ≡ 23) ⊎ (a.code ≡ 25) → Second (nodes_of bs) a
  unfolding answer_under unless_fault walk_answer if_some
  under_second setting = by (check_fault bs) refl
    where
      whole : Answer
      whole = ended (names_of bs) (nodes_of bs) sheet_room message_room (walked setting bs)

      by : (o : Option Fault) → check_fault bs ≡ o → let a : Answer = if_some o (λ f. bare f.code f.place) whole in
          (a.code ≡ 23) ⊎ (a.code ≡ 25) → Second (nodes_of bs) a
      by none e c = ended_second (walked setting bs) ((walks bs).0 e).0 (image_pointing setting bs) c
      by (some f) e c = absurd (⊎_elim (λ z. omega (arith, early_below (check_told bs f e))) (λ z. omega (arith, early_below (check_told bs f e))) c)

  -- for every image, in every setting, for any buffers
  pub second_span : (n : ℕ) → let a : Answer = answer n bs sheet_room message_room in (a.code ≡ 23) ⊎ (a.code ≡ 25) → Second (nodes_of bs) a
  unfolding answer if_some
  second_span n = by (setting_of n)
    where
      by : (o : Option Setting) → let a : Answer = if_some o (λ setting. answer_under setting bs sheet_room message_room) (bare 13 0) in
          (a.code ≡ 23) ⊎ (a.code ≡ 25) → Second (nodes_of bs) a
      by none c = absurd (⊎_elim (λ z. omega arith) (λ z. omega arith) c)
      by (some setting) c = under_second setting c
