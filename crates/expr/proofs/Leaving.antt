-- What a walk leaves of the table and the stack, put together.
use mathlib.Core.Path.{◌≡◌, refl, ◌∙◌}
use mathlib.Core.List.{List}
use Prim.Native.Nat.{ℕ, ◌+◌, ◌≤◌, ◌<◌}
use native.Mathlib.Omega.{arith}
use lib.ListN.{length, set, length-set}
use lib.Seq.{get_or-set_other}
use Rattle.meaning.specs.Image.{nodes_from}
use Rattle.types.specs.Table.{Tab, Wf, Grown}
use Rattle.types.proofs.Laws.{grown_refl, grown_trans}
use Rattle.frames.specs.Env.{Rows, frames_of}
use Rattle.frames.proofs.Laws.{frames_grown, fit_grown}
use Rattle.expr.specs.Contract.{Ready, Fine}

pub fine_none : {t : Tab} {st : List ℕ} (sp i : ℕ) → Wf t → length st ≡ 2048 → Fine t t st st sp i i 0
fine_none sp i w l = record {
  grown = grown_refl w;
  types_spent = omega arith;
  elements_spent = omega arith;
  stack = l;
  kept = λ j h. refl;
}

pub fine_then : {t u v : Tab} {st su sv : List ℕ} {sp sq i j e x y : ℕ} → Fine t u st su sp i j x → Fine u v su sv sq j e y → sp ≤ sq
    → Fine t v st sv sp i e (x + y)
fine_then f g h = record {
  grown = grown_trans f.grown g.grown;
  types_spent = omega (arith, f.types_spent, g.types_spent);
  elements_spent = omega (arith, f.elements_spent, g.elements_spent);
  stack = g.stack;
  kept = λ j k. g.kept j (omega arith) ∙ f.kept j k;
}

pub fine_wider : {t u : Tab} {st su : List ℕ} {sp i j x : ℕ} (e y : ℕ) → j + y ≤ e → Fine t u st su sp i j x → Fine t u st su sp i e (x + y)
fine_wider e y h f = record {
  grown = f.grown;
  types_spent = omega (arith, f.types_spent);
  elements_spent = omega (arith, f.elements_spent);
  stack = f.stack;
  kept = f.kept;
}

pub fine_as : {t u : Tab} {st su : List ℕ} {sp i e x y : ℕ} → x ≡ y → Fine t u st su sp i e x → Fine t u st su sp i e y
fine_as h f = rw h at f

-- a store at or above the mark
pub fine_set : {t u : Tab} {st su : List ℕ} {sp i j x : ℕ} (k w : ℕ) → sp ≤ k → Fine t u st su sp i j x → Fine t u st (set su k w) sp i j x
fine_set {su = su} k w h f = record {
  grown = f.grown;
  types_spent = f.types_spent;
  elements_spent = f.elements_spent;
  stack = simp length-set f.stack;
  kept = λ j l. get_or-set_other su k j w 0 (λ e. absurd (omega arith)) ∙ f.kept j l;
}

-- a node before them takes a type and as many elements as they were
pub fine_node : {t u v : Tab} {st su : List ℕ} {sp j e n k : ℕ} (i : ℕ) → i < j → k ≤ n → Fine t u st su sp j e n → Grown u v → v.n ≤ u.n + 1
    → v.m ≤ u.m + k → Fine t v st su sp i e 1
fine_node i h l f g a b = record {
  grown = grown_trans f.grown g;
  types_spent = omega (arith, f.types_spent, a);
  elements_spent = omega (arith, f.elements_spent, b);
  stack = f.stack;
  kept = f.kept;
}

pub fine_up : {t u : Tab} {st su : List ℕ} {sp j e n : ℕ} (i : ℕ) → i < j → Fine t u st su sp j e n → Fine t u st su sp i e 1
fine_up i h f = fine_node {k = 0} i h (omega arith) f (grown_refl f.grown.wf) (omega arith) (omega arith)

-- ---- what is asked next

pub ready_narrow : {bs : List ℕ} {nodes : ℕ} {fs : Rows} {top : ℕ} {t : Tab} {st : List ℕ} {sp i e : ℕ} (j f : ℕ)
    → i ≤ j → f ≤ e → Ready bs nodes fs top t st sp i e → Ready bs nodes fs top t st sp j f
ready_narrow j f h l r = record {
  sound = r.sound;
  nodes_at = r.nodes_at;
  wf = r.wf;
  fit = r.fit;
  stack = r.stack;
  types_room = omega (arith, r.types_room);
  elements_room = omega (arith, r.elements_room);
  stack_room = omega (arith, r.stack_room);
}

-- a cursor that has moved
pub ready_moved : {bs : List ℕ} {nodes m : ℕ} {fs : Rows} {top : ℕ} {t : Tab} {st : List ℕ} {sp i e : ℕ} → m ≡ nodes_from bs
    → Ready bs nodes fs top t st sp i e → Ready bs m fs top t st sp i e
ready_moved e r = record {
  sound = r.sound;
  nodes_at = e;
  wf = r.wf;
  fit = r.fit;
  stack = r.stack;
  types_room = r.types_room;
  elements_room = r.elements_room;
  stack_room = r.stack_room;
}

pub ready_then : {bs : List ℕ} {nodes : ℕ} {fs : Rows} {top : ℕ} {t u : Tab} {st su : List ℕ} {sp i j e x sq : ℕ}
    → Ready bs nodes fs top t st sp i e → Fine t u st su sq i j x → i ≤ j → Ready bs nodes fs top u su sp j e
ready_then r f h = record {
  sound = r.sound;
  nodes_at = r.nodes_at;
  wf = f.grown.wf;
  fit = fit_grown f.grown.more r.fit;
  stack = f.stack;
  types_room = omega (arith, r.types_room, f.types_spent, f.grown.as_wide);
  elements_room = omega (arith, r.elements_room, f.elements_spent, f.grown.as_wide);
  stack_room = omega (arith, r.stack_room);
}

-- one more number on the stack, for a node that was passed
pub ready_push : {bs : List ℕ} {nodes : ℕ} {fs : Rows} {top : ℕ} {t : Tab} {st : List ℕ} {sp i e : ℕ} (w j : ℕ)
    → sp + e < 2048 + j → i ≤ j → Ready bs nodes fs top t st sp i e → Ready bs nodes fs top t (set st sp w) (sp + 1) j e
ready_push w j h l r = record {
  sound = r.sound;
  nodes_at = r.nodes_at;
  wf = r.wf;
  fit = r.fit;
  stack = simp length-set r.stack;
  types_room = omega (arith, r.types_room);
  elements_room = omega (arith, r.elements_room);
  stack_room = omega arith;
}

pub same_frames : {bs : List ℕ} {nodes : ℕ} {fs : Rows} {top : ℕ} {t u : Tab} {st : List ℕ} {sp i e : ℕ}
    → Ready bs nodes fs top t st sp i e → Grown t u → frames_of u fs top ≡ frames_of t fs top
same_frames r g = frames_grown g r.fit
