-- Document 02, request Ten: "after each accepted module statement there is one frame; each name that had a type other than Unknown still has
-- it; While and For leave the environment exactly as before". The second needs the premise, "no Def anywhere inside an If", in plain, and
-- nothing in strict; the others hold of every program. The environment is the frames, with their nodes; a return type is no part of it.
use mathlib.Core.Path.{◌≡◌, refl, ◌∙◌, ap, sym}
use mathlib.Core.Bool.{Bool, false}
use mathlib.Core.List.{List, [], ◌∷◌, Memᴰ}
use mathlib.Core.Option.{Option, none, some}
use Prim.Native.Nat.{ℕ, zero, suc, ◌≤◌, ◌<◌}
use native.Mathlib.Omega.{arith}
use lib.ListN.{length, get_or}
use Rattle.meaning.specs.Base.{if_some, or_else}
use Rattle.meaning.specs.Types.{Ty, unknown, int, string, kind}
use Rattle.meaning.specs.Tree.{Expr, Stmt, line, while, for, Stmts, no_stmts, ◌next◌}
use Rattle.meaning.specs.Image.{Name, name_of, names_of, nodes_of}
use Rattle.meaning.specs.Decode.{tree_of}
use Rattle.meaning.specs.Frames.{Binding, binding, Frame, Frames, empty, newest, slot_in, find, lookup, write}
use Rattle.meaning.specs.Walk.{Setting, plain, strict, State, state, End, done, ◌>>=◌, with_returns, walk, program, start}
use Rattle.meaning.specs.Answer.{walked, meaning_open}
use Rattle.meaning.specs.Known.{defs_in, defs_by, defs_in_ifs, NoDefInIf, def_in_if, steadiness, up_to, after_first, known_open}
use Rattle.meaning.proofs.Faults.{Sound}
use Rattle.meaning.proofs.Kept.{accepted_one_frame}
use Rattle.meaning.proofs.Strict.{accepts_program}
use Rattle.meaning.proofs.Statements.{done_is, then_done}
use Rattle.meaning.proofs.Runs.{runs, no_names}
use Rattle.meaning.proofs.SheetSame.{HasType}
use Rattle.meaning.proofs.Listed.{listing_of, frame_listed}
use Rattle.meaning.proofs.Keeping.{Keeps, keeps_same, keeps_then, stays_done, slot_lookup, exactly_done, while_exactly, for_exactly, walk_stays, none_first, none_later, strict_not_plain, strict_keeps}

-- ---- "each name that had a type other than Unknown still has it", with its node, in the frames of a module

pub record StillKnown (Γ Δ : Frames) : Type 0 where
  pub type : (x : ℕ) → ((lookup Γ x).type ≡ unknown → ⊥) → (lookup Δ x).type ≡ (lookup Γ x).type
  pub node : (x m : ℕ) → ((lookup Γ x).type ≡ unknown → ⊥) → (lookup Γ x).first ≡ some m → (lookup Δ x).first ≡ some m

lookup_none : (f : Frame) (x : ℕ) → get_or f x none ≡ none → (lookup (f ∷ []) x).type ≡ unknown
unfolding lookup find or_else if_some
lookup_none f x e = rw e

-- in one frame what is known stands in its slot
module_slot : (Γ : Frames) → length Γ ≡ 1 → (x : ℕ) → ((lookup Γ x).type ≡ unknown → ⊥) → slot_in Γ x ≡ some (lookup Γ x)
unfolding slot_in newest
module_slot [] h x n = absurd (omega arith)
module_slot (f ∷ []) h x n = by (get_or f x none) refl
  where
    by : (o : Option Binding) → get_or f x none ≡ o → get_or f x none ≡ some (lookup (f ∷ []) x)
    by none e = absurd (n (lookup_none f x e))
    by (some b) e = e ∙ ap (λ (c : Binding). some c) (sym (slot_lookup (f ∷ []) x b e))
module_slot (f ∷ g ∷ Γ) h x n = absurd (omega arith)

module_known : (Γ Δ : Frames) → length Γ ≡ 1 → Keeps Γ Δ → StillKnown Γ Δ
module_known Γ Δ one k =
    record {
      type = λ x n. let s = k.known x _ n (module_slot Γ one x n) in ap (λ (b : Binding). b.type) (slot_lookup Δ x _ s.is) ∙ s.alike.type;
      node = λ x m n e.
          let s = k.known x _ n (module_slot Γ one x n) in
          ap (λ (b : Binding). b.first) (slot_lookup Δ x _ s.is) ∙ s.alike.node m e;
    }

-- ---- a module's first statements

first_apart : (k : ℕ) (b : Stmts) → defs_in false b ≡ [] → defs_in false (up_to k b) ≡ []
unfolding up_to defs_in
first_apart zero b h = refl
first_apart (suc k) no_stmts h = refl
first_apart (suc k) (a next b) h =
    rw (none_first false a b h) (first_apart k b (none_later false a b h))

first_first : (j k : ℕ) (b : Stmts) → j ≤ k → up_to j (up_to k b) ≡ up_to j b
unfolding up_to
first_first zero k b h = refl
first_first (suc j) zero b h = absurd (omega arith)
first_first (suc j) (suc k) no_stmts h = refl
first_first (suc j) (suc k) (a next b) h = ap (λ (c : Stmts). a next c) (first_first j k b (omega arith))

module _ (ws : List Name) (setting : Setting) where
  program_keeps : (b : Stmts) (s s₁ : State) → (setting ≡ plain → defs_in false b ≡ []) → program ws setting b s ≡ done s₁ → Keeps s.frames s₁.frames
  unfolding program defs_in
  program_keeps no_stmts s s₁ h e = rw (done_is e) (keeps_same _)
  program_keeps (a next b) s s₁ h e =
      let t = then_done (walk ws setting false a (with_returns unknown s)) _ s₁ e in
      keeps_then (stays_done (walk_stays ws setting false a _ (λ p. none_first false a b (h p))) t.1.0)
      (program_keeps b t.0 s₁ (λ p. none_later false a b (h p)) t.1.1)

  -- from where the walk stands behind j statements to where it ends
  onward_keeps : (j : ℕ) (b : Stmts) (s s₀ s₁ : State) → (setting ≡ plain → defs_in false b ≡ []) → program ws setting (up_to j b) s ≡ done s₀
      → program ws setting b s ≡ done s₁ → Keeps s₀.frames s₁.frames
  unfolding program up_to defs_in
  onward_keeps zero b s s₀ s₁ h d e = rw (sym (done_is d)) (program_keeps b s s₁ h e)
  onward_keeps (suc j) no_stmts s s₀ s₁ h d e = rw (sym (done_is d), done_is e) (keeps_same _)
  onward_keeps (suc j) (a next b) s s₀ s₁ h d e =
      let t = then_done (walk ws setting false a (with_returns unknown s)) _ s₀ d in
      let u = then_done (walk ws setting false a (with_returns unknown s)) _ s₁ e in
      let q : u.0 ≡ t.0 = done_is (sym u.1.0 ∙ t.1.0) in
      onward_keeps j b t.0 s₀ s₁ (λ p. none_later false a b (h p)) t.1.1 (rw q at u.1.1)

  -- what ends well, does so behind each of its statements
  each_done : (k : ℕ) (b : Stmts) (s s₁ : State) → program ws setting b s ≡ done s₁ → (s₀ : State) × (program ws setting (up_to k b) s ≡ done s₀)
  unfolding program up_to ◌>>=◌
  each_done zero b s s₁ e = (s, refl)
  each_done (suc k) no_stmts s s₁ e = (s, refl)
  each_done (suc k) (a next b) s s₁ e =
      let t = then_done (walk ws setting false a (with_returns unknown s)) _ s₁ e in
      let r = each_done k b t.0 s₁ t.1.1 in
      (r.0, ap (λ (d : End). d >>= λ s₂. program ws setting (up_to k b) s₂) t.1.0 ∙ r.1)

-- ---- the three claims

-- "after each accepted module statement there is one frame": of every program, in either setting, also of one that is refused later. (False of
-- a walk that does not pop a Def which ends well: `def f(): pass`.)
pub one_frame : (ws : List Name) (setting : Setting) (b : Stmts) (k : ℕ) (s : State) → after_first k ws setting b ≡ done s → length s.frames ≡ 1
unfolding after_first
one_frame ws setting b k s e = accepted_one_frame ws setting (up_to k b) s e

module _ (ws : List Name) where
  -- from the j-th statement to the k-th
  stays_between : (setting : Setting) (b : Stmts) (j k : ℕ) (s s₁ : State) → (setting ≡ plain → NoDefInIf b) → j ≤ k → after_first j ws setting b ≡ done s
      → after_first k ws setting b ≡ done s₁ → StillKnown s.frames s₁.frames
  unfolding after_first defs_in_ifs
  stays_between setting b j k s s₁ h l d e =
      module_known _ _ (accepted_one_frame ws setting (up_to j b) s d)
      (onward_keeps ws setting j (up_to k b) start s s₁ (λ p. first_apart k b (h p)) (rw (first_first j k b l) d) e)

  -- "each name that had a type other than Unknown still has it", for programs with no Def anywhere inside an If. (False of a walk whose If
  -- writes what its body had: `x = 1`, `if True: x = "s"`. False where Defs in an else are let pass: run 11 with its If's body as an else.)
  pub known_stays : (b : Stmts) (j k : ℕ) (s s₁ : State) → NoDefInIf b → j ≤ k → after_first j ws plain b ≡ done s → after_first k ws plain b ≡ done s₁
      → StillKnown s.frames s₁.frames
  known_stays b j k s s₁ h l d e = stays_between plain b j k s s₁ (λ p. h) l d e

  -- in strict of every program, as far as it is accepted, whatever follows. (False of plain: run 11.)
  pub strict_known_stays : (b : Stmts) (j k : ℕ) (s s₁ : State) → j ≤ k → after_first j ws strict b ≡ done s → after_first k ws strict b ≡ done s₁
      → StillKnown s.frames s₁.frames
  strict_known_stays b j k s s₁ l d e = stays_between strict b j k s s₁ (λ p. absurd (strict_not_plain p)) l d e

  -- of one module statement, from one frame
  pub statement_known_stays : (a : Stmt) (s s₁ : State) → length s.frames ≡ 1 → defs_by false a ≡ [] → walk ws plain false a s ≡ done s₁
      → StillKnown s.frames s₁.frames
  statement_known_stays a s s₁ one h e = module_known _ _ one (stays_done (walk_stays ws plain false a s (λ p. h)) e)

  pub strict_statement_known_stays : (a : Stmt) (s s₁ : State) → length s.frames ≡ 1 → walk ws strict false a s ≡ done s₁
      → StillKnown s.frames s₁.frames
  strict_statement_known_stays a s s₁ one e = module_known _ _ one (strict_keeps ws false a s s₁ e)

  -- what is accepted has been accepted statement by statement
  pub each_accepted : (setting : Setting) (b : Stmts) (e : State) → program ws setting b start ≡ done e → (k : ℕ)
      → (s : State) × (after_first k ws setting b ≡ done s)
  unfolding after_first
  each_accepted setting b e h k = each_done ws setting k b start e h

  -- where strict accepts a program, plain stands where strict stands, behind each statement
  strict_first : (b : Stmts) (k : ℕ) (s e : State) → program ws strict b start ≡ done e → after_first k ws plain b ≡ done s
      → after_first k ws strict b ≡ done s
  unfolding after_first
  strict_first b k s e h d =
      let t = each_accepted strict b e h k in
      t.1 ∙ sym (accepts_program ws (up_to k b) start t.0 t.1) ∙ d

  -- "For programs that strict accepts, prove it without the premise": of plain's walk too
  pub accepted_known_stays : (b : Stmts) (j k : ℕ) (s s₁ e : State) → program ws strict b start ≡ done e → j ≤ k → after_first j ws plain b ≡ done s
      → after_first k ws plain b ≡ done s₁ → StillKnown s.frames s₁.frames
  accepted_known_stays b j k s s₁ e h l p q = strict_known_stays b j k s s₁ l (strict_first b j s e h p) (strict_first b k s₁ e h q)

  -- "While and For leave the environment exactly as before": the frames, nodes too, in every program, at any depth, in either setting. (False of
  -- a For whose loop name is there behind it: `for i in [1]: pass`. False of the whole State: `while True: return 1` has a return type more.)
  pub while_leaves : (setting : Setting) (loop : Bool) (n : ℕ) (c : Expr) (b : Stmts) (s s₁ : State) → walk ws setting loop (line n (while c b)) s ≡ done s₁
      → s₁.frames ≡ s.frames
  unfolding walk
  while_leaves setting loop n c b s s₁ e = exactly_done (while_exactly ws setting loop n c b s) e

  pub for_leaves : (setting : Setting) (loop : Bool) (n x : ℕ) (e : Expr) (b : Stmts) (s s₁ : State) → walk ws setting loop (line n (for x e b)) s ≡ done s₁
      → s₁.frames ≡ s.frames
  unfolding walk
  for_leaves setting loop n x e b s s₁ h = exactly_done (for_exactly ws setting loop n x e b s) h

-- ---- what it is for: "Slots shall be laid out while a script is read"

module _ (bs : List ℕ) (image : Sound bs) (setting : Setting) (h : setting ≡ plain → NoDefInIf (tree_of (nodes_of bs))) where
  -- what a name of the module is known as behind k statements, it is at the end
  known_at_end : (k : ℕ) (s e : State) → after_first k (names_of bs) setting (tree_of (nodes_of bs)) ≡ done s → walked setting bs ≡ done e
      → (x : ℕ) → ((lookup s.frames x).type ≡ unknown → ⊥) → HasType (newest e.frames) x (lookup s.frames x).type
  unfolding after_first walked defs_in_ifs slot_in
  known_at_end k s e d w x n =
      let one = accepted_one_frame (names_of bs) setting (up_to k (tree_of (nodes_of bs))) s d in
      let still = (onward_keeps (names_of bs) setting k (tree_of (nodes_of bs)) start s e h d w).known x _ n (module_slot s.frames one x n) in
      (still.now.first, still.is ∙ ap (λ (t : Ty). some (binding t still.now.first)) still.alike.type)

  -- "the type that a name has after statement k, if known, is its type in the sheet": it stands there so, and with no other type (`listing_once`).
  -- (False of plain without the premise: run 11 has x as Int after its first statement, and String in its sheet.)
  pub known_in_sheet : (k : ℕ) (s e : State) → after_first k (names_of bs) setting (tree_of (nodes_of bs)) ≡ done s → walked setting bs ≡ done e
      → (x : ℕ) → x < length (names_of bs) → ((lookup s.frames x).type ≡ unknown → ⊥)
      → Memᴰ ((name_of (names_of bs) x).spelling, (lookup s.frames x).type) (listing_of bs (newest e.frames))
  known_in_sheet k s e d w x l n =
      frame_listed bs image (newest e.frames) (record { slot = x; named = l; spelled = refl; typed = known_at_end k s e d w x n })

-- ---- "Show that the premise is needed by 01's run 11": x = 1, then if True: holding def f(x): with x = "s" and 1 + "a"

abbrev eleven : List ℕ
eleven = (get_or runs 10 ([], no_names)).0

-- its Def, node 7, stands inside an If
pub eleven_unsteady : steadiness eleven ≡ def_in_if 7 16 47
unfolding meaning_open known_open
eleven_unsteady = refl

-- x, name 1, is known as t since node m, and nothing else is
abbrev knowing : Ty → ℕ → State
knowing t m = state (write 1 (binding t (some m)) (empty ∷ [])) unknown

pub eleven_one : after_first 1 (names_of eleven) plain (tree_of (nodes_of eleven)) ≡ done (knowing int 2)
unfolding meaning_open known_open
eleven_one = refl

pub eleven_two : after_first 2 (names_of eleven) plain (tree_of (nodes_of eleven)) ≡ done (knowing string 11)
unfolding meaning_open known_open
eleven_two = refl

known_as : (t : Ty) (m : ℕ) → (lookup (knowing t m).frames 1).type ≡ t
unfolding meaning_open
known_as t m = refl

-- `known_stays` without its premise
abbrev Premiseless : Type 0
Premiseless =
    (ws : List Name) (b : Stmts) (j k : ℕ) (s s₁ : State) → j ≤ k → after_first j ws plain b ≡ done s → after_first k ws plain b ≡ done s₁
    → StillKnown s.frames s₁.frames

pub premise_needed : Premiseless → ⊥
unfolding kind
premise_needed f =
    let still = f (names_of eleven) (tree_of (nodes_of eleven)) 1 2 (knowing int 2) (knowing string 11) (omega arith) eleven_one eleven_two in
    let e = still.type 1 (λ z. let n = ap kind (sym (known_as int 2) ∙ z) in omega arith) in
    let n = ap kind (sym (known_as string 11) ∙ (e ∙ known_as int 2)) in
    omega arith
