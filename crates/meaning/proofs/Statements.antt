-- How each compound statement ends, given how its parts end: one equation for each case, so that nobody has to unfold the walk.
use mathlib.Core.Path.{◌≡◌, refl, ◌∙◌, ap}
use mathlib.Core.Bool.{Bool, true, false, false≢true}
use mathlib.Core.List.{List, [], ◌∷◌, ◌++◌, tail}
use mathlib.Core.Option.{none, some}
use Prim.Native.Nat.{ℕ, suc, ◌≤◌, ◌<◌}
use native.Mathlib.Omega.{arith}
use borrow.Author.Tests.{le-leb, lt-leb}
use lib.ListN.{length}
use Rattle.meaning.specs.Limits.{most_frames}
use Rattle.meaning.specs.Base.{test◌then◌else◌, if_some}
use Rattle.meaning.specs.Types.{Ty}
use Rattle.meaning.specs.Tree.{Expr, Stmt, Stmts, ◌next◌, Arms, ◌else_arms◌, Arm, on, while, for, def, place}
use Rattle.meaning.specs.Image.{Name}
use Rattle.meaning.specs.Message.{Refusal}
use Rattle.meaning.specs.Frames.{since, Frames}
use Rattle.meaning.specs.Operators.{ok}
use Rattle.meaning.specs.Rules.{element_of, check}
use Rattle.meaning.specs.Walk.{Setting, dropping, State, state, with_returns, bind, End, done, wrong, too_deep, ◌>>=◌, onward, after, on_copy, typed, enter, popped, if_room, over_elements, checked, condition, walk, act, body, arm, branches}

-- ---- an end is one of three

is_done : End → Bool
is_done (done s) = true
is_done (wrong r s) = false
is_done (too_deep n) = false

state_in : State → End → State
state_in d (done s) = s
state_in d (wrong r s) = d
state_in d (too_deep n) = d

pub wrong_done : {r : Refusal} {s s₁ : State} → wrong r s ≡ done s₁ → ⊥
unfolding is_done
wrong_done e = false≢true (ap is_done e)

pub deep_done : {n : ℕ} {s : State} → too_deep n ≡ done s → ⊥
unfolding is_done
deep_done e = false≢true (ap is_done e)

pub done_is : {s s₁ : State} → done s ≡ done s₁ → s ≡ s₁
unfolding state_in
done_is {s} e = ap (state_in s) e

-- what goes on alike ends alike
pub then_same : (e : End) (k l : State → End) → ((s : State) → k s ≡ l s) → (e >>= k) ≡ (e >>= l)
unfolding ◌>>=◌
then_same (done s) k l h = h s
then_same (wrong r s) k l h = refl
then_same (too_deep n) k l h = refl

-- what is done one after the other is done each
pub then_done : (d : End) (k : State → End) (s : State) → (d >>= k) ≡ done s → (s₁ : State) × ((d ≡ done s₁) × (k s₁ ≡ done s))
unfolding ◌>>=◌
then_done (done s₁) k s e = (s₁, (refl, e))
then_done (wrong r s₁) k s e = absurd (wrong_done e)
then_done (too_deep n) k s e = absurd (deep_done e)

module _ (ws : List Name) (setting : Setting) where
  -- ---- bodies

  pub body_done : (loop drops : Bool) (a : Stmt) (b : Stmts) (s s₁ : State) → walk ws setting loop a s ≡ done s₁
      → body ws setting loop drops (a next b) s ≡ body ws setting loop drops b s₁
  unfolding body onward
  body_done loop drops a b s s₁ e = rw e

  -- an error that is dropped: what was done before it stays
  pub body_drops : (loop : Bool) (a : Stmt) (b : Stmts) (s s₁ : State) (r : Refusal) → walk ws setting loop a s ≡ wrong r s₁
      → body ws setting loop true (a next b) s ≡ body ws setting loop true b s₁
  unfolding body onward
  body_drops loop a b s s₁ r e = rw e

  pub body_returns : (loop : Bool) (a : Stmt) (b : Stmts) (s s₁ : State) (r : Refusal) → walk ws setting loop a s ≡ wrong r s₁
      → body ws setting loop false (a next b) s ≡ wrong r s₁
  unfolding body onward
  body_returns loop a b s s₁ r e = rw e

  -- "9 ends it even in a body whose errors are dropped"
  pub body_deep : (loop drops : Bool) (a : Stmt) (b : Stmts) (s : State) (n : ℕ) → walk ws setting loop a s ≡ too_deep n
      → body ws setting loop drops (a next b) s ≡ too_deep n
  unfolding body onward
  body_deep loop drops a b s n e = rw e

  -- ---- If

  pub arm_done : (loop : Bool) (c : ℕ) (Δs : List Frames) (a : Arm) (rest : Arms) (s s₁ : State) → arm ws setting loop a s ≡ done s₁
      → branches ws setting loop c Δs (a else_arms rest) s ≡ branches ws setting loop c (Δs ++ (s₁.frames ∷ [])) rest (state s.frames s₁.returns)
  unfolding branches on_copy ◌>>=◌
  arm_done loop c Δs a rest s s₁ e = rw e

  -- a branch that is refused: nothing is merged, and the walk stands at the entry frames
  pub arm_fails : (loop : Bool) (c : ℕ) (Δs : List Frames) (a : Arm) (rest : Arms) (s s₁ : State) (r : Refusal) → arm ws setting loop a s ≡ wrong r s₁
      → branches ws setting loop c Δs (a else_arms rest) s ≡ wrong r (state s.frames s₁.returns)
  unfolding branches on_copy ◌>>=◌
  arm_fails loop c Δs a rest s s₁ r e = rw e

  -- by its condition
  pub arm_refused : (loop : Bool) (c : ℕ) (Δs : List Frames) (e : Expr) (b : Stmts) (rest : Arms) (s : State) (r : Refusal)
      → condition ws e s ≡ wrong r s → branches ws setting loop c Δs (on e b else_arms rest) s ≡ wrong r s
  unfolding branches on_copy arm ◌>>=◌
  arm_refused loop c Δs e b rest s r h = rw h

  pub arm_deep : (loop : Bool) (c : ℕ) (Δs : List Frames) (a : Arm) (rest : Arms) (s : State) (n : ℕ) → arm ws setting loop a s ≡ too_deep n
      → branches ws setting loop c Δs (a else_arms rest) s ≡ too_deep n
  unfolding branches on_copy ◌>>=◌
  arm_deep loop c Δs a rest s n e = rw e

  -- ---- While and For: "While and For commit nothing."

  pub while_done : (loop : Bool) (n : ℕ) (c : Expr) (b : Stmts) (s s₁ : State) → condition ws c s ≡ done s → body ws setting true (dropping setting) b s ≡ done s₁
      → act ws setting loop n (while c b) s ≡ done (state s.frames s₁.returns)
  unfolding act ◌>>=◌ after
  while_done loop n c b s s₁ h e = rw (h, e)

  -- an error that is returned: only strict has one
  pub while_fails : (loop : Bool) (n : ℕ) (c : Expr) (b : Stmts) (s s₁ : State) (r : Refusal) → condition ws c s ≡ done s
      → body ws setting true (dropping setting) b s ≡ wrong r s₁
      → act ws setting loop n (while c b) s ≡ wrong r (state s.frames s₁.returns)
  unfolding act ◌>>=◌ after
  while_fails loop n c b s s₁ r h e = rw (h, e)

  pub for_done : (loop : Bool) (n x : ℕ) (e : Expr) (b : Stmts) (s s₁ : State) (t u : Ty) → check ws s.frames e ≡ ok t → element_of t ≡ some u
      → body ws setting true false b (bind x (since none (place e) u) s) ≡ done s₁
      → act ws setting loop n (for x e b) s ≡ done (state s.frames s₁.returns)
  unfolding act checked typed over_elements if_some after
  for_done loop n x e b s s₁ t u p q h = rw (p, q, h)

  pub for_fails : (loop : Bool) (n x : ℕ) (e : Expr) (b : Stmts) (s s₁ : State) (t u : Ty) (r : Refusal) → check ws s.frames e ≡ ok t
      → element_of t ≡ some u → body ws setting true false b (bind x (since none (place e) u) s) ≡ wrong r s₁
      → act ws setting loop n (for x e b) s ≡ wrong r (state s.frames s₁.returns)
  unfolding act checked typed over_elements if_some after
  for_fails loop n x e b s s₁ t u r p q h = rw (p, q, h)

  -- ---- Def

  module _ (loop : Bool) (n : ℕ) (xs : List ℕ) (b : Stmts) (s : State) where
    -- "a Def needs a ninth frame"
    pub def_ninth : most_frames ≤ length s.frames → act ws setting loop n (def xs b) s ≡ too_deep n
    unfolding act if_room test◌then◌else◌
    def_ninth h = rw (lt-leb (suc (length s.frames)) most_frames (omega arith))

    room : length s.frames < most_frames → act ws setting loop n (def xs b) s ≡ after (with_returns s.returns) (popped (body ws setting false false b (enter xs s)))
    unfolding act if_room test◌then◌else◌
    room h = rw (le-leb (suc (length s.frames)) most_frames h)

    -- one that ends well pops its frame
    pub def_done : (s₁ : State) → length s.frames < most_frames → body ws setting false false b (enter xs s) ≡ done s₁
        → act ws setting loop n (def xs b) s ≡ done (state (tail s₁.frames) s.returns)
    unfolding after popped
    def_done s₁ h e = room h ∙ rw e

    -- "A Def that fails never pops its frame."
    pub def_fails : (s₁ : State) (r : Refusal) → length s.frames < most_frames → body ws setting false false b (enter xs s) ≡ wrong r s₁
        → act ws setting loop n (def xs b) s ≡ wrong r (state s₁.frames s.returns)
    unfolding after popped
    def_fails s₁ r h e = room h ∙ rw e

    pub def_deep : (m : ℕ) → length s.frames < most_frames → body ws setting false false b (enter xs s) ≡ too_deep m → act ws setting loop n (def xs b) s ≡ too_deep m
    unfolding after popped
    def_deep m h e = room h ∙ rw e
