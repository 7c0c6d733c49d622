-- Document 02: "plain is unchanged". Here is document 01's walk as the definitions had it before there was a setting, word for word but for
-- the subscripts and the argument `ws`, and the answer made of it, with the sheet of today. It stands over BeforeWalk, since a slot was a
-- type then. Plain's answer to every image, for every pair of rooms, is that one, and so is today's but for the second span. (False of a
-- plain that returns an error of a While's body, or that keeps an If's branch which was refused.)
use mathlib.Core.Path.{◌≡◌, refl, ◌∙◌, ap}
use mathlib.Core.Bool.{Bool, true, false}
use mathlib.Core.List.{List, [], ◌∷◌, ◌++◌}
use mathlib.Core.Option.{Option, none, some}
use Prim.Native.Nat.{ℕ}
use Rattle.meaning.specs.Base.{test◌then◌else◌, choose, if_some}
use Rattle.meaning.specs.Types.{Ty, unknown}
use Rattle.meaning.specs.Tree.{Expr, place, Stmt, line, Act, break, continue, pass, class, assign, expr, return, if_then, while, for, def, Stmts, no_stmts, ◌next◌, Arms, no_arms, ◌else_arms◌, Arm, on, otherwise, first_condition}
use Rattle.meaning.specs.Image.{Name, image_fault, names_of, nodes_of}
use Rattle.meaning.specs.Decode.{tree_of}
use Rattle.meaning.specs.Message.{Refusal}
use Rattle.meaning.specs.Operators.{Checked, ok, refused}
use Rattle.meaning.specs.Rules.{element_of}
use Rattle.meaning.specs.Walk.{plain, dropping}
use Rattle.meaning.specs.Answer.{Answer, bare, setting_of}
use Rattle.meaning.specs.Answer as Today
use Rattle.meaning.proofs.Rows.{as_before}
use Rattle.meaning.proofs.BeforeRules.{Frames}
use Rattle.meaning.proofs.BeforeWalk.{State, End, done, wrong, too_deep, ◌>>=◌, onward, after, on_copy, typed, with_frames, with_returns, bind, return_rule, merge, enter, popped, if_room, only_in, over_elements, checked, condition, assign_to, walk, act, body, arm, branches, program, start, ended, walked, answer_under, answer}
use Rattle.meaning.proofs.AsBefore.{as_before_lem}

-- ---- the walk and the answer before there was a setting

module _ (ws : List Name) where
  mutual
    walk₀ : Bool → Stmt → State → End
    walk₀ loop (line n a) s = act₀ loop n a s

    act₀ : Bool → ℕ → Act → State → End
    act₀ loop n break s = only_in loop 20 n s
    act₀ loop n continue s = only_in loop 21 n s
    act₀ loop n pass s = done s
    act₀ loop n class s = done s
    act₀ loop n (assign e v) s = checked ws v s λ t. assign_to ws e t s
    act₀ loop n (expr e) s = checked ws e s λ t. done s
    act₀ loop n (return e) s = checked ws e s λ t. return_rule (place e) t s
    act₀ loop n (if_then arms) s = branches₀ loop (first_condition arms) [] arms s
    act₀ loop n (while c b) s = condition ws c s >>= λ s'. after (with_frames s.frames) (body₀ true true b s')
    act₀ loop n (for x e b) s = checked ws e s λ t. over_elements (place e) t s λ u. after (with_frames s.frames) (body₀ true false b (bind x u s))
    act₀ loop n (def xs b) s = if_room n s (after (with_returns s.returns) (popped (body₀ false false b (enter xs s))))

    body₀ : Bool → Bool → Stmts → State → End
    body₀ loop drops no_stmts s = done s
    body₀ loop drops (a next as') s = onward drops (walk₀ loop a s) λ s'. body₀ loop drops as' s'

    arm₀ : Bool → Arm → State → End
    arm₀ loop (on c b) s = condition ws c s >>= λ s'. body₀ loop true b s'
    arm₀ loop (otherwise b) s = body₀ loop true b s

    branches₀ : Bool → ℕ → List Frames → Arms → State → End
    branches₀ loop c Δs no_arms s = merge ws c Δs s
    branches₀ loop c Δs (a else_arms rest) s = arm₀ loop a s >>= λ s₁. branches₀ loop c (Δs ++ (s₁.frames ∷ [])) rest (with_returns s₁.returns s)

  program₀ : Stmts → State → End
  program₀ no_stmts s = done s
  program₀ (a next as') s = walk₀ false a (with_returns unknown s) >>= λ s'. program₀ as' s'

pub answer_before : List ℕ → ℕ → ℕ → Answer
answer_before bs sheet_room message_room =
    let sound : Answer = ended (names_of bs) (nodes_of bs) sheet_room message_room (program₀ (names_of bs) (tree_of (nodes_of bs)) start) in
    if_some (image_fault bs) (λ f. bare f.code f.place) sound

-- ---- in plain only a condition can refuse a branch, and it leaves the state as it was: nothing is put back

-- a refusal that left the state as it was
Still : State → End → Type 0
Still s (done s₁) = Unit {0}
Still s (wrong r s₁) = s₁ ≡ s
Still s (too_deep n) = Unit {0}

done_still : (s s₁ : State) → Still s (done s₁)
unfolding Still
done_still s s₁ = tt

dropped_still : (s : State) (e : End) (k : State → End) → ((s₁ : State) → Still s (k s₁)) → Still s (onward true e k)
unfolding Still onward
dropped_still s (done s₁) k h = h s₁
dropped_still s (wrong r s₁) k h = h s₁
dropped_still s (too_deep n) k h = tt

then_still : (s : State) (e : End) (k : State → End) → Still s e → ((s₁ : State) → Still s (k s₁)) → Still s (e >>= k)
unfolding Still ◌>>=◌
then_still s (done s₁) k h g = g s₁
then_still s (wrong r s₁) k h g = h
then_still s (too_deep n) k h g = tt

typed_still : (c : Checked) (s : State) (k : Ty → End) → ((t : Ty) → Still s (k t)) → Still s (typed c s k)
unfolding Still typed
typed_still (ok t) s k h = h t
typed_still (refused r) s k h = refl

if_still : (b : Bool) (s : State) (r : Refusal) → Still s (test b then done s else wrong r s)
unfolding Still test◌then◌else◌
if_still true s r = tt
if_still false s r = refl

copy_still : (s : State) (e : End) → Still s e → on_copy s.frames e ≡ e
unfolding Still on_copy
copy_still s (done s₁) h = refl
copy_still s (wrong r s₁) h = rw h
copy_still s (too_deep n) h = refl

module _ (ws : List Name) where
  condition_still : (c : Expr) (s : State) → Still s (condition ws c s)
  unfolding condition checked
  condition_still c s = typed_still _ s _ (λ t. if_still _ s _)

  body_still : (loop : Bool) (b : Stmts) (s s₁ : State) → Still s (body ws plain loop true b s₁)
  unfolding body
  body_still loop no_stmts s s₁ = done_still s s₁
  body_still loop (a next b) s s₁ = dropped_still s (walk ws plain loop a s₁) _ (λ s₂. body_still loop b s s₂)

  arm_still : (loop : Bool) (a : Arm) (s : State) → Still s (arm ws plain loop a s)
  unfolding arm dropping
  arm_still loop (on c b) s = then_still s (condition ws c s) _ (condition_still c s) (λ s₁. body_still loop b s s₁)
  arm_still loop (otherwise b) s = body_still loop b s s

-- ---- the walks are equal

then_same : (e : End) (k l : State → End) → ((s : State) → k s ≡ l s) → (e >>= k) ≡ (e >>= l)
unfolding ◌>>=◌
then_same (done s) k l h = h s
then_same (wrong r s) k l h = refl
then_same (too_deep n) k l h = refl

onward_same : (drops : Bool) (e : End) (k l : State → End) → ((s : State) → k s ≡ l s) → onward drops e k ≡ onward drops e l
unfolding onward
onward_same drops (done s) k l h = h s
onward_same true (wrong r s) k l h = h s
onward_same false (wrong r s) k l h = refl
onward_same drops (too_deep n) k l h = refl

some_same : (o : Option Ty) (k l : Ty → End) (e : End) → ((t : Ty) → k t ≡ l t) → if_some o k e ≡ if_some o l e
unfolding if_some
some_same none k l e h = refl
some_same (some t) k l e h = h t

typed_same : (c : Checked) (s : State) (k l : Ty → End) → ((t : Ty) → k t ≡ l t) → typed c s k ≡ typed c s l
unfolding typed
typed_same (ok t) s k l h = h t
typed_same (refused r) s k l h = refl

module _ (ws : List Name) where
  mutual
    unfolding walk walk₀ dropping checked over_elements if_room

    walk_same : (loop : Bool) (a : Stmt) (s : State) → walk ws plain loop a s ≡ walk₀ ws loop a s
    walk_same loop (line n a) s = act_same loop n a s

    act_same : (loop : Bool) (n : ℕ) (a : Act) (s : State) → act ws plain loop n a s ≡ act₀ ws loop n a s
    act_same loop n break s = refl
    act_same loop n continue s = refl
    act_same loop n pass s = refl
    act_same loop n class s = refl
    act_same loop n (assign e v) s = refl
    act_same loop n (expr e) s = refl
    act_same loop n (return e) s = refl
    act_same loop n (if_then as') s = branches_same loop _ [] as' s
    act_same loop n (while c b) s = then_same (condition ws c s) _ _ (λ s₁. ap (λ e. after (with_frames s.frames) e) (body_same true true b s₁))
    act_same loop n (for x e b) s =
        typed_same _ s _ _ (λ t. some_same (element_of t) _ _ _ (λ u. ap (λ d. after (with_frames s.frames) d) (body_same true false b _)))
    act_same loop n (def xs b) s = ap (λ e. if_room n s (after (with_returns s.returns) (popped e))) (body_same false false b (enter xs s))

    body_same : (loop drops : Bool) (b : Stmts) (s : State) → body ws plain loop drops b s ≡ body₀ ws loop drops b s
    body_same loop drops no_stmts s = refl
    body_same loop drops (a next b) s =
        onward_same drops (walk ws plain loop a s) _ _ (λ s₁. body_same loop drops b s₁)
        ∙ ap (λ e. onward drops e λ s₁. body₀ ws loop drops b s₁) (walk_same loop a s)

    arm_same : (loop : Bool) (a : Arm) (s : State) → arm ws plain loop a s ≡ arm₀ ws loop a s
    arm_same loop (on c b) s = then_same (condition ws c s) _ _ (λ s₁. body_same loop true b s₁)
    arm_same loop (otherwise b) s = body_same loop true b s

    branches_same : (loop : Bool) (c : ℕ) (Δs : List Frames) (as' : Arms) (s : State) → branches ws plain loop c Δs as' s ≡ branches₀ ws loop c Δs as' s
    branches_same loop c Δs no_arms s = refl
    branches_same loop c Δs (a else_arms rest) s =
        then_same (on_copy s.frames (arm ws plain loop a s)) _ _ (λ s₁. branches_same loop c _ rest _)
        ∙ ap (λ e. e >>= λ s₁. branches₀ ws loop c (Δs ++ (s₁.frames ∷ [])) rest (with_returns s₁.returns s))
        (copy_still s _ (arm_still ws loop a s) ∙ arm_same loop a s)

  program_same : (b : Stmts) (s : State) → program ws plain b s ≡ program₀ ws b s
  unfolding program program₀
  program_same no_stmts s = refl
  program_same (a next b) s =
      then_same (walk ws plain false a _) _ _ (λ s₁. program_same b s₁) ∙ ap (λ e. e >>= λ s₁. program₀ ws b s₁) (walk_same false a _)

pub plain_unchanged : (bs : List ℕ) (sheet_room message_room : ℕ) → answer 0 bs sheet_room message_room ≡ answer_before bs sheet_room message_room
unfolding answer setting_of choose if_some test◌then◌else◌ answer_under walked answer_before
plain_unchanged bs sheet_room message_room = rw (program_same (names_of bs) (tree_of (nodes_of bs)) start)

-- and today's, which has a second span beside it, and refuses TreeSets
pub plain_as_before : (bs : List ℕ) (sheet_room message_room : ℕ) → as_before (Today.former_answer 0 bs sheet_room message_room) ≡ answer_before bs sheet_room message_room
plain_as_before bs sheet_room message_room = as_before_lem 0 bs sheet_room message_room ∙ plain_unchanged bs sheet_room message_room
