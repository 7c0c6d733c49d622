-- A statement that ends well leaves as many frames as it found, and one that is refused has a typing code. So an accepted program ends
-- with exactly one frame. All of it holds in plain and in strict; a body whose errors are dropped may leave more frames than it found.
use mathlib.Core.Path.{◌≡◌, refl, ◌∙◌, ap}
use mathlib.Core.Bool.{Bool, true, false}
use mathlib.Core.Logic.{◌⊎◌, inl, inr}
use mathlib.Core.List.{List, [], ◌∷◌, tail}
use mathlib.Core.Option.{Option, none, some}
use Prim.Native.Nat.{ℕ, suc, ◌≤◌}
use native.Mathlib.Omega.{arith}
use lib.ListN.{length}
use Rattle.meaning.specs.Base.{test◌then◌else◌, if_some}
use Rattle.meaning.specs.Types.{Ty}
use Rattle.meaning.specs.Tree.{Expr, at, Form, literal, variable, unary, binary, call, attribute, list_of, dict_of, tuple_of, set_of, index, lambda, Exprs, no_exprs, ◌also◌, Stmt, line, Act, break, continue, pass, class, assign, expr, return, if_then, while, for, def, Stmts, no_stmts, ◌next◌, Arms, no_arms, ◌else_arms◌, Arm, on, otherwise}
use Rattle.meaning.specs.Image.{Name}
use Rattle.meaning.specs.Message.{Piece, Refusal, conflict}
use Rattle.meaning.specs.Frames.{Binding, Frames, write}
use Rattle.meaning.specs.Operators.{Checked, ok, refused}
use Rattle.meaning.specs.Rules.{element_of}
use Rattle.meaning.specs.Walk.{Setting, dropping, State, End, done, wrong, too_deep, refuse, ◌>>=◌, onward, after, on_copy, typed, with_frames, with_returns, bind, agreed, assign_name, unpacked, unpack_into, return_rule, assigned, merge_name, merge_names, merge, enter, popped, if_room, only_in, over_elements, checked, condition, assign_to, assign_form, assign_each, walk, act, body, arm, branches, program, start}
use Rattle.meaning.proofs.Codes.{Typing, typing, Fair, fair_typing, check_fair}

-- how a part of the walk that began with n frames may end
pub Kept : ℕ → End → Type 0
Kept n (done s) = length s.frames ≡ n
Kept n (wrong r s) = Typing r
Kept n (too_deep m) = Unit {0}

-- the same, with any number of frames
pub Coded : End → Type 0
Coded (done s) = Unit {0}
Coded (wrong r s) = Typing r
Coded (too_deep m) = Unit {0}

-- ---- one law for each way to put ends together

done_kept : (n : ℕ) (s : State) → length s.frames ≡ n → Kept n (done s)
unfolding Kept
done_kept n s h = h

refuse_kept : (n c m : ℕ) (ps : List Piece) (s : State) → 20 ≤ c → c ≤ 50 → Kept n (refuse c m ps s)
unfolding Kept
refuse_kept n c m ps s l u = typing c m ps l u

conflict_kept : (n c m : ℕ) (o : Option ℕ) (ps : List Piece) (s : State) → (c ≡ 23) ⊎ (c ≡ 25) → Kept n (wrong (conflict c m o ps) s)
unfolding Kept
conflict_kept n c m o ps s (inl e) = record { above = omega arith; below = omega arith; alone = λ p q. absurd (p e) }
conflict_kept n c m o ps s (inr e) = record { above = omega arith; below = omega arith; alone = λ p q. absurd (q e) }

-- what follows keeps the number whatever came before
whatever : (n : ℕ) (e : End) (k : State → End) → Coded e → ((s : State) → Kept n (k s)) → Kept n (e >>= k)
unfolding Kept Coded ◌>>=◌
whatever n (done s) k h g = g s
whatever n (wrong r s) k h g = h
whatever n (too_deep m) k h g = tt

onwards : (n : ℕ) (e : End) (k : State → End) → Kept n e → ((s : State) → length s.frames ≡ n → Kept n (k s)) → Kept n (e >>= k)
unfolding Kept ◌>>=◌
onwards n (done s) k h g = g s h
onwards n (wrong r s) k h g = h
onwards n (too_deep m) k h g = tt

kept_coded : (n : ℕ) (e : End) → Kept n e → Coded e
unfolding Kept Coded
kept_coded n (done s) h = tt
kept_coded n (wrong r s) h = h
kept_coded n (too_deep m) h = tt

copy_coded : (Γ : Frames) (e : End) → Coded e → Coded (on_copy Γ e)
unfolding Coded on_copy
copy_coded Γ (done s) h = tt
copy_coded Γ (wrong r s) h = h
copy_coded Γ (too_deep m) h = tt

typed_kept : (n : ℕ) (c : Checked) (s : State) (k : Ty → End) → Fair c → ((t : Ty) → Kept n (k t)) → Kept n (typed c s k)
unfolding Kept typed
typed_kept n (ok t) s k f h = h t
typed_kept n (refused r) s k f h = fair_typing f

-- frames that are put back
back_kept : (n : ℕ) (s : State) (e : End) → length s.frames ≡ n → Coded e → Kept n (after (with_frames s.frames) e)
unfolding Kept Coded after
back_kept n s (done s₁) h c = h
back_kept n s (wrong r s₁) h c = c
back_kept n s (too_deep m) h c = tt

returns_kept : (n : ℕ) (t : Ty) (e : End) → Kept n e → Kept n (after (with_returns t) e)
unfolding Kept after
returns_kept n t (done s) h = h
returns_kept n t (wrong r s) h = h
returns_kept n t (too_deep m) h = tt

popped_kept : (n : ℕ) (e : End) → Kept (suc n) e → Kept n (popped e)
unfolding Kept popped
popped_kept n (done s) h = tail_length s.frames h
  where
    tail_length : (Γ : Frames) → length Γ ≡ suc n → length (tail Γ) ≡ n
    tail_length [] e = omega arith
    tail_length (f ∷ fs) e = omega arith
popped_kept n (wrong r s) h = h
popped_kept n (too_deep m) h = tt

if_kept : (n : ℕ) (b : Bool) (d e : End) → Kept n d → Kept n e → Kept n (test b then d else e)
unfolding test◌then◌else◌
if_kept n true d e h k = h
if_kept n false d e h k = k

some_kept : {A : Type 0} (n : ℕ) (o : Option A) (f : A → End) (e : End) → ((a : A) → Kept n (f a)) → Kept n e → Kept n (if_some o f e)
unfolding if_some
some_kept n none f e h k = k
some_kept n (some a) f e h k = h a

-- ---- bodies

-- how a body may end: one that returns its errors leaves as many frames as it found, one that drops them perhaps a stray one
pub Left : Bool → ℕ → End → Type 0
Left true n e = Coded e
Left false n e = Kept n e

pub left_kept : (n : ℕ) (e : End) → Left false n e → Kept n e
unfolding Left
left_kept n e h = h

left_coded : (drops : Bool) (n : ℕ) (e : End) → Left drops n e → Coded e
unfolding Left
left_coded true n e h = h
left_coded false n e h = kept_coded n e h

kept_left : (drops : Bool) (n : ℕ) (e : End) → Kept n e → Left drops n e
unfolding Left
kept_left true n e h = kept_coded n e h
kept_left false n e h = h

done_left : (drops : Bool) (n : ℕ) (s : State) → length s.frames ≡ n → Left drops n (done s)
done_left drops n s h = kept_left drops n _ (done_kept n s h)

then_left : (drops : Bool) (n : ℕ) (e : End) (k : State → End) → Kept n e → ((s : State) → length s.frames ≡ n → Left drops n (k s))
    → Left drops n (e >>= k)
unfolding Kept ◌>>=◌
then_left drops n (done s) k h g = g s h
then_left drops n (wrong r s) k h g = kept_left drops n (wrong r s) h
then_left drops n (too_deep m) k h g = kept_left drops n (too_deep m) tt

onward_left : (drops : Bool) (n : ℕ) (e : End) (k : State → End) → Kept n e
    → ((m : ℕ) (s : State) → length s.frames ≡ m → Left drops m (k s)) → Left drops n (onward drops e k)
unfolding Kept Coded Left onward
onward_left true n (done s) k h g = g n s h
onward_left true n (wrong r s) k h g = g (length s.frames) s refl
onward_left true n (too_deep m) k h g = tt
onward_left false n (done s) k h g = g n s h
onward_left false n (wrong r s) k h g = h
onward_left false n (too_deep m) k h g = tt

-- ---- what writes

write_kept : (x : ℕ) (b : Binding) (Γ : Frames) → length (write x b Γ) ≡ length Γ
unfolding write
write_kept x b [] = refl
write_kept x b (f ∷ fs) = refl

bind_kept : (n x : ℕ) (b : Binding) (s : State) → length s.frames ≡ n → Kept n (done (bind x b s))
bind_kept n x b s h = done_kept n _ (write_kept x b s.frames ∙ h)

-- ---- what may refuse

only_kept : (n : ℕ) (loop : Bool) (c m : ℕ) (s : State) → 20 ≤ c → c ≤ 50 → length s.frames ≡ n → Kept n (only_in loop c m s)
unfolding only_in
only_kept n loop c m s l u h = if_kept n loop _ _ (done_kept n s h) (refuse_kept n c m [] s l u)

over_kept : (n m : ℕ) (t : Ty) (s : State) (k : Ty → End) → ((u : Ty) → Kept n (k u)) → Kept n (over_elements m t s k)
unfolding over_elements
over_kept n m t s k h = some_kept n (element_of t) _ _ h (refuse_kept n _ m _ s (omega arith) (omega arith))

deep_kept : (n m : ℕ) → Kept n (too_deep m)
unfolding Kept
deep_kept n m = tt

room_kept : (n m : ℕ) (s : State) (e : End) → Kept n e → Kept n (if_room m s e)
unfolding if_room
room_kept n m s e h = if_kept n _ _ _ h (deep_kept n m)

enter_kept : (n : ℕ) (xs : List ℕ) (s : State) → length s.frames ≡ n → length (enter xs s).frames ≡ suc n
unfolding enter
enter_kept n xs s h = ap suc h

-- ---- what a kept end says

pub kept_done : (n : ℕ) {e : End} {s : State} → Kept n e → e ≡ done s → length s.frames ≡ n
unfolding Kept
kept_done n k e = rw e at k

kept_wrong : (n : ℕ) {e : End} {r : Refusal} {s : State} → Kept n e → e ≡ wrong r s → Typing r
unfolding Kept
kept_wrong n k e = rw e at k

module _ (ws : List Name) where
  merge_name_kept : (n c x : ℕ) (bs : List Binding) (s : State) → length s.frames ≡ n → Kept n (merge_name ws c x bs s)
  unfolding merge_name
  merge_name_kept n c x [] s h = done_kept n s h
  merge_name_kept n c x (b ∷ bs) s h = if_kept n _ _ _ (bind_kept n x b s h) (conflict_kept n _ c _ _ s (inl refl))

  merge_names_kept : (n c : ℕ) (Γ : Frames) (Δs : List Frames) (xs : List ℕ) (s : State) → length s.frames ≡ n
      → Kept n (merge_names ws c Γ Δs xs s)
  unfolding merge_names
  merge_names_kept n c Γ Δs [] s h = done_kept n s h
  merge_names_kept n c Γ Δs (x ∷ xs) s h =
      onwards n (merge_name ws c x (assigned Γ x Δs) s) _ (merge_name_kept n c x (assigned Γ x Δs) s h)
      (λ s₁ h₁. merge_names_kept n c Γ Δs xs s₁ h₁)

  merge_kept : (n c : ℕ) (Δs : List Frames) (s : State) → length s.frames ≡ n → Kept n (merge ws c Δs s)
  unfolding merge
  merge_kept n c Δs s h = merge_names_kept n c s.frames Δs _ s h

  assign_name_kept : (n m x : ℕ) (t : Ty) (s : State) → length s.frames ≡ n → Kept n (assign_name m x t s)
  unfolding assign_name
  assign_name_kept n m x t s h =
      some_kept n (agreed _ t) _ _ (λ u. bind_kept n x _ s h) (conflict_kept n _ m _ _ s (inr refl))

  return_kept : (n m : ℕ) (t : Ty) (s : State) → length s.frames ≡ n → Kept n (return_rule m t s)
  unfolding return_rule
  return_kept n m t s h =
      some_kept n (agreed _ t) _ _ (λ u. done_kept n _ h) (refuse_kept n _ m _ s (omega arith) (omega arith))

  checked_kept : (n : ℕ) (e : Expr) (s : State) (k : Ty → End) → ((t : Ty) → Kept n (k t)) → Kept n (checked ws e s k)
  unfolding checked
  checked_kept n e s k h = typed_kept n _ s k (check_fair ws s.frames e) h

  condition_kept : (n : ℕ) (e : Expr) (s : State) → length s.frames ≡ n → Kept n (condition ws e s)
  unfolding condition
  condition_kept n e s h =
      checked_kept n e s _ (λ t. if_kept n _ _ _ (done_kept n s h) (refuse_kept n _ _ _ s (omega arith) (omega arith)))

  no_target : (n m : ℕ) (s : State) → Kept n (refuse 28 m [] s)
  no_target n m s = refuse_kept n 28 m [] s (omega arith) (omega arith)

  mutual
    unfolding assign_to unpack_into

    assign_kept : (n : ℕ) (e : Expr) (t : Ty) (s : State) → length s.frames ≡ n → Kept n (assign_to ws e t s)
    assign_kept n (at m f) t s h = form_kept n m f t s h

    form_kept : (n m : ℕ) (f : Form) (t : Ty) (s : State) → length s.frames ≡ n → Kept n (assign_form ws m f t s)
    form_kept n m (literal l) t s h = no_target n m s
    form_kept n m (variable x) t s h = assign_name_kept n m x t s h
    form_kept n m (unary o e) t s h = no_target n m s
    form_kept n m (binary o l r) t s h = no_target n m s
    form_kept n m (call f es) t s h = no_target n m s
    form_kept n m (attribute e) t s h = checked_kept n _ s _ (λ u. done_kept n s h)
    form_kept n m (list_of es) t s h = no_target n m s
    form_kept n m (dict_of es) t s h = no_target n m s
    form_kept n m (tuple_of es) t s h =
        some_kept n (unpacked _ t) _ _ (λ ts. if_kept n _ _ _ (each_kept n es ts s h) (refuse_kept n _ m _ s (omega arith) (omega arith)))
        (refuse_kept n _ m _ s (omega arith) (omega arith))
    form_kept n m (set_of es) t s h = no_target n m s
    form_kept n m (index o i) t s h = checked_kept n _ s _ (λ u. done_kept n s h)
    form_kept n m lambda t s h = no_target n m s

    each_kept : (n : ℕ) (es : Exprs) (ts : List Ty) (s : State) → length s.frames ≡ n → Kept n (assign_each ws es ts s)
    each_kept n no_exprs ts s h = done_kept n s h
    each_kept n (e also es) ts s h = onwards n (assign_to ws e _ s) _ (assign_kept n e _ s h) (λ s₁ h₁. each_kept n es (tail ts) s₁ h₁)

  -- a target is refused with a typing code, whatever the frames
  pub refused_target : (e : Expr) (t : Ty) (s : State) {r : Refusal} {s₁ : State} → assign_to ws e t s ≡ wrong r s₁ → Typing r
  refused_target e t s w = kept_wrong (length s.frames) (assign_kept (length s.frames) e t s refl) w

-- ---- statements, under either setting

module _ (ws : List Name) (setting : Setting) where
  mutual
    unfolding walk

    pub walk_kept : (n : ℕ) (loop : Bool) (a : Stmt) (s : State) → length s.frames ≡ n → Kept n (walk ws setting loop a s)
    walk_kept n loop (line m a) s h = act_kept n loop m a s h

    act_kept : (n : ℕ) (loop : Bool) (m : ℕ) (a : Act) (s : State) → length s.frames ≡ n → Kept n (act ws setting loop m a s)
    act_kept n loop m break s h = only_kept n loop 20 m s (omega arith) (omega arith) h
    act_kept n loop m continue s h = only_kept n loop 21 m s (omega arith) (omega arith) h
    act_kept n loop m pass s h = done_kept n s h
    act_kept n loop m class s h = done_kept n s h
    act_kept n loop m (assign e v) s h = checked_kept ws n v s _ (λ t. assign_kept ws n e t s h)
    act_kept n loop m (expr e) s h = checked_kept ws n e s _ (λ t. done_kept n s h)
    act_kept n loop m (return e) s h = checked_kept ws n e s _ (λ t. return_kept ws n _ t s h)
    act_kept n loop m (if_then as') s h = branches_kept n loop _ [] as' s h
    act_kept n loop m (while c b) s h =
        onwards n (condition ws c s) _ (condition_kept ws n c s h)
        (λ s₁ h₁. back_kept n s _ h (left_coded (dropping setting) n _ (body_left n true (dropping setting) b s₁ h₁)))
    act_kept n loop m (for x e b) s h =
        checked_kept ws n e s _ (λ t. over_kept n _ t s _
        (λ u. back_kept n s _ h (left_coded false n _ (body_left n true false b _ (write_kept x _ s.frames ∙ h)))))
    act_kept n loop m (def xs b) s h =
        room_kept n m s _ (returns_kept n s.returns _ (popped_kept n _ (left_kept (suc n) _ (body_left (suc n) false false b _ (enter_kept n xs s h)))))

    pub body_left : (n : ℕ) (loop drops : Bool) (b : Stmts) (s : State) → length s.frames ≡ n → Left drops n (body ws setting loop drops b s)
    body_left n loop drops no_stmts s h = done_left drops n s h
    body_left n loop drops (a next b) s h =
        onward_left drops n (walk ws setting loop a s) _ (walk_kept n loop a s h) (λ m s₁ h₁. body_left m loop drops b s₁ h₁)

    pub arm_left : (n : ℕ) (loop : Bool) (a : Arm) (s : State) → length s.frames ≡ n → Left (dropping setting) n (arm ws setting loop a s)
    arm_left n loop (on c b) s h =
        then_left (dropping setting) n (condition ws c s) _ (condition_kept ws n c s h) (λ s₁ h₁. body_left n loop (dropping setting) b s₁ h₁)
    arm_left n loop (otherwise b) s h = body_left n loop (dropping setting) b s h

    branches_kept : (n : ℕ) (loop : Bool) (c : ℕ) (Δs : List Frames) (as' : Arms) (s : State) → length s.frames ≡ n
        → Kept n (branches ws setting loop c Δs as' s)
    branches_kept n loop c Δs no_arms s h = merge_kept ws n c Δs s h
    branches_kept n loop c Δs (a else_arms rest) s h =
        whatever n _ _ (copy_coded s.frames _ (left_coded (dropping setting) n _ (arm_left n loop a s h))) (λ s₁. branches_kept n loop c _ rest _ h)

  pub program_kept : (n : ℕ) (b : Stmts) (s : State) → length s.frames ≡ n → Kept n (program ws setting b s)
  unfolding program
  program_kept n no_stmts s h = done_kept n s h
  program_kept n (a next b) s h = onwards n (walk ws setting false a _) _ (walk_kept n false a _ h) (λ s₁ h₁. program_kept n b s₁ h₁)

  -- ---- the program

  start_one : length start.frames ≡ 1
  unfolding start
  start_one = refl

  -- "An accepted program ends with exactly one frame", and a refused one with a typing code
  pub accepted_one_frame : (b : Stmts) (s : State) → program ws setting b start ≡ done s → length s.frames ≡ 1
  accepted_one_frame b s e = kept_done 1 (program_kept 1 b start start_one) e

  pub refused_typing : (b : Stmts) (r : Refusal) (s : State) → program ws setting b start ≡ wrong r s → Typing r
  refused_typing b r s e = kept_wrong 1 (program_kept 1 b start start_one) e
