-- Where the setting does not matter: plain and strict differ only where strict refuses inside a body of an If or a While. So nothing but
-- the dropping is removed. (False of a strict that also merged otherwise, say, or looked at the arguments which T leaves out.)
use mathlib.Core.Path.{◌≡◌, refl, ap}
use mathlib.Core.Bool.{Bool, true, false}
use mathlib.Core.Logic.{◌⊎◌, inl, inr, ⊎_elim}
use mathlib.Core.List.{List, [], ◌∷◌, ◌++◌}
use mathlib.Core.Option.{Option, none, some}
use Prim.Native.Nat.{ℕ}
use Rattle.meaning.specs.Base.{choose, test◌then◌else◌, if_some}
use Rattle.meaning.specs.Types.{Ty}
use Rattle.meaning.specs.Tree.{Stmt, line, Act, break, continue, pass, class, assign, expr, return, if_then, while, for, def, Stmts, no_stmts, ◌next◌, Arms, no_arms, ◌else_arms◌, Arm, on, otherwise}
use Rattle.meaning.specs.Image.{Name, Node, check_fault, names_of, nodes_of}
use Rattle.meaning.specs.Decode.{tree_of}
use Rattle.meaning.specs.Message.{Refusal}
use Rattle.meaning.specs.Frames.{Frames}
use Rattle.meaning.specs.Operators.{Checked, ok, refused}
use Rattle.meaning.specs.Rules.{element_of}
use Rattle.meaning.specs.Walk.{plain, strict, dropping, State, End, done, wrong, too_deep, ◌>>=◌, onward, after, on_copy, typed, popped, if_room, over_elements, checked, condition, walk, act, body, arm, branches, program, start}
use Rattle.meaning.specs.Answer.{setting_of, bare, ended, walked, walk_answer, unless_fault, answer_under, answer}
use Rattle.meaning.proofs.Strict.{agrees_done, agrees_deep, body_agrees}

-- the bodies of Ifs and Whiles, those that stand in no other such body
unfoldable mutual
  pub bodies_in : Stmt → List Stmts
  bodies_in (line n a) = bodies_in_act a

  pub bodies_in_act : Act → List Stmts
  bodies_in_act break = []
  bodies_in_act continue = []
  bodies_in_act pass = []
  bodies_in_act class = []
  bodies_in_act (assign e v) = []
  bodies_in_act (expr e) = []
  bodies_in_act (return e) = []
  bodies_in_act (if_then as') = bodies_in_arms as'
  bodies_in_act (while c b) = b ∷ []
  bodies_in_act (for x e b) = bodies_in_all b
  bodies_in_act (def xs b) = bodies_in_all b

  pub bodies_in_all : Stmts → List Stmts
  bodies_in_all no_stmts = []
  bodies_in_all (a next b) = bodies_in a ++ bodies_in_all b

  pub bodies_in_arms : Arms → List Stmts
  bodies_in_arms no_arms = []
  bodies_in_arms (a else_arms rest) = bodies_in_arm a ++ bodies_in_arms rest

  pub bodies_in_arm : Arm → List Stmts
  bodies_in_arm (on c b) = b ∷ []
  bodies_in_arm (otherwise b) = b ∷ []

-- strict refuses the body b by r, entered somewhere
pub record Refuses (ws : List Name) (b : Stmts) (r : Refusal) : Type 0 where
  pub loop : Bool
  pub entered : State
  pub stood : State
  pub says : body ws strict loop false b entered ≡ wrong r stood

pub OneRefuses : List Name → List Stmts → Refusal → Type 0
OneRefuses ws [] r = ⊥
OneRefuses ws (b ∷ bs) r = Refuses ws b r ⊎ OneRefuses ws bs r

module _ (ws : List Name) where
  in_left : (bs cs : List Stmts) (r : Refusal) → OneRefuses ws bs r → OneRefuses ws (bs ++ cs) r
  unfolding OneRefuses
  in_left [] cs r h = absurd h
  in_left (b ∷ bs) cs r h = ⊎_elim (λ x. inl x) (λ x. inr (in_left bs cs r x)) h

  in_right : (bs cs : List Stmts) (r : Refusal) → OneRefuses ws cs r → OneRefuses ws (bs ++ cs) r
  unfolding OneRefuses
  in_right [] cs r h = h
  in_right (b ∷ bs) cs r h = inr (in_right bs cs r h)

  -- plain ends as strict does, unless strict refuses one of the bodies
  Like : List Stmts → End → End → Type 0
  Like bs (done s) e = e ≡ done s
  Like bs (wrong r s) e = (e ≡ wrong r s) ⊎ OneRefuses ws bs r
  Like bs (too_deep n) e = e ≡ too_deep n

  same_like : (bs : List Stmts) (e : End) → Like bs e e
  unfolding Like
  same_like bs (done s) = refl
  same_like bs (wrong r s) = inl refl
  same_like bs (too_deep n) = refl

  like_left : (bs cs : List Stmts) (d e : End) → Like bs d e → Like (bs ++ cs) d e
  unfolding Like
  like_left bs cs (done s) e h = h
  like_left bs cs (wrong r s) e h = ⊎_elim (λ p. inl p) (λ x. inr (in_left bs cs r x)) h
  like_left bs cs (too_deep n) e h = h

  like_right : (bs cs : List Stmts) (d e : End) → Like cs d e → Like (bs ++ cs) d e
  unfolding Like
  like_right bs cs (done s) e h = h
  like_right bs cs (wrong r s) e h = ⊎_elim (λ p. inl p) (λ x. inr (in_right bs cs r x)) h
  like_right bs cs (too_deep n) e h = h

  then_like : (bs : List Stmts) (d e : End) (k l : State → End) → Like bs d e → ((s : State) → Like bs (k s) (l s)) → Like bs (d >>= k) (e >>= l)
  unfolding Like ◌>>=◌
  then_like bs (done s) e k l h g = rw h (g s)
  then_like bs (wrong r s) e k l h g = ⊎_elim (λ p. inl (rw p)) (λ x. inr x) h
  then_like bs (too_deep n) e k l h g = rw h

  onward_like : (bs : List Stmts) (d e : End) (k l : State → End) → Like bs d e → ((s : State) → Like bs (k s) (l s))
      → Like bs (onward false d k) (onward false e l)
  unfolding Like onward
  onward_like bs (done s) e k l h g = rw h (g s)
  onward_like bs (wrong r s) e k l h g = ⊎_elim (λ p. inl (rw p)) (λ x. inr x) h
  onward_like bs (too_deep n) e k l h g = rw h

  after_like : (bs : List Stmts) (f : State → State) (d e : End) → Like bs d e → Like bs (after f d) (after f e)
  unfolding Like after
  after_like bs f (done s) e h = rw h
  after_like bs f (wrong r s) e h = ⊎_elim (λ p. inl (rw p)) (λ x. inr x) h
  after_like bs f (too_deep n) e h = rw h

  copy_like : (bs : List Stmts) (Γ : Frames) (d e : End) → Like bs d e → Like bs (on_copy Γ d) (on_copy Γ e)
  unfolding Like on_copy
  copy_like bs Γ (done s) e h = rw h
  copy_like bs Γ (wrong r s) e h = ⊎_elim (λ p. inl (rw p)) (λ x. inr x) h
  copy_like bs Γ (too_deep n) e h = rw h

  popped_like : (bs : List Stmts) (d e : End) → Like bs d e → Like bs (popped d) (popped e)
  unfolding Like popped
  popped_like bs (done s) e h = rw h
  popped_like bs (wrong r s) e h = ⊎_elim (λ p. inl (rw p)) (λ x. inr x) h
  popped_like bs (too_deep n) e h = rw h

  if_like : (bs : List Stmts) (b : Bool) (c d e : End) → Like bs c d → Like bs (test b then c else e) (test b then d else e)
  unfolding test◌then◌else◌
  if_like bs true c d e h = h
  if_like bs false c d e h = same_like bs e

  some_like : (bs : List Stmts) (o : Option Ty) (k l : Ty → End) (e : End) → ((t : Ty) → Like bs (k t) (l t)) → Like bs (if_some o k e) (if_some o l e)
  unfolding if_some
  some_like bs none k l e h = same_like bs e
  some_like bs (some t) k l e h = h t

  typed_like : (bs : List Stmts) (c : Checked) (s : State) (k l : Ty → End) → ((t : Ty) → Like bs (k t) (l t)) → Like bs (typed c s k) (typed c s l)
  unfolding typed
  typed_like bs (ok t) s k l h = h t
  typed_like bs (refused r) s k l h = same_like bs (wrong r s)

  -- an If's or While's own body
  own_like : (loop : Bool) (b : Stmts) (s : State) → Like (b ∷ []) (body ws strict loop false b s) (body ws plain loop true b s)
  unfolding Like OneRefuses
  own_like loop b s = by (body ws strict loop false b s) refl
    where
      by : (d : End) → body ws strict loop false b s ≡ d → Like (b ∷ []) d (body ws plain loop true b s)
      by (done s₁) p = agrees_done (body_agrees ws loop true b s) p
      by (wrong r s₁) p = inr (inl (record { loop = loop; entered = s; stood = s₁; says = p }))
      by (too_deep n) p = agrees_deep (body_agrees ws loop true b s) p

  mutual
    unfolding walk dropping bodies_in checked over_elements if_room

    walk_like : (loop : Bool) (a : Stmt) (s : State) → Like (bodies_in a) (walk ws strict loop a s) (walk ws plain loop a s)
    walk_like loop (line n a) s = act_like loop n a s

    act_like : (loop : Bool) (n : ℕ) (a : Act) (s : State) → Like (bodies_in_act a) (act ws strict loop n a s) (act ws plain loop n a s)
    act_like loop n break s = same_like [] _
    act_like loop n continue s = same_like [] _
    act_like loop n pass s = same_like [] _
    act_like loop n class s = same_like [] _
    act_like loop n (assign e v) s = same_like [] _
    act_like loop n (expr e) s = same_like [] _
    act_like loop n (return e) s = same_like [] _
    act_like loop n (if_then as') s = branches_like loop _ [] as' s
    act_like loop n (while c b) s =
        then_like _ (condition ws c s) _ _ _ (same_like _ _) (λ s₁. after_like _ _ _ _ (own_like true b s₁))
    act_like loop n (for x e b) s =
        typed_like _ _ s _ _ (λ t. some_like _ (element_of t) _ _ _ (λ u. after_like _ _ _ _ (body_like true b _)))
    act_like loop n (def xs b) s = if_like _ _ _ _ _ (after_like _ _ _ _ (popped_like _ _ _ (body_like false b _)))

    -- a body whose errors both return
    body_like : (loop : Bool) (b : Stmts) (s : State) → Like (bodies_in_all b) (body ws strict loop false b s) (body ws plain loop false b s)
    body_like loop no_stmts s = same_like [] (done s)
    body_like loop (a next b) s =
        onward_like _ (walk ws strict loop a s) _ _ _ (like_left _ (bodies_in_all b) _ _ (walk_like loop a s))
        (λ s₁. like_right (bodies_in a) _ _ _ (body_like loop b s₁))

    arm_like : (loop : Bool) (a : Arm) (s : State) → Like (bodies_in_arm a) (arm ws strict loop a s) (arm ws plain loop a s)
    arm_like loop (on c b) s = then_like _ (condition ws c s) _ _ _ (same_like _ _) (λ s₁. own_like loop b s₁)
    arm_like loop (otherwise b) s = own_like loop b s

    branches_like : (loop : Bool) (c : ℕ) (Δs : List Frames) (as' : Arms) (s : State)
        → Like (bodies_in_arms as') (branches ws strict loop c Δs as' s) (branches ws plain loop c Δs as' s)
    branches_like loop c Δs no_arms s = same_like [] _
    branches_like loop c Δs (a else_arms rest) s =
        then_like _ (on_copy s.frames (arm ws strict loop a s)) _ _ _
        (like_left _ (bodies_in_arms rest) _ _ (copy_like _ _ _ _ (arm_like loop a s)))
        (λ s₁. like_right (bodies_in_arm a) _ _ _ (branches_like loop c _ rest _))

  program_like : (b : Stmts) (s : State) → Like (bodies_in_all b) (program ws strict b s) (program ws plain b s)
  unfolding program bodies_in_all
  program_like no_stmts s = same_like [] (done s)
  program_like (a next b) s =
      then_like _ (walk ws strict false a _) _ _ _ (like_left _ (bodies_in_all b) _ _ (walk_like false a _))
      (λ s₁. like_right (bodies_in a) _ _ _ (program_like b s₁))

  -- if strict refuses outside every If and While body, plain refuses alike
  pub refuses_alike : (b : Stmts) (s : State) (r : Refusal) (s₁ : State) → program ws strict b s ≡ wrong r s₁
      → (program ws plain b s ≡ wrong r s₁) ⊎ OneRefuses ws (bodies_in_all b) r
  unfolding Like
  refuses_alike b s r s₁ e = rw e at (program_like b s)

-- ---- the answer

-- strict refuses an If's or a While's body of the program
abbrev pub RefusesInside : List ℕ → Type 0
RefusesInside bs = (r : Refusal) × OneRefuses (names_of bs) (bodies_in_all (tree_of (nodes_of bs))) r

ended_like : (ws : List Name) (ds : List Node) (sheet_room message_room : ℕ) (bs : List Stmts) (d e : End) → Like ws bs d e
    → (ended ws ds sheet_room message_room e ≡ ended ws ds sheet_room message_room d) ⊎ ((r : Refusal) × OneRefuses ws bs r)
unfolding Like
ended_like ws ds sheet_room message_room bs (done s) e h = inl (rw h)
ended_like ws ds sheet_room message_room bs (wrong r s) e h = ⊎_elim (λ p. inl (rw p)) (λ x. inr (r, x)) h
ended_like ws ds sheet_room message_room bs (too_deep n) e h = inl (rw h)

module _ (bs : List ℕ) (sheet_room message_room : ℕ) where
  pub answers_alike : (answer 0 bs sheet_room message_room ≡ answer 1 bs sheet_room message_room) ⊎ RefusesInside bs
  unfolding answer setting_of choose if_some test◌then◌else◌ answer_under unless_fault walk_answer walked
  answers_alike =
      ⊎_elim (λ e. inl (ap (λ a. if_some (check_fault bs) (λ f. bare f.code f.place) a) e)) (λ x. inr x)
      (ended_like (names_of bs) (nodes_of bs) sheet_room message_room (bodies_in_all (tree_of (nodes_of bs))) _ _ (program_like (names_of bs) (tree_of (nodes_of bs)) start))

  -- a program with no If and no While gets one answer in both
  pub straight_answers : bodies_in_all (tree_of (nodes_of bs)) ≡ [] → answer 0 bs sheet_room message_room ≡ answer 1 bs sheet_room message_room
  unfolding OneRefuses
  straight_answers h = ⊎_elim (λ e. e) (λ x. absurd (rw h at x.1)) answers_alike
