-- Strict beside plain. Document 02: "Prove that what strict accepts, plain accepts with the same sheet, and that strict leaves no stray
-- frame in an accepted program."
use mathlib.Core.Path.{◌≡◌, refl, ◌∙◌, sym}
use mathlib.Core.Bool.{Bool, true, false}
use mathlib.Core.List.{List, [], ◌∷◌, ◌++◌}
use mathlib.Core.Option.{Option, none, some}
use Prim.Native.Nat.{ℕ, ◌<◌}
use native.Mathlib.Omega.{arith}
use lib.ListN.{length}
use Rattle.meaning.specs.Base.{choose, test◌then◌else◌, if_some}
use Rattle.meaning.specs.Types.{Ty, unknown, bool}
use Rattle.meaning.specs.Tree.{at, literal, Stmt, line, Act, break, continue, pass, class, assign, expr, return, if_then, while, for, def, Stmts, no_stmts, ◌next◌, Arms, no_arms, ◌else_arms◌, Arm, on, otherwise, first_condition}
use Rattle.meaning.specs.Image.{Name, Node, Fault, check_fault, names_of, nodes_of}
use Rattle.meaning.specs.Decode.{tree_of}
use Rattle.meaning.specs.Message.{Refusal, refusal}
use Rattle.meaning.specs.Frames.{Frames, empty}
use Rattle.meaning.specs.Operators.{Checked, ok, refused}
use Rattle.meaning.specs.Rules.{element_of}
use Rattle.meaning.specs.Walk.{plain, strict, dropping, State, state, End, done, wrong, too_deep, ◌>>=◌, onward, after, on_copy, typed, merge, popped, if_room, over_elements, checked, condition, walk, act, body, arm, branches, program, start}
use Rattle.meaning.specs.Answer.{setting_of, Answer, bare, ended, walked, walk_answer, unless_fault, answer_under, answer, meaning_open}
use Rattle.meaning.proofs.Rows.{image}
use Rattle.meaning.proofs.Codes.{Typing}
use Rattle.meaning.proofs.Statements.{wrong_done, deep_done, arm_done, arm_fails, arm_deep}
use Rattle.meaning.proofs.Kept.{kept_done, left_kept, walk_kept, body_left, arm_left, refused_typing}

-- ---- unless strict refuses, plain ends as strict does

pub Agrees : End → End → Type 0
Agrees (done s) e = e ≡ done s
Agrees (wrong r s) e = Unit {0}
Agrees (too_deep n) e = e ≡ too_deep n

same_agrees : (e : End) → Agrees e e
unfolding Agrees
same_agrees (done s) = refl
same_agrees (wrong r s) = tt
same_agrees (too_deep n) = refl

then_agrees : (d e : End) (k l : State → End) → Agrees d e → ((s : State) → Agrees (k s) (l s)) → Agrees (d >>= k) (e >>= l)
unfolding Agrees ◌>>=◌
then_agrees (done s) e k l h g = rw h (g s)
then_agrees (wrong r s) e k l h g = tt
then_agrees (too_deep n) e k l h g = rw h

-- a body whose errors strict returns, and plain drops or returns
onward_agrees : (drops : Bool) (d e : End) (k l : State → End) → Agrees d e → ((s : State) → Agrees (k s) (l s))
    → Agrees (onward false d k) (onward drops e l)
unfolding Agrees onward
onward_agrees drops (done s) e k l h g = rw h (g s)
onward_agrees drops (wrong r s) e k l h g = tt
onward_agrees drops (too_deep n) e k l h g = rw h

after_agrees : (f : State → State) (d e : End) → Agrees d e → Agrees (after f d) (after f e)
unfolding Agrees after
after_agrees f (done s) e h = rw h
after_agrees f (wrong r s) e h = tt
after_agrees f (too_deep n) e h = rw h

copy_agrees : (Γ : Frames) (d e : End) → Agrees d e → Agrees (on_copy Γ d) (on_copy Γ e)
unfolding Agrees on_copy
copy_agrees Γ (done s) e h = rw h
copy_agrees Γ (wrong r s) e h = tt
copy_agrees Γ (too_deep n) e h = rw h

popped_agrees : (d e : End) → Agrees d e → Agrees (popped d) (popped e)
unfolding Agrees popped
popped_agrees (done s) e h = rw h
popped_agrees (wrong r s) e h = tt
popped_agrees (too_deep n) e h = rw h

if_agrees : (b : Bool) (c d e : End) → Agrees c d → Agrees (test b then c else e) (test b then d else e)
unfolding test◌then◌else◌
if_agrees true c d e h = h
if_agrees false c d e h = same_agrees e

some_agrees : (o : Option Ty) (k l : Ty → End) (e : End) → ((t : Ty) → Agrees (k t) (l t)) → Agrees (if_some o k e) (if_some o l e)
unfolding if_some
some_agrees none k l e h = same_agrees e
some_agrees (some t) k l e h = h t

typed_agrees : (c : Checked) (s : State) (k l : Ty → End) → ((t : Ty) → Agrees (k t) (l t)) → Agrees (typed c s k) (typed c s l)
unfolding typed
typed_agrees (ok t) s k l h = h t
typed_agrees (refused r) s k l h = same_agrees (wrong r s)

pub agrees_done : {d e : End} {s : State} → Agrees d e → d ≡ done s → e ≡ done s
unfolding Agrees
agrees_done h p = rw p at h

pub agrees_deep : {d e : End} {n : ℕ} → Agrees d e → d ≡ too_deep n → e ≡ too_deep n
unfolding Agrees
agrees_deep h p = rw p at h

module _ (ws : List Name) where
  mutual
    unfolding walk dropping checked over_elements if_room

    walk_agrees : (loop : Bool) (a : Stmt) (s : State) → Agrees (walk ws strict loop a s) (walk ws plain loop a s)
    walk_agrees loop (line n a) s = act_agrees loop n a s

    act_agrees : (loop : Bool) (n : ℕ) (a : Act) (s : State) → Agrees (act ws strict loop n a s) (act ws plain loop n a s)
    act_agrees loop n break s = same_agrees _
    act_agrees loop n continue s = same_agrees _
    act_agrees loop n pass s = same_agrees _
    act_agrees loop n class s = same_agrees _
    act_agrees loop n (assign e v) s = same_agrees _
    act_agrees loop n (expr e) s = same_agrees _
    act_agrees loop n (return e) s = same_agrees _
    act_agrees loop n (if_then as') s = branches_agree loop _ [] as' s
    act_agrees loop n (while c b) s =
        then_agrees (condition ws c s) _ _ _ (same_agrees _) (λ s₁. after_agrees _ _ _ (body_agrees true true b s₁))
    act_agrees loop n (for x e b) s =
        typed_agrees _ s _ _ (λ t. some_agrees (element_of t) _ _ _ (λ u. after_agrees _ _ _ (body_agrees true false b _)))
    act_agrees loop n (def xs b) s = if_agrees _ _ _ _ (after_agrees _ _ _ (popped_agrees _ _ (body_agrees false false b _)))

    pub body_agrees : (loop drops : Bool) (b : Stmts) (s : State) → Agrees (body ws strict loop false b s) (body ws plain loop drops b s)
    body_agrees loop drops no_stmts s = same_agrees (done s)
    body_agrees loop drops (a next b) s =
        onward_agrees drops (walk ws strict loop a s) _ _ _ (walk_agrees loop a s) (λ s₁. body_agrees loop drops b s₁)

    arm_agrees : (loop : Bool) (a : Arm) (s : State) → Agrees (arm ws strict loop a s) (arm ws plain loop a s)
    arm_agrees loop (on c b) s = then_agrees (condition ws c s) _ _ _ (same_agrees _) (λ s₁. body_agrees loop true b s₁)
    arm_agrees loop (otherwise b) s = body_agrees loop true b s

    branches_agree : (loop : Bool) (c : ℕ) (Δs : List Frames) (as' : Arms) (s : State)
        → Agrees (branches ws strict loop c Δs as' s) (branches ws plain loop c Δs as' s)
    branches_agree loop c Δs no_arms s = same_agrees _
    branches_agree loop c Δs (a else_arms rest) s =
        then_agrees (on_copy s.frames (arm ws strict loop a s)) _ _ _ (copy_agrees _ _ _ (arm_agrees loop a s))
        (λ s₁. branches_agree loop c _ rest _)

  program_agrees : (b : Stmts) (s : State) → Agrees (program ws strict b s) (program ws plain b s)
  unfolding program
  program_agrees no_stmts s = same_agrees (done s)
  program_agrees (a next b) s = then_agrees (walk ws strict false a _) _ _ _ (walk_agrees false a _) (λ s₁. program_agrees b s₁)

  -- ---- "what strict accepts, plain accepts", in the same state: a statement, a body, a branch, a program

  pub accepts_statement : (loop : Bool) (a : Stmt) (s s₁ : State) → walk ws strict loop a s ≡ done s₁ → walk ws plain loop a s ≡ done s₁
  accepts_statement loop a s s₁ e = agrees_done (walk_agrees loop a s) e

  -- whether plain drops the body's errors, as If and While do, or returns them, as For and Def do
  pub accepts_body : (loop drops : Bool) (b : Stmts) (s s₁ : State) → body ws strict loop false b s ≡ done s₁
      → body ws plain loop drops b s ≡ done s₁
  accepts_body loop drops b s s₁ e = agrees_done (body_agrees loop drops b s) e

  pub accepts_branch : (loop : Bool) (a : Arm) (s s₁ : State) → arm ws strict loop a s ≡ done s₁ → arm ws plain loop a s ≡ done s₁
  accepts_branch loop a s s₁ e = agrees_done (arm_agrees loop a s) e

  pub accepts_program : (b : Stmts) (s s₁ : State) → program ws strict b s ≡ done s₁ → program ws plain b s ≡ done s₁
  accepts_program b s s₁ e = agrees_done (program_agrees b s) e

  -- a ninth frame that strict meets, plain meets too (and not the other way: stray frames count)
  pub deep_program : (b : Stmts) (s : State) (n : ℕ) → program ws strict b s ≡ too_deep n → program ws plain b s ≡ too_deep n
  deep_program b s n e = agrees_deep (program_agrees b s) e

-- ---- "strict leaves no stray frame": what strict ends well leaves as many frames as it found

-- frames of one height
pub Level : ℕ → List Frames → Type 0
Level n [] = Unit {0}
Level n (Δ ∷ Δs) = (length Δ ≡ n) × Level n Δs

level_snoc : (n : ℕ) (Δs : List Frames) (Δ : Frames) → Level n Δs → length Δ ≡ n → Level n (Δs ++ (Δ ∷ []))
unfolding Level
level_snoc n [] Δ h e = (e, tt)
level_snoc n (Δ₁ ∷ Δs) Δ h e = (h.0, level_snoc n Δs Δ h.1 e)

module _ (ws : List Name) where
  pub level_statement : (loop : Bool) (a : Stmt) (s s₁ : State) → walk ws strict loop a s ≡ done s₁ → length s₁.frames ≡ length s.frames
  level_statement loop a s s₁ e = kept_done _ (walk_kept ws strict _ loop a s refl) e

  -- the body of an If, a While, a For or a Def: strict returns the errors of each
  pub level_body : (loop : Bool) (b : Stmts) (s s₁ : State) → body ws strict loop false b s ≡ done s₁ → length s₁.frames ≡ length s.frames
  level_body loop b s s₁ e = kept_done _ (left_kept _ _ (body_left ws strict _ loop false b s refl)) e

  pub level_branch : (loop : Bool) (a : Arm) (s s₁ : State) → arm ws strict loop a s ≡ done s₁ → length s₁.frames ≡ length s.frames
  unfolding dropping
  level_branch loop a s s₁ e = kept_done _ (left_kept _ _ (arm_left ws strict _ loop a s refl)) e

  -- so an If that ends well merges branches which are as high as its base
  pub record Merging (loop : Bool) (c : ℕ) (Δs : List Frames) (as' : Arms) (s : State) : Type 0 where
    pub merged : List Frames
    pub returned : Ty
    pub level : Level (length s.frames) merged
    pub says : branches ws strict loop c Δs as' s ≡ merge ws c merged (state s.frames returned)

  level_step : (loop : Bool) (c : ℕ) (Δs : List Frames) (a : Arm) (rest : Arms) (s s₁ : State) (d : End) → arm ws strict loop a s ≡ d
      → branches ws strict loop c Δs (a else_arms rest) s ≡ done s₁
      → ((s₂ : State) → d ≡ done s₂ → branches ws strict loop c (Δs ++ (s₂.frames ∷ [])) rest (state s.frames s₂.returns) ≡ done s₁
      → Merging loop c (Δs ++ (s₂.frames ∷ [])) rest (state s.frames s₂.returns))
      → Merging loop c Δs (a else_arms rest) s
  level_step loop c Δs a rest s s₁ (done s₂) p e ih =
      let one = arm_done ws strict loop c Δs a rest s s₂ p in
      let m = ih s₂ refl (sym one ∙ e) in
      record { merged = m.merged; returned = m.returned; level = m.level; says = one ∙ m.says }
  level_step loop c Δs a rest s s₁ (wrong r s₂) p e ih =
      absurd (wrong_done (sym (arm_fails ws strict loop c Δs a rest s s₂ r p) ∙ e))
  level_step loop c Δs a rest s s₁ (too_deep n) p e ih =
      absurd (deep_done (sym (arm_deep ws strict loop c Δs a rest s n p) ∙ e))

  pub level_merge : (loop : Bool) (c : ℕ) (Δs : List Frames) (as' : Arms) (s s₁ : State) → Level (length s.frames) Δs
      → branches ws strict loop c Δs as' s ≡ done s₁ → Merging loop c Δs as' s
  unfolding branches
  level_merge loop c Δs no_arms s s₁ h e = record { merged = Δs; returned = s.returns; level = h; says = refl }
  level_merge loop c Δs (a else_arms rest) s s₁ h e =
      level_step loop c Δs a rest s s₁ (arm ws strict loop a s) refl e
      (λ s₂ p q. level_merge loop c _ rest _ s₁ (level_snoc _ Δs s₂.frames h (level_branch loop a s s₂ p)) q)

  pub level_if : (loop : Bool) (n : ℕ) (as' : Arms) (s s₁ : State) → act ws strict loop n (if_then as') s ≡ done s₁
      → Merging loop (first_condition as') [] as' s
  unfolding act Level
  level_if loop n as' s s₁ e = level_merge loop _ [] as' s s₁ tt e

-- ---- in plain `level_body` is false of an If's body: `if True:` with `def f():` and `break`

abbrev stray_image : List ℕ
stray_image =
    image (("f", 4, 0, 0) ∷ [])
    ((12 ∷ 0 ∷ 1 ∷ 7 ∷ 0 ∷ 0 ∷ []) ∷ (8 ∷ 0 ∷ 2 ∷ 7 ∷ 0 ∷ 26 ∷ []) ∷ (20 ∷ 0 ∷ 0 ∷ 3 ∷ 3 ∷ 7 ∷ []) ∷ (12 ∷ 0 ∷ 1 ∷ 7 ∷ 0 ∷ 0 ∷ []) ∷ (11 ∷ 0 ∷ 1 ∷ 7 ∷ 10 ∷ 26 ∷ []) ∷ (12 ∷ 0 ∷ 1 ∷ 7 ∷ 0 ∷ 0 ∷ []) ∷ (1 ∷ 0 ∷ 0 ∷ 7 ∷ 21 ∷ 26 ∷ []) ∷ [])

abbrev stray_body : Stmts
stray_body = line 4 (def [] (line 6 break next no_stmts)) next no_stmts

pub stray_tree : tree_of (nodes_of stray_image) ≡ (line 1 (if_then (on (at 2 (literal bool)) stray_body else_arms no_arms)) next no_stmts)
unfolding meaning_open
stray_tree = refl

-- its body begins with one frame and ends well with two
pub plain_strays : body (names_of stray_image) plain false true stray_body start ≡ done (state (empty ∷ empty ∷ []) unknown)
unfolding meaning_open
plain_strays = refl

-- so `level_body` with plain in strict's place is false
pub plain_not_level : ((b : Stmts) (s s₁ : State) → body (names_of stray_image) plain false true b s ≡ done s₁ → length s₁.frames ≡ length s.frames) → ⊥
unfolding start
plain_not_level h = omega (arith, h stray_body start _ plain_strays)

-- and yet the program is accepted and ends with one, so that the number of frames at the end tells nothing
pub plain_ends_level : walked plain stray_image ≡ done start
unfolding meaning_open
plain_ends_level = refl

pub strict_refuses : walked strict stray_image ≡ wrong (refusal 20 6 []) start
unfolding meaning_open
strict_refuses = refl

-- ---- the answer

module _ (ws : List Name) (ds : List Node) (sheet_room message_room : ℕ) where
  ended_agrees : (d e : End) → Agrees d e → ((r : Refusal) (s : State) → d ≡ wrong r s → Typing r) → (ended ws ds sheet_room message_room d).code < 20
      → ended ws ds sheet_room message_room e ≡ ended ws ds sheet_room message_room d
  unfolding Agrees ended
  ended_agrees (done s) e h t l = rw h
  ended_agrees (wrong r s) e h t l = absurd (omega (arith, (t r s refl).above))
  ended_agrees (too_deep n) e h t l = rw h

fault_agrees : (o : Option Fault) (a b : Answer) → (a.code < 20 → b ≡ a) → (if_some o (λ f. bare f.code f.place) a).code < 20
    → if_some o (λ f. bare f.code f.place) b ≡ if_some o (λ f. bare f.code f.place) a
unfolding if_some
fault_agrees none a b h l = h l
fault_agrees (some f) a b h l = refl

module _ (bs : List ℕ) (sheet_room message_room : ℕ) where
  under_agrees : (answer_under strict bs sheet_room message_room).code < 20 → answer_under plain bs sheet_room message_room ≡ answer_under strict bs sheet_room message_room
  unfolding answer_under unless_fault walk_answer walked
  under_agrees l =
      fault_agrees (check_fault bs) _ _
      (ended_agrees (names_of bs) (nodes_of bs) sheet_room message_room _ _ (program_agrees (names_of bs) (tree_of (nodes_of bs)) start)
      (λ r s e. refused_typing (names_of bs) strict _ r s e)) l

  -- unless strict gives a typing code, plain gives the same answer
  pub plain_answers : (answer 1 bs sheet_room message_room).code < 20 → answer 0 bs sheet_room message_room ≡ answer 1 bs sheet_room message_room
  unfolding answer setting_of choose if_some test◌then◌else◌
  plain_answers l = under_agrees l

  -- "what strict accepts, plain accepts with the same sheet"
  pub plain_accepts : (answer 1 bs sheet_room message_room).code ≡ 0 → answer 0 bs sheet_room message_room ≡ answer 1 bs sheet_room message_room
  plain_accepts e = plain_answers (omega arith)
