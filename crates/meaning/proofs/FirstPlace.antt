-- Where a name's type is known, so is the node that first made it known, in every frame that a walk can reach, in either setting: after
-- dropped errors, on copies, in the frames of Defs that failed. So 25 and 23 always have a second place. (False of a walk whose
-- equal assignment writes the type without its node: after `x = 1` and `x = 2`, the 25 of `x = "s"` would have none.)
use mathlib.Core.Path.{◌≡◌, refl, ◌∙◌, ap, sym}
use mathlib.Core.Bool.{Bool, true, false, false≢true}
use mathlib.Core.Logic.{◌⊎◌, ⊎_elim}
use mathlib.Core.List.{List, [], ◌∷◌, ◌++◌, tail}
use mathlib.Core.Option.{Option, none, some, none-ne-some, some-injective}
use Prim.Native.Nat.{ℕ, zero, suc}
use native.Mathlib.Omega.{arith}
use lib.ListN.{get_or, set, replicate}
use Rattle.meaning.specs.Limits.{most_names}
use Rattle.meaning.specs.Base.{◌or◌, test◌then◌else◌, if_some, or_else, count}
use Rattle.meaning.specs.Types.{Ty, Ty-discrete, unknown}
use Rattle.meaning.specs.Tree.{Expr, at, Form, literal, variable, unary, binary, call, attribute, list_of, dict_of, tuple_of, set_of, index, lambda, Exprs, no_exprs, ◌also◌, place, Stmt, line, Act, break, continue, pass, class, assign, expr, return, if_then, while, for, def, Stmts, no_stmts, ◌next◌, Arms, no_arms, ◌else_arms◌, Arm, on, otherwise, first_condition}
use Rattle.meaning.specs.Image.{Name}
use Rattle.meaning.specs.Message.{Piece, Refusal, conflict}
use Rattle.meaning.specs.Frames.{Binding, binding, blank, since, Frame, Frames, empty, newest, slot_in, find, lookup, write}
use Rattle.meaning.specs.Operators.{Checked, ok, refused}
use Rattle.meaning.specs.Rules.{element_of}
use Rattle.meaning.specs.Walk.{Setting, dropping, State, End, done, wrong, too_deep, refuse, ◌>>=◌, onward, after, on_copy, typed, bind, agreed, assign_name, unpacked, unpack_into, return_rule, tells, assigned, merge_name, merge_names, merge, with_params, enter, popped, if_room, only_in, over_elements, checked, condition, assign_to, assign_form, assign_each, walk, act, body, arm, branches, program, start}
use Rattle.meaning.proofs.Choices.{same_yes, same_no}
use Rattle.meaning.proofs.Codes.{Fair, fair_judged, check_fair}

-- ---- what is agreed on

module _ (old t : Ty) where
  pub agreed_differ : agreed old t ≡ none → old ≡ unknown → ⊥
  unfolding agreed ◌or◌ test◌then◌else◌
  agreed_differ e p = none-ne-some t (sym (rw (same_yes old unknown p) at e))

  pub agreed_kept : (u : Ty) → agreed old t ≡ some u → (old ≡ unknown → ⊥) → u ≡ old
  unfolding agreed ◌or◌ test◌then◌else◌
  agreed_kept u e n = elim (Ty-discrete old t) [
    | yes p ↦ sym (some-injective t u (rw (same_no old unknown n, same_yes old t p) at e)) ∙ sym p
    | no q ↦ elim (Ty-discrete t unknown) [
      | yes r ↦ sym (some-injective old u (rw (same_no old unknown n, same_no old t q, same_yes t unknown r) at e))
      | no r ↦ absurd (none-ne-some u (rw (same_no old unknown n, same_no old t q, same_no t unknown r) at e))
    ]
  ]

-- ---- what is asked of a binding, of a slot, of frames, of a refusal, and of an end; P is said of the node

-- there is a node, and P holds of it
pub record There (P : ℕ → Type 0) (o : Option ℕ) : Type 0 where
  pub node : ℕ
  pub is : o ≡ some node
  pub holds : P node

-- a known type has a node, and "Unknown has none"
pub record Placed (P : ℕ → Type 0) (b : Binding) : Type 0 where
  pub known : (b.type ≡ unknown → ⊥) → There P b.first
  pub none_known : b.type ≡ unknown → b.first ≡ none

unfoldable pub SlotPlaced : (ℕ → Type 0) → Option Binding → Type 0
SlotPlaced P none = Unit {0}
SlotPlaced P (some b) = Placed P b

unfoldable pub FramePlaced : (ℕ → Type 0) → Frame → Type 0
FramePlaced P [] = Unit {0}
FramePlaced P (o ∷ f) = SlotPlaced P o × FramePlaced P f

unfoldable pub FramesPlaced : (ℕ → Type 0) → Frames → Type 0
FramesPlaced P [] = Unit {0}
FramesPlaced P (f ∷ fs) = FramePlaced P f × FramesPlaced P fs

-- 25 and 23 have a second place
pub record Pointed (P : ℕ → Type 0) (r : Refusal) : Type 0 where
  pub there : (r.code ≡ 23) ⊎ (r.code ≡ 25) → There P r.first

unfoldable pub Pointing : (ℕ → Type 0) → End → Type 0
Pointing P (done s) = FramesPlaced P s.frames
Pointing P (wrong r s) = Pointed P r × FramesPlaced P s.frames
Pointing P (too_deep n) = Unit {0}

-- ---- what is asked of a program: P holds of "the Variable assigned, or the iterable for a loop name"

unfoldable mutual
  pub Targets : (ℕ → Type 0) → Expr → Type 0
  Targets P (at n f) = FormTargets P n f

  pub FormTargets : (ℕ → Type 0) → ℕ → Form → Type 0
  FormTargets P n (literal l) = Unit {0}
  FormTargets P n (variable x) = P n
  FormTargets P n (unary o e) = Unit {0}
  FormTargets P n (binary o l r) = Unit {0}
  FormTargets P n (call f es) = Unit {0}
  FormTargets P n (attribute e) = Unit {0}
  FormTargets P n (list_of es) = Unit {0}
  FormTargets P n (dict_of es) = Unit {0}
  FormTargets P n (tuple_of es) = AllTargets P es
  FormTargets P n (set_of es) = Unit {0}
  FormTargets P n (index o i) = Unit {0}
  FormTargets P n lambda = Unit {0}

  pub AllTargets : (ℕ → Type 0) → Exprs → Type 0
  AllTargets P no_exprs = Unit {0}
  AllTargets P (e also es) = Targets P e × AllTargets P es

unfoldable mutual
  pub Binders : (ℕ → Type 0) → Stmts → Type 0
  Binders P no_stmts = Unit {0}
  Binders P (a next b) = LineBinders P a × Binders P b

  pub LineBinders : (ℕ → Type 0) → Stmt → Type 0
  LineBinders P (line n a) = ActBinders P a

  pub ActBinders : (ℕ → Type 0) → Act → Type 0
  ActBinders P break = Unit {0}
  ActBinders P continue = Unit {0}
  ActBinders P pass = Unit {0}
  ActBinders P class = Unit {0}
  ActBinders P (assign e v) = Targets P e
  ActBinders P (expr e) = Unit {0}
  ActBinders P (return e) = Unit {0}
  ActBinders P (if_then as') = ArmsBinders P as'
  ActBinders P (while c b) = Binders P b
  ActBinders P (for x e b) = P (place e) × Binders P b
  ActBinders P (def xs b) = Binders P b

  pub ArmsBinders : (ℕ → Type 0) → Arms → Type 0
  ArmsBinders P no_arms = Unit {0}
  ArmsBinders P (a else_arms rest) = ArmBinders P a × ArmsBinders P rest

  pub ArmBinders : (ℕ → Type 0) → Arm → Type 0
  ArmBinders P (on c b) = Binders P b
  ArmBinders P (otherwise b) = Binders P b

module _ (P : ℕ → Type 0) where
  -- ---- frames

  blank_placed : Placed P blank
  blank_placed = record { known = λ n. absurd (n refl); none_known = λ e. refl }

  slot_placed : (f : Frame) (x : ℕ) → FramePlaced P f → SlotPlaced P (get_or f x none)
  unfolding FramePlaced SlotPlaced
  slot_placed [] x p = tt
  slot_placed (o ∷ f) zero p = p.0
  slot_placed (o ∷ f) (suc x) p = slot_placed f x p.1

  set_placed : (f : Frame) (x : ℕ) (b : Binding) → Placed P b → FramePlaced P f → FramePlaced P (set f x (some b))
  unfolding FramePlaced SlotPlaced
  set_placed [] x b q p = tt
  set_placed (o ∷ f) zero b q p = (q, p.1)
  set_placed (o ∷ f) (suc x) b q p = (p.0, set_placed f x b q p.1)

  nothing_placed : (n : ℕ) → FramePlaced P (replicate n none)
  unfolding FramePlaced SlotPlaced
  nothing_placed zero = tt
  nothing_placed (suc n) = (tt, nothing_placed n)

  empty_placed : FramePlaced P empty
  unfolding empty
  empty_placed = nothing_placed most_names

  params_placed : (xs : List ℕ) (f : Frame) → FramePlaced P f → FramePlaced P (with_params xs f)
  unfolding with_params
  params_placed [] f p = p
  params_placed (x ∷ xs) f p = params_placed xs _ (set_placed f x blank blank_placed p)

  newest_placed : (Γ : Frames) → FramesPlaced P Γ → FramePlaced P (newest Γ)
  unfolding newest FramesPlaced FramePlaced
  newest_placed [] p = tt
  newest_placed (f ∷ fs) p = p.0

  pub slot_in_placed : (Γ : Frames) (x : ℕ) → FramesPlaced P Γ → SlotPlaced P (slot_in Γ x)
  unfolding slot_in
  slot_in_placed Γ x p = slot_placed (newest Γ) x (newest_placed Γ p)

  some_placed : (o q : Option Binding) → SlotPlaced P o → SlotPlaced P q → SlotPlaced P (if_some o some q)
  unfolding if_some
  some_placed none q p r = r
  some_placed (some b) q p r = p

  find_placed : (Γ : Frames) (x : ℕ) → FramesPlaced P Γ → SlotPlaced P (find Γ x)
  unfolding find FramesPlaced SlotPlaced
  find_placed [] x p = tt
  find_placed (f ∷ fs) x p = some_placed _ _ (slot_placed f x p.0) (find_placed fs x p.1)

  or_blank_placed : (o : Option Binding) → SlotPlaced P o → Placed P (or_else o blank)
  unfolding or_else SlotPlaced
  or_blank_placed none p = blank_placed
  or_blank_placed (some b) p = p

  pub lookup_placed : (Γ : Frames) (x : ℕ) → FramesPlaced P Γ → Placed P (lookup Γ x)
  unfolding lookup
  lookup_placed Γ x p = or_blank_placed (find Γ x) (find_placed Γ x p)

  pub write_placed : (x : ℕ) (b : Binding) (Γ : Frames) → Placed P b → FramesPlaced P Γ → FramesPlaced P (write x b Γ)
  unfolding write FramesPlaced
  write_placed x b [] q p = tt
  write_placed x b (f ∷ fs) q p = (set_placed f x b q p.0, p.1)

  pub tail_placed : (Γ : Frames) → FramesPlaced P Γ → FramesPlaced P (tail Γ)
  unfolding FramesPlaced
  tail_placed [] p = tt
  tail_placed (f ∷ fs) p = p.1

  -- ---- assignment

  pub new_placed : (n : ℕ) (u : Ty) → P n → Placed P (since none n u)
  unfolding since if_some test◌then◌else◌
  new_placed n u h =
      record {
        known = λ k. record { node = n; is = rw (same_no u unknown k); holds = h };
        none_known = λ e. rw (same_yes u unknown e);
      }

  -- "an equal or Unknown assignment keeps the old node"
  pub kept_placed : (old : Binding) (n : ℕ) (t u : Ty) → P n → Placed P old → agreed old.type t ≡ some u → Placed P (since old.first n u)
  unfolding since if_some
  kept_placed old n t u h p e = elim (Ty-discrete old.type unknown) [
    | yes k ↦ rw (p.none_known k) (new_placed n u h)
    | no k ↦
        let m = p.known k in
        rw m.is record {
          known = λ j. record { node = m.node; is = refl; holds = m.holds };
          none_known = λ j. absurd (k (sym (agreed_kept old.type t u e k) ∙ j));
        }
  ]

  -- what is written is then the old binding itself
  pub keeps_old : (old : Binding) (n : ℕ) (t u : Ty) → Placed P old → (old.type ≡ unknown → ⊥) → agreed old.type t ≡ some u
      → since old.first n u ≡ old
  unfolding since if_some
  keeps_old old n t u p k e = rw (p.known k).is (ap (λ (v : Ty). binding v (some (p.known k).node)) (agreed_kept old.type t u e k))

  -- ---- merging

  -- a known type, with its node
  abbrev pub Sure : Binding → Type 0
  Sure b = Placed P b × (b.type ≡ unknown → ⊥)

  unfoldable pub Sures : List Binding → Type 0
  Sures [] = Unit {0}
  Sures (b ∷ bs) = Sure b × Sures bs

  tells_sure : (base o : Option Binding) → SlotPlaced P o → tells base o ≡ true → Sure (or_else o blank)
  unfolding tells SlotPlaced or_else ◌or◌ test◌then◌else◌
  tells_sure base none p e = absurd (false≢true e)
  tells_sure base (some b) p e = (p, λ k. absurd (false≢true (rw (same_yes b.type unknown k) at e)))

  if_sures : (q : Bool) (b : Binding) (bs : List Binding) → (q ≡ true → Sure b) → Sures bs → Sures (test q then b ∷ bs else bs)
  unfolding test◌then◌else◌ Sures
  if_sures true b bs f p = (f refl, p)
  if_sures false b bs f p = p

  unfoldable pub BranchesPlaced : List Frames → Type 0
  BranchesPlaced [] = Unit {0}
  BranchesPlaced (Δ ∷ Δs) = FramesPlaced P Δ × BranchesPlaced Δs

  pub assigned_sure : (Γ : Frames) (x : ℕ) (Δs : List Frames) → BranchesPlaced Δs → Sures (assigned Γ x Δs)
  unfolding assigned Sures BranchesPlaced
  assigned_sure Γ x [] p = tt
  assigned_sure Γ x (Δ ∷ Δs) p =
      if_sures _ _ _ (λ e. tells_sure (slot_in Γ x) (slot_in Δ x) (slot_in_placed Δ x p.0) e) (assigned_sure Γ x Δs p.1)

  pub none_placed : BranchesPlaced []
  unfolding BranchesPlaced
  none_placed = tt

  pub one_more : (Δs : List Frames) (Δ : Frames) → BranchesPlaced Δs → FramesPlaced P Δ → BranchesPlaced (Δs ++ (Δ ∷ []))
  unfolding BranchesPlaced
  one_more [] Δ p q = (q, tt)
  one_more (E ∷ Δs) Δ p q = (p.0, one_more Δs Δ p.1 q)

  -- ---- one law for each way to put ends together

  abbrev Onward : (State → End) → Type 0
  Onward k = (s : State) → FramesPlaced P s.frames → Pointing P (k s)

  done_pointing : (s : State) → FramesPlaced P s.frames → Pointing P (done s)
  unfolding Pointing
  done_pointing s p = p

  refuse_pointing : (c n : ℕ) (ps : List Piece) (s : State) → (c ≡ 23 → ⊥) → (c ≡ 25 → ⊥) → FramesPlaced P s.frames → Pointing P (refuse c n ps s)
  unfolding Pointing
  refuse_pointing c n ps s f g p = (record { there = λ e. absurd (⊎_elim f g e) }, p)

  conflict_pointing : (c n : ℕ) (o : Option ℕ) (ps : List Piece) (s : State) → There P o → FramesPlaced P s.frames → Pointing P (wrong (conflict c n o ps) s)
  unfolding Pointing
  conflict_pointing c n o ps s h p = (record { there = λ e. h }, p)

  deep_pointing : (n : ℕ) → Pointing P (too_deep n)
  unfolding Pointing
  deep_pointing n = tt

  then_pointing : (e : End) (k : State → End) → Pointing P e → Onward k → Pointing P (e >>= k)
  unfolding Pointing ◌>>=◌
  then_pointing (done s) k p h = h s p
  then_pointing (wrong r s) k p h = p
  then_pointing (too_deep n) k p h = tt

  onward_pointing : (drops : Bool) (e : End) (k : State → End) → Pointing P e → Onward k → Pointing P (onward drops e k)
  unfolding Pointing onward
  onward_pointing drops (done s) k p h = h s p
  onward_pointing true (wrong r s) k p h = h s p.1
  onward_pointing false (wrong r s) k p h = p
  onward_pointing drops (too_deep n) k p h = tt

  after_pointing : (f : State → State) (e : End) → Pointing P e → ((s : State) → FramesPlaced P s.frames → FramesPlaced P (f s).frames) → Pointing P (after f e)
  unfolding Pointing after
  after_pointing f (done s) p h = h s p
  after_pointing f (wrong r s) p h = (p.0, h s p.1)
  after_pointing f (too_deep n) p h = tt

  copy_pointing : (Γ : Frames) (e : End) → FramesPlaced P Γ → Pointing P e → Pointing P (on_copy Γ e)
  unfolding Pointing on_copy
  copy_pointing Γ (done s) q p = p
  copy_pointing Γ (wrong r s) q p = (p.0, q)
  copy_pointing Γ (too_deep n) q p = tt

  popped_pointing : (e : End) → Pointing P e → Pointing P (popped e)
  unfolding Pointing popped
  popped_pointing (done s) p = tail_placed s.frames p
  popped_pointing (wrong r s) p = p
  popped_pointing (too_deep n) p = tt

  if_pointing : (b : Bool) (d e : End) → Pointing P d → Pointing P e → Pointing P (test b then d else e)
  unfolding test◌then◌else◌
  if_pointing true d e p q = p
  if_pointing false d e p q = q

  some_pointing : {A : Type 0} (o : Option A) (f : A → End) (e : End) → ((a : A) → o ≡ some a → Pointing P (f a)) → (o ≡ none → Pointing P e) → Pointing P (if_some o f e)
  unfolding if_some
  some_pointing none f e p q = q refl
  some_pointing (some a) f e p q = p a refl

  -- an expression's refusal is neither 23 nor 25
  typed_pointing : (c : Checked) (s : State) (k : Ty → End) → Fair c → FramesPlaced P s.frames → ((t : Ty) → Pointing P (k t)) → Pointing P (typed c s k)
  unfolding Pointing typed
  typed_pointing (ok t) s k f p h = h t
  typed_pointing (refused r) s k f p h =
      let j = fair_judged f in
      (record { there = λ e. absurd (⊎_elim (λ z. omega (arith, j.above)) (λ z. omega (arith, j.above)) e) }, p)

  -- ---- rules of statements

  bind_pointing : (x : ℕ) (b : Binding) (s : State) → Placed P b → FramesPlaced P s.frames → Pointing P (done (bind x b s))
  bind_pointing x b s q p = done_pointing _ (write_placed x b s.frames q p)

  assign_name_pointing : (n x : ℕ) (t : Ty) (s : State) → P n → FramesPlaced P s.frames → Pointing P (assign_name n x t s)
  unfolding assign_name
  assign_name_pointing n x t s h p =
      let old : Binding = lookup s.frames x in
      let q : Placed P old = lookup_placed s.frames x p in
      some_pointing (agreed old.type t) _ _ (λ u e. bind_pointing x _ s (kept_placed old n t u h q e) p)
      (λ e. conflict_pointing 25 n _ _ s (q.known (agreed_differ old.type t e)) p)

  return_pointing : (n : ℕ) (t : Ty) (s : State) → FramesPlaced P s.frames → Pointing P (return_rule n t s)
  unfolding return_rule
  return_pointing n t s p =
      some_pointing (agreed _ t) _ _ (λ u e. done_pointing _ p) (λ e. refuse_pointing 22 n _ s (λ z. omega arith) (λ z. omega arith) p)

  only_pointing : (loop : Bool) (c n : ℕ) (s : State) → (c ≡ 23 → ⊥) → (c ≡ 25 → ⊥) → FramesPlaced P s.frames → Pointing P (only_in loop c n s)
  unfolding only_in
  only_pointing loop c n s f g p = if_pointing loop _ _ (done_pointing s p) (refuse_pointing c n [] s f g p)

  over_pointing : (n : ℕ) (t : Ty) (s : State) (k : Ty → End) → FramesPlaced P s.frames → ((u : Ty) → Pointing P (k u)) → Pointing P (over_elements n t s k)
  unfolding over_elements
  over_pointing n t s k p h = some_pointing (element_of t) _ _ (λ u e. h u) (λ e. refuse_pointing 24 n _ s (λ z. omega arith) (λ z. omega arith) p)

  room_pointing : (n : ℕ) (s : State) (e : End) → Pointing P e → Pointing P (if_room n s e)
  unfolding if_room
  room_pointing n s e p = if_pointing _ _ _ p (deep_pointing n)

  pub enter_placed : (xs : List ℕ) (s : State) → FramesPlaced P s.frames → FramesPlaced P (enter xs s).frames
  unfolding enter FramesPlaced
  enter_placed xs s p = (params_placed xs empty empty_placed, p)

  module _ (ws : List Name) (c : ℕ) where
    merge_name_pointing : (x : ℕ) (bs : List Binding) (s : State) → Sures bs → FramesPlaced P s.frames → Pointing P (merge_name ws c x bs s)
    unfolding merge_name Sures
    merge_name_pointing x [] s h p = done_pointing s p
    merge_name_pointing x (b ∷ bs) s h p =
        if_pointing _ _ _ (bind_pointing x b s h.0.0 p) (conflict_pointing 23 c _ _ s (h.0.0.known h.0.1) p)

    merge_names_pointing : (Γ : Frames) (Δs : List Frames) (xs : List ℕ) (s : State) → BranchesPlaced Δs → FramesPlaced P s.frames
        → Pointing P (merge_names ws c Γ Δs xs s)
    unfolding merge_names
    merge_names_pointing Γ Δs [] s h p = done_pointing s p
    merge_names_pointing Γ Δs (x ∷ xs) s h p =
        then_pointing (merge_name ws c x (assigned Γ x Δs) s) _ (merge_name_pointing x _ s (assigned_sure Γ x Δs h) p)
        (λ s₁ p₁. merge_names_pointing Γ Δs xs s₁ h p₁)

    merge_pointing : (Δs : List Frames) (s : State) → BranchesPlaced Δs → FramesPlaced P s.frames → Pointing P (merge ws c Δs s)
    unfolding merge
    merge_pointing Δs s h p = merge_names_pointing s.frames Δs (count 0 most_names) s h p

  -- ---- targets and statements

  module _ (ws : List Name) where
    checked_pointing : (e : Expr) (s : State) (k : Ty → End) → FramesPlaced P s.frames → ((t : Ty) → Pointing P (k t)) → Pointing P (checked ws e s k)
    unfolding checked
    checked_pointing e s k p h = typed_pointing _ s k (check_fair ws s.frames e) p h

    condition_pointing : (e : Expr) (s : State) → FramesPlaced P s.frames → Pointing P (condition ws e s)
    unfolding condition
    condition_pointing e s p =
        checked_pointing e s _ p (λ t. if_pointing _ _ _ (done_pointing s p) (refuse_pointing 36 _ _ s (λ z. omega arith) (λ z. omega arith) p))

    no_target : (n : ℕ) (s : State) → FramesPlaced P s.frames → Pointing P (refuse 28 n [] s)
    no_target n s p = refuse_pointing 28 n [] s (λ z. omega arith) (λ z. omega arith) p

    mutual
      unfolding assign_to unpack_into Targets

      assign_pointing : (e : Expr) (t : Ty) (s : State) → Targets P e → FramesPlaced P s.frames → Pointing P (assign_to ws e t s)
      assign_pointing (at n f) t s h p = form_pointing n f t s h p

      form_pointing : (n : ℕ) (f : Form) (t : Ty) (s : State) → FormTargets P n f → FramesPlaced P s.frames → Pointing P (assign_form ws n f t s)
      form_pointing n (literal l) t s h p = no_target n s p
      form_pointing n (variable x) t s h p = assign_name_pointing n x t s h p
      form_pointing n (unary o e) t s h p = no_target n s p
      form_pointing n (binary o l r) t s h p = no_target n s p
      form_pointing n (call f es) t s h p = no_target n s p
      form_pointing n (attribute e) t s h p = checked_pointing _ s _ p (λ u. done_pointing s p)
      form_pointing n (list_of es) t s h p = no_target n s p
      form_pointing n (dict_of es) t s h p = no_target n s p
      form_pointing n (tuple_of es) t s h p =
          some_pointing (unpacked _ t) _ _
          (λ ts e. if_pointing _ _ _ (each_pointing es ts s h p) (refuse_pointing 26 n _ s (λ z. omega arith) (λ z. omega arith) p))
          (λ e. refuse_pointing 27 n _ s (λ z. omega arith) (λ z. omega arith) p)
      form_pointing n (set_of es) t s h p = no_target n s p
      form_pointing n (index o i) t s h p = checked_pointing _ s _ p (λ u. done_pointing s p)
      form_pointing n lambda t s h p = no_target n s p

      each_pointing : (es : Exprs) (ts : List Ty) (s : State) → AllTargets P es → FramesPlaced P s.frames → Pointing P (assign_each ws es ts s)
      each_pointing no_exprs ts s h p = done_pointing s p
      each_pointing (e also es) ts s h p =
          then_pointing (assign_to ws e _ s) _ (assign_pointing e _ s h.0 p) (λ s₁ p₁. each_pointing es (tail ts) s₁ h.1 p₁)

  module _ (ws : List Name) (setting : Setting) where
    mutual
      unfolding walk Binders

      pub walk_pointing : (loop : Bool) (a : Stmt) (s : State) → LineBinders P a → FramesPlaced P s.frames → Pointing P (walk ws setting loop a s)
      walk_pointing loop (line n a) s h p = act_pointing loop n a s h p

      act_pointing : (loop : Bool) (n : ℕ) (a : Act) (s : State) → ActBinders P a → FramesPlaced P s.frames → Pointing P (act ws setting loop n a s)
      act_pointing loop n break s h p = only_pointing loop 20 n s (λ z. omega arith) (λ z. omega arith) p
      act_pointing loop n continue s h p = only_pointing loop 21 n s (λ z. omega arith) (λ z. omega arith) p
      act_pointing loop n pass s h p = done_pointing s p
      act_pointing loop n class s h p = done_pointing s p
      act_pointing loop n (assign e v) s h p = checked_pointing ws v s _ p (λ t. assign_pointing ws e t s h p)
      act_pointing loop n (expr e) s h p = checked_pointing ws e s _ p (λ t. done_pointing s p)
      act_pointing loop n (return e) s h p = checked_pointing ws e s _ p (λ t. return_pointing (place e) t s p)
      act_pointing loop n (if_then as') s h p = branches_pointing loop (first_condition as') [] as' s h none_placed p
      act_pointing loop n (while c b) s h p =
          then_pointing (condition ws c s) _ (condition_pointing ws c s p)
          (λ s₁ p₁. after_pointing _ (body ws setting true (dropping setting) b s₁) (body_pointing true (dropping setting) b s₁ h p₁) (λ s₂ p₂. p))
      act_pointing loop n (for x e b) s h p =
          checked_pointing ws e s _ p
          (λ t. over_pointing (place e) t s _ p
          (λ u. after_pointing _ (body ws setting true false b _)
          (body_pointing true false b _ h.1 (write_placed x _ s.frames (new_placed (place e) u h.0) p)) (λ s₂ p₂. p)))
      act_pointing loop n (def xs b) s h p =
          room_pointing n s _
          (after_pointing _ (popped (body ws setting false false b (enter xs s)))
          (popped_pointing _ (body_pointing false false b _ h (enter_placed xs s p))) (λ s₂ p₂. p₂))

      pub body_pointing : (loop drops : Bool) (b : Stmts) (s : State) → Binders P b → FramesPlaced P s.frames → Pointing P (body ws setting loop drops b s)
      body_pointing loop drops no_stmts s h p = done_pointing s p
      body_pointing loop drops (a next b) s h p =
          onward_pointing drops (walk ws setting loop a s) _ (walk_pointing loop a s h.0 p) (λ s₁ p₁. body_pointing loop drops b s₁ h.1 p₁)

      arm_pointing : (loop : Bool) (a : Arm) (s : State) → ArmBinders P a → FramesPlaced P s.frames → Pointing P (arm ws setting loop a s)
      arm_pointing loop (on c b) s h p =
          then_pointing (condition ws c s) _ (condition_pointing ws c s p) (λ s₁ p₁. body_pointing loop (dropping setting) b s₁ h p₁)
      arm_pointing loop (otherwise b) s h p = body_pointing loop (dropping setting) b s h p

      branches_pointing : (loop : Bool) (c : ℕ) (Δs : List Frames) (as' : Arms) (s : State) → ArmsBinders P as' → BranchesPlaced Δs
          → FramesPlaced P s.frames → Pointing P (branches ws setting loop c Δs as' s)
      branches_pointing loop c Δs no_arms s h d p = merge_pointing ws c Δs s d p
      branches_pointing loop c Δs (a else_arms rest) s h d p =
          then_pointing (on_copy s.frames (arm ws setting loop a s)) _ (copy_pointing s.frames _ p (arm_pointing loop a s h.0 p))
          (λ s₁ p₁. branches_pointing loop c _ rest _ h.1 (one_more Δs s₁.frames d p₁) p)

    pub program_pointing : (b : Stmts) (s : State) → Binders P b → FramesPlaced P s.frames → Pointing P (program ws setting b s)
    unfolding program Binders
    program_pointing no_stmts s h p = done_pointing s p
    program_pointing (a next b) s h p =
        then_pointing (walk ws setting false a _) _ (walk_pointing false a _ h.0 p) (λ s₁ p₁. program_pointing b s₁ h.1 p₁)

  pub start_placed : FramesPlaced P start.frames
  unfolding start FramesPlaced
  start_placed = (empty_placed, tt)

  -- a program, from the start
  pub walked_pointing : (ws : List Name) (setting : Setting) (b : Stmts) → Binders P b → Pointing P (program ws setting b start)
  walked_pointing ws setting b h = program_pointing ws setting b start h start_placed

  -- what an end that points says
  pub pointing_done : {e : End} {s : State} → Pointing P e → e ≡ done s → FramesPlaced P s.frames
  unfolding Pointing
  pointing_done p e = rw e at p

  pub pointing_wrong : {e : End} {r : Refusal} {s : State} → Pointing P e → e ≡ wrong r s → Pointed P r
  unfolding Pointing
  pointing_wrong p e = (rw e at p).0
