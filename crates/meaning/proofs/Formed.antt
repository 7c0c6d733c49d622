-- In strict the form alone tells the names: each slot that an accepted program's module frame holds is one that the module may bind.
use mathlib.Core.Path.{◌≡◌, refl, ◌∙◌, ap, sym, subst}
use mathlib.Core.Bool.{Bool, true, false, false≢true}
use mathlib.Core.Logic.{◌⊎◌, inl, inr, ⊎_elim}
use mathlib.Core.List.Memᴰ
use mathlib.Core.List.{List, [], ◌∷◌, ◌++◌, tail, append_assoc, append-nil, Memᴰ}
use mathlib.Core.Option.{Option, none, some, none-ne-some}
use Prim.Native.Nat.{ℕ, zero, suc}
use native.Mathlib.Omega.{arith}
use native.Mathlib.Decide.{ℕ_discrete}
use lib.ListN.{length, get_or, replicate}
use lib.Seq.{get_or-set_other}
use Rattle.meaning.specs.Base.{test◌then◌else◌, if_some, or_else}
use Rattle.meaning.specs.Types.{Ty, unknown}
use Rattle.meaning.specs.Tree.{Expr, at, Form, literal, variable, unary, binary, call, attribute, list_of, dict_of, tuple_of, set_of, index, lambda, Exprs, no_exprs, ◌also◌, size, Stmt, line, Act, break, continue, pass, class, assign, expr, return, if_then, while, for, def, Stmts, no_stmts, ◌next◌, Arms, no_arms, ◌else_arms◌, Arm, on, otherwise}
use Rattle.meaning.specs.Bound.{targets, targets_in, targets_among, may_bind, binds_by, binds_in, binds_among, binds_under}
use Rattle.meaning.specs.Image.{Name, names_of, nodes_of}
use Rattle.meaning.specs.Decode.{tree_of}
use Rattle.meaning.specs.Message.{Piece, Refusal}
use Rattle.meaning.specs.Frames.{Binding, binding, blank, Frame, Frames, empty, newest, slot_in, write}
use Rattle.meaning.specs.Operators.{Checked, ok, refused}
use Rattle.meaning.specs.Rules.{element_of}
use Rattle.meaning.specs.Walk.{strict, dropping, State, End, done, wrong, too_deep, refuse, ◌>>=◌, onward, after, on_copy, typed, with_frames, with_returns, agreed, assign_name, unpacked, unpack_into, return_rule, tells, assigned, merge_name, merge_names, merge, enter, popped, if_room, only_in, over_elements, checked, condition, assign_to, assign_form, assign_each, walk, act, body, arm, branches, program, start}
use Rattle.meaning.specs.Answer.{walked}
use Rattle.meaning.proofs.Listed.{ProgramLists}

-- ---- what is in the newest frame of Δ was there in Γ or is one of xs; the older frames are the same

held : Frames → ℕ → Type 0
held Γ x = (b : Binding) × (slot_in Γ x ≡ some b)

record Only (xs : List ℕ) (Γ Δ : Frames) : Type 0 where
  older : tail Δ ≡ tail Γ
  slots : (x : ℕ) (b : Binding) → slot_in Δ x ≡ some b → held Γ x ⊎ Memᴰ x xs

only_same : (xs : List ℕ) (Γ : Frames) → Only xs Γ Γ
unfolding held
only_same xs Γ = record { older = refl; slots = λ x t e. inl (t, e) }

only_more : {Γ Δ : Frames} (xs ys : List ℕ) → Only xs Γ Δ → Only (xs ++ ys) Γ Δ
only_more xs ys h = record { older = h.older; slots = λ x t e. ⊎_elim (λ a. inl a) (λ m. inr (Memᴰ.append_left ys m)) (h.slots x t e) }

only_then : {Γ Δ Θ : Frames} (xs ys : List ℕ) → Only xs Γ Δ → Only ys Δ Θ → Only (xs ++ ys) Γ Θ
unfolding held
only_then xs ys h k =
    record {
      older = k.older ∙ h.older;
      slots = λ x t e. ⊎_elim (λ a. ⊎_elim (λ b. inl b) (λ m. inr (Memᴰ.append_left ys m)) (h.slots x a.0 a.1)) (λ m. inr (Memᴰ.append_right xs m)) (k.slots x t e);
    }

only_write : (xs : List ℕ) (x : ℕ) (u : Binding) (Γ Δ : Frames) → Only xs Γ Δ → held Γ x ⊎ Memᴰ x xs → Only xs Γ (write x u Δ)
unfolding write slot_in newest
only_write xs x u Γ [] h o = h
only_write xs x u Γ (f ∷ fs) h o =
    record {
      older = h.older;
      slots = λ y t e. elim (ℕ_discrete y x) [
        | yes p ↦ subst (λ (z : ℕ). held Γ z ⊎ Memᴰ z xs) (sym p) o
        | no q ↦ h.slots y t (sym (get_or-set_other f x y (some u) none q) ∙ e)
      ];
    }

-- ---- how a part of the walk that began with the frames Γ may end: what it adds if it ends well

Adds : List ℕ → Frames → End → Type 0
Adds xs Γ (done s) = Only xs Γ s.frames
Adds xs Γ (wrong r s) = Unit {0}
Adds xs Γ (too_deep n) = Unit {0}

adds_done : (xs : List ℕ) (Γ : Frames) (s : State) → Only xs Γ s.frames → Adds xs Γ (done s)
unfolding Adds
adds_done xs Γ s h = h

adds_is : {xs ys : List ℕ} (Γ : Frames) (e : End) → xs ≡ ys → Adds xs Γ e → Adds ys Γ e
adds_is Γ e p h = subst (λ (zs : List ℕ). Adds zs Γ e) p h

adds_wrong : (xs : List ℕ) (Γ : Frames) (r : Refusal) (s : State) → Adds xs Γ (wrong r s)
unfolding Adds
adds_wrong xs Γ r s = tt

adds_refuse : (xs : List ℕ) (Γ : Frames) (c m : ℕ) (ps : List Piece) (s : State) → Adds xs Γ (refuse c m ps s)
adds_refuse xs Γ c m ps s = adds_wrong xs Γ _ s

then_adds : (xs ys : List ℕ) (Γ : Frames) (e : End) (k : State → End) → Adds xs Γ e → ((s : State) → Adds ys s.frames (k s)) → Adds (xs ++ ys) Γ (e >>= k)
unfolding Adds ◌>>=◌
then_adds xs ys Γ (done s) k h g = by (k s) (g s)
  where
    by : (e : End) → Adds ys s.frames e → Adds (xs ++ ys) Γ e
    by (done s₁) j = only_then xs ys h j
    by (wrong r s₁) j = tt
    by (too_deep n) j = tt
then_adds xs ys Γ (wrong r s) k h g = tt
then_adds xs ys Γ (too_deep n) k h g = tt

-- what follows goes by Γ too
thence_adds : (xs ys : List ℕ) (Γ : Frames) (e : End) (k : State → End) → Adds xs Γ e → ((s : State) → Only xs Γ s.frames → Adds ys Γ (k s)) → Adds ys Γ (e >>= k)
unfolding Adds ◌>>=◌
thence_adds xs ys Γ (done s) k h g = g s h
thence_adds xs ys Γ (wrong r s) k h g = tt
thence_adds xs ys Γ (too_deep n) k h g = tt

onward_adds : (xs ys : List ℕ) (Γ : Frames) (e : End) (k : State → End) → Adds xs Γ e → ((s : State) → Adds ys s.frames (k s)) → Adds (xs ++ ys) Γ (onward false e k)
unfolding Adds onward ◌>>=◌
onward_adds xs ys Γ (done s) k h g = then_adds xs ys Γ (done s) k h g
onward_adds xs ys Γ (wrong r s) k h g = tt
onward_adds xs ys Γ (too_deep n) k h g = tt

typed_adds : (xs : List ℕ) (Γ : Frames) (c : Checked) (s : State) (k : Ty → End) → ((t : Ty) → Adds xs Γ (k t)) → Adds xs Γ (typed c s k)
unfolding Adds typed
typed_adds xs Γ (ok t) s k h = h t
typed_adds xs Γ (refused r) s k h = tt

if_adds : (xs : List ℕ) (Γ : Frames) (b : Bool) (d e : End) → Adds xs Γ d → Adds xs Γ e → Adds xs Γ (test b then d else e)
unfolding test◌then◌else◌
if_adds xs Γ true d e h k = h
if_adds xs Γ false d e h k = k

some_adds : {A : Type 0} (xs : List ℕ) (Γ : Frames) (o : Option A) (f : A → End) (e : End) → ((a : A) → Adds xs Γ (f a)) → Adds xs Γ e → Adds xs Γ (if_some o f e)
unfolding if_some
some_adds xs Γ none f e h k = k
some_adds xs Γ (some a) f e h k = h a

returns_adds : (xs : List ℕ) (Γ : Frames) (t : Ty) (e : End) → Adds xs Γ e → Adds xs Γ (after (with_returns t) e)
unfolding Adds after
returns_adds xs Γ t (done s) h = h
returns_adds xs Γ t (wrong r s) h = tt
returns_adds xs Γ t (too_deep n) h = tt

-- While and For put the frames back
back_adds : (xs : List ℕ) (Γ : Frames) (e : End) → Adds xs Γ (after (with_frames Γ) e)
unfolding Adds after
back_adds xs Γ (done s) = only_same xs Γ
back_adds xs Γ (wrong r s) = tt
back_adds xs Γ (too_deep n) = tt

-- a Def that ends well leaves the frames exactly
popped_adds : (xs ys zs : List ℕ) (s : State) (e : End) → Adds ys (enter zs s).frames e → Adds xs s.frames (popped e)
unfolding Adds enter popped
popped_adds xs ys zs s (done s₁) h = subst (Only xs s.frames) (sym h.older) (only_same xs s.frames)
popped_adds xs ys zs s (wrong r s₁) h = tt
popped_adds xs ys zs s (too_deep n) h = tt

room_adds : (xs : List ℕ) (Γ : Frames) (m : ℕ) (s : State) (e : End) → Adds xs Γ e → Adds xs Γ (if_room m s e)
unfolding if_room Adds
room_adds xs Γ m s e h = if_adds xs Γ _ e (too_deep m) h tt

-- a refused branch adds nothing to Γ
copy_adds : (xs ys : List ℕ) (Γ : Frames) (e : End) (k : State → End) → Adds xs Γ e → ((s : State) → Only xs Γ s.frames → Adds ys Γ (k s)) → Adds ys Γ (on_copy Γ e >>= k)
unfolding Adds on_copy ◌>>=◌
copy_adds xs ys Γ (done s) k h g = g s h
copy_adds xs ys Γ (wrong r s) k h g = tt
copy_adds xs ys Γ (too_deep n) k h g = tt

-- ---- assignment: a target adds the names that it may bind

module _ (ws : List Name) where
  name_adds : (m x : ℕ) (t : Ty) (s : State) → Adds (x ∷ []) s.frames (assign_name m x t s)
  unfolding assign_name
  name_adds m x t s =
      some_adds (x ∷ []) _ (agreed _ t) _ _
      (λ u. adds_done _ _ _ (only_write (x ∷ []) x _ s.frames s.frames (only_same (x ∷ []) s.frames) (inr (Memᴰ.head refl))))
      (adds_wrong _ _ _ s)

  checked_adds : (xs : List ℕ) (Γ : Frames) (e : Expr) (s : State) (k : Ty → End) → ((t : Ty) → Adds xs Γ (k t)) → Adds xs Γ (checked ws e s k)
  unfolding checked
  checked_adds xs Γ e s k h = typed_adds xs Γ _ s k h

  condition_adds : (xs : List ℕ) (e : Expr) (s : State) → Adds xs s.frames (condition ws e s)
  unfolding condition
  condition_adds xs e s =
      checked_adds xs _ e s _ (λ t. if_adds xs _ _ _ _ (adds_done xs _ s (only_same xs _)) (adds_refuse xs _ _ _ _ s))

  mutual
    unfolding assign_to unpack_into targets

    assign_adds : (e : Expr) (t : Ty) (s : State) → Adds (targets e) s.frames (assign_to ws e t s)
    assign_adds (at m f) t s = form_adds m f t s

    form_adds : (m : ℕ) (f : Form) (t : Ty) (s : State) → Adds (targets_in f) s.frames (assign_form ws m f t s)
    form_adds m (literal l) t s = adds_refuse _ _ 28 m [] s
    form_adds m (variable x) t s = name_adds m x t s
    form_adds m (unary o e) t s = adds_refuse _ _ 28 m [] s
    form_adds m (binary o l r) t s = adds_refuse _ _ 28 m [] s
    form_adds m (call f es) t s = adds_refuse _ _ 28 m [] s
    form_adds m (attribute e) t s = checked_adds _ _ _ s _ (λ u. adds_done _ _ s (only_same _ _))
    form_adds m (list_of es) t s = adds_refuse _ _ 28 m [] s
    form_adds m (dict_of es) t s = adds_refuse _ _ 28 m [] s
    form_adds m (tuple_of es) t s =
        some_adds (targets_among es) _ (unpacked (size es) t) _ _
        (λ ts. if_adds (targets_among es) _ _ _ _ (each_adds es ts s) (adds_refuse _ _ _ m _ s)) (adds_refuse _ _ _ m _ s)
    form_adds m (set_of es) t s = adds_refuse _ _ 28 m [] s
    form_adds m (index o i) t s = checked_adds _ _ _ s _ (λ u. adds_done _ _ s (only_same _ _))
    form_adds m lambda t s = adds_refuse _ _ 28 m [] s

    each_adds : (es : Exprs) (ts : List Ty) (s : State) → Adds (targets_among es) s.frames (assign_each ws es ts s)
    each_adds no_exprs ts s = adds_done _ _ s (only_same _ _)
    each_adds (e also es) ts s = then_adds (targets e) (targets_among es) _ (assign_to ws e _ s) _ (assign_adds e _ s) (λ s₁. each_adds es (tail ts) s₁)

-- ---- If: what is merged was told by a branch

AllOnly : List ℕ → Frames → List Frames → Type 0
AllOnly xs Γ [] = Unit {0}
AllOnly xs Γ (Δ ∷ Δs) = Only xs Γ Δ × AllOnly xs Γ Δs

no_branch : (xs : List ℕ) (Γ : Frames) → AllOnly xs Γ []
unfolding AllOnly
no_branch xs Γ = tt

all_more : (xs ys : List ℕ) (Γ : Frames) (Δs : List Frames) (Δ : Frames) → AllOnly xs Γ Δs → Only ys Γ Δ → AllOnly (xs ++ ys) Γ (Δs ++ (Δ ∷ []))
unfolding AllOnly
all_more xs ys Γ [] Δ h k =
    (record { older = k.older; slots = λ x t e. ⊎_elim (λ a. inl a) (λ m. inr (Memᴰ.append_right xs m)) (k.slots x t e) }, tt)
all_more xs ys Γ (Θ ∷ Δs) Δ h k = (only_more xs ys h.0, all_more xs ys Γ Δs Δ h.1 k)

tells_some : (base o : Option Binding) → tells base o ≡ true → (b : Binding) × (o ≡ some b)
unfolding tells
tells_some base none e = absurd (false≢true e)
tells_some base (some b) e = (b, refl)

-- a name that some branch assigned was held, or is one of xs
assigned_one : (xs : List ℕ) (Γ : Frames) (x : ℕ) (Δs : List Frames) (t : Binding) (ts : List Binding) → AllOnly xs Γ Δs → assigned Γ x Δs ≡ t ∷ ts → held Γ x ⊎ Memᴰ x xs
unfolding assigned AllOnly test◌then◌else◌
assigned_one xs Γ x [] t ts h e = let l = ap length e in absurd (omega arith)
assigned_one xs Γ x (Δ ∷ Δs) t ts h e = by (tells (slot_in Γ x) (slot_in Δ x)) refl (λ q. assigned_one xs Γ x Δs t ts h.1 q) e
  where
    by : (b : Bool) → tells (slot_in Γ x) (slot_in Δ x) ≡ b → (assigned Γ x Δs ≡ t ∷ ts → held Γ x ⊎ Memᴰ x xs)
        → (test b then or_else (slot_in Δ x) blank ∷ assigned Γ x Δs else assigned Γ x Δs) ≡ t ∷ ts → held Γ x ⊎ Memᴰ x xs
    by true p g q = let o = tells_some (slot_in Γ x) (slot_in Δ x) p in h.0.slots x o.0 o.1
    by false p g q = g q

module _ (ws : List Name) where
  merge_name_adds : (xs : List ℕ) (Γ : Frames) (c x : ℕ) (ts : List Binding) (s : State) → Only xs Γ s.frames
      → ((t : Binding) (us : List Binding) → ts ≡ t ∷ us → held Γ x ⊎ Memᴰ x xs) → Adds xs Γ (merge_name ws c x ts s)
  unfolding merge_name
  merge_name_adds xs Γ c x [] s h f = adds_done xs Γ s h
  merge_name_adds xs Γ c x (t ∷ ts) s h f =
      if_adds xs Γ _ _ _ (adds_done xs Γ _ (only_write xs x t Γ s.frames h (f t ts refl))) (adds_wrong xs Γ _ s)

  merge_names_adds : (xs : List ℕ) (Γ : Frames) (c : ℕ) (Δs : List Frames) (ns : List ℕ) (s : State) → AllOnly xs Γ Δs → Only xs Γ s.frames
      → Adds xs Γ (merge_names ws c Γ Δs ns s)
  unfolding merge_names
  merge_names_adds xs Γ c Δs [] s a h = adds_done xs Γ s h
  merge_names_adds xs Γ c Δs (n ∷ ns) s a h =
      thence_adds xs xs Γ (merge_name ws c n (assigned Γ n Δs) s) _
      (merge_name_adds xs Γ c n (assigned Γ n Δs) s h (λ t us e. assigned_one xs Γ n Δs t us a e)) (λ s₁ h₁. merge_names_adds xs Γ c Δs ns s₁ a h₁)

  merge_adds : (xs : List ℕ) (c : ℕ) (Δs : List Frames) (s : State) → AllOnly xs s.frames Δs → Adds xs s.frames (merge ws c Δs s)
  unfolding merge
  merge_adds xs c Δs s a = merge_names_adds xs s.frames c Δs _ s a (only_same xs _)

  only_in_adds : (xs : List ℕ) (loop : Bool) (c m : ℕ) (s : State) → Adds xs s.frames (only_in loop c m s)
  unfolding only_in
  only_in_adds xs loop c m s = if_adds xs _ loop _ _ (adds_done xs _ s (only_same xs _)) (adds_refuse xs _ c m [] s)

  return_adds : (xs : List ℕ) (m : ℕ) (t : Ty) (s : State) → Adds xs s.frames (return_rule m t s)
  unfolding return_rule
  return_adds xs m t s = some_adds xs _ (agreed _ t) _ _ (λ u. adds_done xs _ _ (only_same xs _)) (adds_refuse xs _ _ m _ s)

  each_element_adds : (xs : List ℕ) (Γ : Frames) (n : ℕ) (t : Ty) (s : State) (k : Ty → End) → ((u : Ty) → Adds xs Γ (k u)) → Adds xs Γ (over_elements n t s k)
  unfolding over_elements
  each_element_adds xs Γ n t s k h = some_adds xs Γ (element_of t) k _ h (adds_refuse xs Γ _ n _ s)

  -- ---- statements, in strict

  mutual
    unfolding walk dropping may_bind

    walk_adds : (loop : Bool) (a : Stmt) (s : State) → Adds (binds_by a) s.frames (walk ws strict loop a s)
    walk_adds loop (line n a) s = act_adds loop n a s

    act_adds : (loop : Bool) (n : ℕ) (a : Act) (s : State) → Adds (binds_in a) s.frames (act ws strict loop n a s)
    act_adds loop n break s = only_in_adds _ loop 20 n s
    act_adds loop n continue s = only_in_adds _ loop 21 n s
    act_adds loop n pass s = adds_done _ _ s (only_same _ _)
    act_adds loop n class s = adds_done _ _ s (only_same _ _)
    act_adds loop n (assign e v) s = checked_adds ws _ _ v s _ (λ t. assign_adds ws e t s)
    act_adds loop n (expr e) s = checked_adds ws _ _ e s _ (λ t. adds_done _ _ s (only_same _ _))
    act_adds loop n (return e) s = checked_adds ws _ _ e s _ (λ t. return_adds _ _ t s)
    act_adds loop n (if_then arms) s = branches_adds loop _ [] [] arms s (no_branch [] s.frames)
    act_adds loop n (while c b) s =
        thence_adds (may_bind b) (may_bind b) _ (condition ws c s) _ (condition_adds ws _ c s) (λ s₁ h. back_adds (may_bind b) s.frames _)
    act_adds loop n (for x e b) s =
        checked_adds ws _ _ e s _ (λ t. each_element_adds _ _ _ t s _ (λ u. back_adds (x ∷ may_bind b) s.frames _))
    act_adds loop n (def xs b) s =
        room_adds [] _ n s _ (returns_adds [] _ _ _ (popped_adds [] (may_bind b) xs s _ (body_adds false b (enter xs s))))

    body_adds : (loop : Bool) (b : Stmts) (s : State) → Adds (may_bind b) s.frames (body ws strict loop false b s)
    body_adds loop no_stmts s = adds_done _ _ s (only_same _ _)
    body_adds loop (a next as') s = onward_adds (binds_by a) (may_bind as') _ (walk ws strict loop a s) _ (walk_adds loop a s) (λ s₁. body_adds loop as' s₁)

    arm_adds : (loop : Bool) (a : Arm) (s : State) → Adds (binds_under a) s.frames (arm ws strict loop a s)
    arm_adds loop (on c b) s = then_adds [] (may_bind b) _ (condition ws c s) _ (condition_adds ws [] c s) (λ s₁. body_adds loop b s₁)
    arm_adds loop (otherwise b) s = body_adds loop b s

    branches_adds : (loop : Bool) (c : ℕ) (xs : List ℕ) (Δs : List Frames) (arms : Arms) (s : State) → AllOnly xs s.frames Δs
        → Adds (xs ++ binds_among arms) s.frames (branches ws strict loop c Δs arms s)
    branches_adds loop c xs Δs no_arms s h = adds_is s.frames (merge ws c Δs s) (sym (append-nil xs)) (merge_adds xs c Δs s h)
    branches_adds loop c xs Δs (a else_arms rest) s h =
        copy_adds (binds_under a) (xs ++ (binds_under a ++ binds_among rest)) s.frames (arm ws strict loop a s) _ (arm_adds loop a s)
        (λ s₁ k. adds_is s.frames (branches ws strict loop c (Δs ++ (s₁.frames ∷ [])) rest (with_returns s₁.returns s)) (append_assoc xs (binds_under a) (binds_among rest))
        (branches_adds loop c (xs ++ binds_under a) (Δs ++ (s₁.frames ∷ [])) rest (with_returns s₁.returns s) (all_more xs (binds_under a) s.frames Δs s₁.frames h k)))

  program_adds : (b : Stmts) (s : State) → Adds (may_bind b) s.frames (program ws strict b s)
  unfolding program may_bind
  program_adds no_stmts s = adds_done [] _ s (only_same [] _)
  program_adds (a next as') s =
      then_adds (binds_by a) (may_bind as') _ (walk ws strict false a (with_returns unknown s)) _ (walk_adds false a (with_returns unknown s)) (λ s₁. program_adds as' s₁)

  -- ---- the program

  none_at : (n x : ℕ) → ◌≡◌ {A = Option Binding} (get_or (replicate n none) x none) none
  none_at zero x = refl
  none_at (suc n) zero = refl
  none_at (suc n) (suc x) = none_at n x

  start_lacks : (x : ℕ) → held start.frames x → ⊥
  unfolding held start slot_in newest empty
  start_lacks x h = none-ne-some h.0 (sym (none_at 128 x) ∙ h.1)

  adds_end : (xs : List ℕ) (Γ : Frames) (e : End) (s : State) → Adds xs Γ e → e ≡ done s → Only xs Γ s.frames
  unfolding Adds
  adds_end xs Γ e s h p = rw p at h

  -- what the module frame of a program that strict accepts holds, the module may bind
  pub strict_formed : (b : Stmts) (s : State) → program ws strict b start ≡ done s → (x : ℕ) (t : Binding) → slot_in s.frames x ≡ some t → Memᴰ x (may_bind b)
  strict_formed b s e x t h =
      ⊎_elim (λ a. absurd (start_lacks x a)) (λ m. m) ((adds_end (may_bind b) start.frames (program ws strict b start) s (program_adds b start) e).slots x t h)

-- so of a program that strict accepts, which ends with the module frame f, the form alone tells which names are listed
pub strict_lists : (bs : List ℕ) (s : State) → walked strict bs ≡ done s → (f : Frame) → newest s.frames ≡ f → {n : List ℕ} {t : Ty} (l : ProgramLists bs f n t)
    → Memᴰ l.slot (may_bind (tree_of (nodes_of bs)))
unfolding walked slot_in
strict_lists bs s e f g {n} {t} l =
    ⊎_elim (λ h. strict_formed (names_of bs) (tree_of (nodes_of bs)) s e l.slot (binding t h.0) (rw g h.1)) (λ h. h.0) l.typed
