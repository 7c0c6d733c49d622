-- What a statement keeps of the frames that it found: the older ones exactly, and in the newest each type other than Unknown, with its node.
-- So does every statement with no Def inside, however it ends; and so does one that ends well, in strict always, in plain with no Def inside
-- an If. (False of an assignment that takes the new type where both are known: `x = 1`, `x = "s"`.)
use mathlib.Core.Path.{◌≡◌, refl, ◌∙◌, ap, sym}
use mathlib.Core.Bool.{Bool, true, false, false≢true}
use mathlib.Core.List.{List, [], ◌∷◌, ◌++◌, tail}
use mathlib.Core.Option.{Option, none, some, none-ne-some}
use Prim.Native.Nat.{ℕ, zero, suc}
use native.Mathlib.Omega.{arith}
use native.Mathlib.Decide.{ℕ_discrete}
use lib.ListN.{length, get_or, set}
use lib.Seq.{get_or-set_other}
use Rattle.meaning.specs.Base.{◌or◌, test◌then◌else◌, if_some, or_else}
use Rattle.meaning.specs.Types.{Ty, unknown, same}
use Rattle.meaning.specs.Tree.{Expr, at, Form, literal, variable, unary, binary, call, attribute, list_of, dict_of, tuple_of, set_of, index, lambda, Exprs, no_exprs, ◌also◌, Stmt, line, Act, break, continue, pass, class, assign, expr, return, if_then, while, for, def, Stmts, no_stmts, ◌next◌, Arms, no_arms, ◌else_arms◌, Arm, on, otherwise}
use Rattle.meaning.specs.Image.{Name}
use Rattle.meaning.specs.Message.{Refusal, Piece}
use Rattle.meaning.specs.Frames.{Binding, since, Frame, Frames, newest, slot_in, find, lookup, write}
use Rattle.meaning.specs.Operators.{Checked, ok, refused}
use Rattle.meaning.specs.Rules.{element_of}
use Rattle.meaning.specs.Walk.{Setting, plain, strict, dropping, State, End, done, wrong, too_deep, refuse, ◌>>=◌, onward, after, on_copy, typed, with_frames, with_returns, agreed, assign_name, unpacked, unpack_into, return_rule, same_type, same_slot, tells, assigned, merge_name, merge_names, merge, enter, popped, if_room, only_in, over_elements, checked, condition, assign_to, assign_form, assign_each, walk, act, body, arm, branches}
use Rattle.meaning.specs.Known.{defs_in, defs_by, defs_of, defs_among, defs_under}
use Rattle.meaning.proofs.Choices.{same_yes}
use Rattle.meaning.proofs.FirstPlace.{agreed_kept}

-- ---- frames that keep what is known

-- the same type, and the same node if the old one has one
pub record Alike (old new : Binding) : Type 0 where
  pub type : new.type ≡ old.type
  pub node : (m : ℕ) → old.first ≡ some m → new.first ≡ some m

-- a slot has it still
pub record Still (old : Binding) (slot : Option Binding) : Type 0 where
  pub now : Binding
  pub is : slot ≡ some now
  pub alike : Alike old now

-- the older frames are the same, and in the newest each type other than Unknown, with its node
pub record Keeps (Γ Δ : Frames) : Type 0 where
  pub older : tail Δ ≡ tail Γ
  pub known : (x : ℕ) (b : Binding) → (b.type ≡ unknown → ⊥) → slot_in Γ x ≡ some b → Still b (slot_in Δ x)

alike_same : (b : Binding) → Alike b b
alike_same b = record { type = refl; node = λ m e. e }

alike_then : {a b c : Binding} → Alike a b → Alike b c → Alike a c
alike_then h k = record { type = k.type ∙ h.type; node = λ m e. k.node m (h.node m e) }

pub keeps_same : (Γ : Frames) → Keeps Γ Γ
keeps_same Γ = record { older = refl; known = λ x b n e. record { now = b; is = e; alike = alike_same b } }

still_then : {b : Binding} {o q : Option Binding} (s : Still b o) → Still s.now q → Still b q
still_then s r = record { now = r.now; is = r.is; alike = alike_then s.alike r.alike }

pub keeps_then : {Γ Δ Θ : Frames} → Keeps Γ Δ → Keeps Δ Θ → Keeps Γ Θ
keeps_then h k =
    record {
      older = k.older ∙ h.older;
      known = λ x b n e. let s = h.known x b n e in still_then s (k.known x s.now (λ z. n (sym s.alike.type ∙ z)) s.is);
    }

tail_write : (x : ℕ) (b : Binding) (Γ : Frames) → tail (write x b Γ) ≡ tail Γ
unfolding write
tail_write x b [] = refl
tail_write x b (f ∷ fs) = refl

-- a slot that is there takes what is written
set_there : (f : Frame) (x : ℕ) (b c : Binding) → get_or f x none ≡ some b → get_or (set f x (some c)) x none ≡ some c
set_there [] x b c e = absurd (none-ne-some b e)
set_there (o ∷ f) zero b c e = refl
set_there (o ∷ f) (suc x) b c e = set_there f x b c e

slot_write : (x y : ℕ) (b c : Binding) (Γ : Frames) → Still b (slot_in Γ y) → (y ≡ x → Alike b c) → Still b (slot_in (write x c Γ) y)
unfolding slot_in newest write
slot_write x y b c [] s h = s
slot_write x y b c (f ∷ fs) s h = elim (ℕ_discrete y x) [
  | yes p ↦ record { now = c; is = rw p (set_there f x s.now c (rw p at s.is)); alike = h p }
  | no q ↦ record { now = s.now; is = get_or-set_other f x y (some c) none q ∙ s.is; alike = s.alike }
]

-- writing keeps what is known if a known name gets the type that it has, and keeps its node
keeps_write : (x : ℕ) (c : Binding) {Γ Δ : Frames} → Keeps Γ Δ → ((b : Binding) → (b.type ≡ unknown → ⊥) → slot_in Γ x ≡ some b → Alike b c)
    → Keeps Γ (write x c Δ)
keeps_write x c {Γ} {Δ} h f =
    record {
      older = tail_write x c Δ ∙ h.older;
      known = λ y b n e. slot_write x y b c Δ (h.known y b n e) (λ p. f b n (rw p at e));
    }

-- ---- how a part of the walk that began with the frames Γ may end

-- however it ends, what Γ knows is kept
Holds : Frames → End → Type 0
Holds Γ (done s) = Keeps Γ s.frames
Holds Γ (wrong r s) = Keeps Γ s.frames
Holds Γ (too_deep n) = Unit {0}

-- if it ends well, what Γ knows is kept
pub Stays : Frames → End → Type 0
Stays Γ (done s) = Keeps Γ s.frames
Stays Γ (wrong r s) = Unit {0}
Stays Γ (too_deep n) = Unit {0}

holds_stays : (Γ : Frames) (e : End) → Holds Γ e → Stays Γ e
unfolding Holds Stays
holds_stays Γ (done s) h = h
holds_stays Γ (wrong r s) h = tt
holds_stays Γ (too_deep n) h = tt

holds_from : {Γ Δ : Frames} (e : End) → Keeps Γ Δ → Holds Δ e → Holds Γ e
unfolding Holds
holds_from (done s) h k = keeps_then h k
holds_from (wrong r s) h k = keeps_then h k
holds_from (too_deep n) h k = tt

stays_from : {Γ Δ : Frames} (e : End) → Keeps Γ Δ → Stays Δ e → Stays Γ e
unfolding Stays
stays_from (done s) h k = keeps_then h k
stays_from (wrong r s) h k = tt
stays_from (too_deep n) h k = tt

pub stays_done : {Γ : Frames} {e : End} {s : State} → Stays Γ e → e ≡ done s → Keeps Γ s.frames
unfolding Stays
stays_done h p = rw p at h

-- ---- one law for each way to put ends together

done_holds : (Γ : Frames) (s : State) → Keeps Γ s.frames → Holds Γ (done s)
unfolding Holds
done_holds Γ s h = h

wrong_holds : (Γ : Frames) (r : Refusal) (s : State) → Keeps Γ s.frames → Holds Γ (wrong r s)
unfolding Holds
wrong_holds Γ r s h = h

refuse_holds : (Γ : Frames) (c m : ℕ) (ps : List Piece) (s : State) → Keeps Γ s.frames → Holds Γ (refuse c m ps s)
unfolding Holds
refuse_holds Γ c m ps s h = h

then_holds : (Γ : Frames) (e : End) (k : State → End) → Holds Γ e → ((s : State) → Holds s.frames (k s)) → Holds Γ (e >>= k)
unfolding Holds ◌>>=◌
then_holds Γ (done s) k h g = holds_from (k s) h (g s)
then_holds Γ (wrong r s) k h g = h
then_holds Γ (too_deep n) k h g = tt

-- what follows goes by Γ too
thence_holds : (Γ : Frames) (e : End) (k : State → End) → Holds Γ e → ((s : State) → Keeps Γ s.frames → Holds Γ (k s)) → Holds Γ (e >>= k)
unfolding Holds ◌>>=◌
thence_holds Γ (done s) k h g = g s h
thence_holds Γ (wrong r s) k h g = h
thence_holds Γ (too_deep n) k h g = tt

-- a branch that is refused leaves Γ, so only one that ends well must keep what Γ knows
copy_holds : (Γ : Frames) (e : End) (k : State → End) → Stays Γ e → ((s : State) → Keeps Γ s.frames → Holds Γ (k s))
    → Holds Γ (on_copy Γ e >>= k)
unfolding Holds Stays on_copy ◌>>=◌
copy_holds Γ (done s) k h g = g s h
copy_holds Γ (wrong r s) k h g = keeps_same Γ
copy_holds Γ (too_deep n) k h g = tt

onward_holds : (drops : Bool) (Γ : Frames) (e : End) (k : State → End) → Holds Γ e → ((s : State) → Holds s.frames (k s))
    → Holds Γ (onward drops e k)
unfolding Holds onward
onward_holds drops Γ (done s) k h g = holds_from (k s) h (g s)
onward_holds true Γ (wrong r s) k h g = holds_from (k s) h (g s)
onward_holds false Γ (wrong r s) k h g = h
onward_holds drops Γ (too_deep n) k h g = tt

then_stays : (Γ : Frames) (e : End) (k : State → End) → Stays Γ e → ((s : State) → Stays s.frames (k s)) → Stays Γ (e >>= k)
unfolding Stays ◌>>=◌
then_stays Γ (done s) k h g = stays_from (k s) h (g s)
then_stays Γ (wrong r s) k h g = tt
then_stays Γ (too_deep n) k h g = tt

onward_stays : (Γ : Frames) (e : End) (k : State → End) → Stays Γ e → ((s : State) → Stays s.frames (k s)) → Stays Γ (onward false e k)
unfolding Stays onward
onward_stays Γ (done s) k h g = stays_from (k s) h (g s)
onward_stays Γ (wrong r s) k h g = tt
onward_stays Γ (too_deep n) k h g = tt

typed_holds : (c : Checked) (s : State) (k : Ty → End) → ((t : Ty) → Holds s.frames (k t)) → Holds s.frames (typed c s k)
unfolding Holds typed
typed_holds (ok t) s k h = h t
typed_holds (refused r) s k h = keeps_same s.frames

if_holds : (Γ : Frames) (b : Bool) (d e : End) → Holds Γ d → Holds Γ e → Holds Γ (test b then d else e)
unfolding test◌then◌else◌
if_holds Γ true d e h k = h
if_holds Γ false d e h k = k

some_holds : {A : Type 0} (Γ : Frames) (o : Option A) (f : A → End) (e : End) → ((a : A) → o ≡ some a → Holds Γ (f a)) → Holds Γ e
    → Holds Γ (if_some o f e)
unfolding if_some
some_holds Γ none f e h k = k
some_holds Γ (some a) f e h k = h a refl

-- a Def that ends well leaves the frames exactly
popped_stays : (xs : List ℕ) (s : State) (e : End) → Stays (enter xs s).frames e → Stays s.frames (popped e)
unfolding Stays enter popped
popped_stays xs s (done s₁) h = rw h.older (keeps_same s.frames)
popped_stays xs s (wrong r s₁) h = tt
popped_stays xs s (too_deep n) h = tt

returns_stays : (Γ : Frames) (t : Ty) (e : End) → Stays Γ e → Stays Γ (after (with_returns t) e)
unfolding Stays after
returns_stays Γ t (done s) h = h
returns_stays Γ t (wrong r s) h = tt
returns_stays Γ t (too_deep n) h = tt

room : (Γ : Frames) (m : ℕ) (b : Bool) (e : End) → Stays Γ e → Stays Γ (test b then e else too_deep m)
unfolding Stays test◌then◌else◌
room Γ m true e h = h
room Γ m false e h = tt

room_stays : (Γ : Frames) (m : ℕ) (s : State) (e : End) → Stays Γ e → Stays Γ (if_room m s e)
unfolding if_room
room_stays Γ m s e h = room Γ m _ e h

-- ---- assignment

-- "an equal or Unknown assignment keeps the old node"
since_alike : (b : Binding) (m : ℕ) (t u : Ty) → (b.type ≡ unknown → ⊥) → agreed b.type t ≡ some u → Alike b (since b.first m u)
unfolding since if_some
since_alike b m t u n e = record { type = agreed_kept b.type t u e n; node = λ k p. rw p }

pub slot_lookup : (Γ : Frames) (x : ℕ) (b : Binding) → slot_in Γ x ≡ some b → lookup Γ x ≡ b
unfolding lookup find slot_in newest or_else if_some
slot_lookup [] x b e = absurd (none-ne-some b e)
slot_lookup (f ∷ fs) x b e = rw e

module _ (ws : List Name) where
  name_holds : (m x : ℕ) (t : Ty) (s : State) → Holds s.frames (assign_name m x t s)
  unfolding assign_name
  name_holds m x t s =
      some_holds _ (agreed _ t) _ _
      (λ u p. done_holds _ _ (keeps_write x _ (keeps_same _)
      (λ b n e. let l = slot_lookup s.frames x b e in rw l (since_alike b m t u n (rw l at p)))))
      (wrong_holds _ _ s (keeps_same _))

  return_holds : (m : ℕ) (t : Ty) (s : State) → Holds s.frames (return_rule m t s)
  unfolding return_rule
  return_holds m t s = some_holds _ (agreed _ t) _ _ (λ u p. done_holds _ _ (keeps_same _)) (refuse_holds _ _ m _ s (keeps_same _))

  checked_holds : (e : Expr) (s : State) (k : Ty → End) → ((t : Ty) → Holds s.frames (k t)) → Holds s.frames (checked ws e s k)
  unfolding checked
  checked_holds e s k h = typed_holds _ s k h

  condition_holds : (e : Expr) (s : State) → Holds s.frames (condition ws e s)
  unfolding condition
  condition_holds e s =
      checked_holds e s _ (λ t. if_holds _ _ _ _ (done_holds _ s (keeps_same _)) (refuse_holds _ _ _ _ s (keeps_same _)))

  no_target : (m : ℕ) (s : State) → Holds s.frames (refuse 28 m [] s)
  no_target m s = refuse_holds _ 28 m [] s (keeps_same _)

  mutual
    unfolding assign_to unpack_into

    assign_holds : (e : Expr) (t : Ty) (s : State) → Holds s.frames (assign_to ws e t s)
    assign_holds (at m f) t s = form_holds m f t s

    form_holds : (m : ℕ) (f : Form) (t : Ty) (s : State) → Holds s.frames (assign_form ws m f t s)
    form_holds m (literal l) t s = no_target m s
    form_holds m (variable x) t s = name_holds m x t s
    form_holds m (unary o e) t s = no_target m s
    form_holds m (binary o l r) t s = no_target m s
    form_holds m (call f es) t s = no_target m s
    form_holds m (attribute e) t s = checked_holds _ s _ (λ u. done_holds _ s (keeps_same _))
    form_holds m (list_of es) t s = no_target m s
    form_holds m (dict_of es) t s = no_target m s
    form_holds m (tuple_of es) t s =
        some_holds _ (unpacked _ t) _ _ (λ ts p. if_holds _ _ _ _ (each_holds es ts s) (refuse_holds _ _ m _ s (keeps_same _)))
        (refuse_holds _ _ m _ s (keeps_same _))
    form_holds m (set_of es) t s = no_target m s
    form_holds m (index o i) t s = checked_holds _ s _ (λ u. done_holds _ s (keeps_same _))
    form_holds m lambda t s = no_target m s

    each_holds : (es : Exprs) (ts : List Ty) (s : State) → Holds s.frames (assign_each ws es ts s)
    each_holds no_exprs ts s = done_holds _ s (keeps_same _)
    each_holds (e also es) ts s = then_holds _ (assign_to ws e _ s) _ (assign_holds e _ s) (λ s₁. each_holds es (tail ts) s₁)

-- ---- If: a name that the base knows is assigned by no branch that keeps it

AllKeep : Frames → List Frames → Type 0
AllKeep Γ [] = Unit {0}
AllKeep Γ (Δ ∷ Δs) = Keeps Γ Δ × AllKeep Γ Δs

no_branch : (Γ : Frames) → AllKeep Γ []
unfolding AllKeep
no_branch Γ = tt

one_more : (Γ : Frames) (Δs : List Frames) (Δ : Frames) → AllKeep Γ Δs → Keeps Γ Δ → AllKeep Γ (Δs ++ (Δ ∷ []))
unfolding AllKeep
one_more Γ [] Δ h k = (k, tt)
one_more Γ (Θ ∷ Δs) Δ h k = (h.0, one_more Γ Δs Δ h.1 k)

or_true : (b : Bool) → (b or true) ≡ true
unfolding ◌or◌
or_true true = refl
or_true false = refl

-- "Whether a branch assigned a name still goes by type alone."
tells_same : (b c : Binding) → c.type ≡ b.type → tells (some b) (some c) ≡ false
unfolding tells same_slot same_type test◌then◌else◌
tells_same b c e = rw (same_yes c.type b.type e, or_true (same c.type unknown))

assigned_none : (Γ : Frames) (x : ℕ) (b : Binding) (Δs : List Frames) → (b.type ≡ unknown → ⊥) → slot_in Γ x ≡ some b → AllKeep Γ Δs
    → assigned Γ x Δs ≡ []
unfolding assigned AllKeep test◌then◌else◌
assigned_none Γ x b [] n e h = refl
assigned_none Γ x b (Δ ∷ Δs) n e h =
    let s = h.0.known x b n e in
    rw (e, s.is, tells_same b s.now s.alike.type) (assigned_none Γ x b Δs n e h.1)

module _ (ws : List Name) where
  merge_name_holds : (Γ : Frames) (c x : ℕ) (bs : List Binding) (s : State) → Keeps Γ s.frames
      → ((b : Binding) → (b.type ≡ unknown → ⊥) → slot_in Γ x ≡ some b → bs ≡ []) → Holds Γ (merge_name ws c x bs s)
  unfolding merge_name
  merge_name_holds Γ c x [] s h f = done_holds Γ s h
  merge_name_holds Γ c x (b ∷ bs) s h f =
      if_holds Γ _ _ _ (done_holds Γ _ (keeps_write x b h (λ a n e. absurd (cons_nil (f a n e))))) (wrong_holds Γ _ s h)
    where
      cons_nil : b ∷ bs ≡ [] → ⊥
      cons_nil e = let l = ap length e in omega arith

  merge_names_holds : (Γ : Frames) (c : ℕ) (Δs : List Frames) (xs : List ℕ) (s : State) → AllKeep Γ Δs → Keeps Γ s.frames
      → Holds Γ (merge_names ws c Γ Δs xs s)
  unfolding merge_names
  merge_names_holds Γ c Δs [] s a h = done_holds Γ s h
  merge_names_holds Γ c Δs (x ∷ xs) s a h =
      thence_holds Γ (merge_name ws c x (assigned Γ x Δs) s) _
      (merge_name_holds Γ c x (assigned Γ x Δs) s h (λ b n e. assigned_none Γ x b Δs n e a)) (λ s₁ h₁. merge_names_holds Γ c Δs xs s₁ a h₁)

  merge_holds : (c : ℕ) (Δs : List Frames) (s : State) → AllKeep s.frames Δs → Holds s.frames (merge ws c Δs s)
  unfolding merge
  merge_holds c Δs s a = merge_names_holds s.frames c Δs _ s a (keeps_same _)

  only_holds : (loop : Bool) (c m : ℕ) (s : State) → Holds s.frames (only_in loop c m s)
  unfolding only_in
  only_holds loop c m s = if_holds _ loop _ _ (done_holds _ s (keeps_same _)) (refuse_holds _ c m [] s (keeps_same _))

-- ---- While and For: the frames are those that they found, however they end

pub Exactly : Frames → End → Type 0
Exactly Γ (done s) = s.frames ≡ Γ
Exactly Γ (wrong r s) = s.frames ≡ Γ
Exactly Γ (too_deep n) = Unit {0}

exactly_holds : (Γ : Frames) (e : End) → Exactly Γ e → Holds Γ e
unfolding Exactly Holds
exactly_holds Γ (done s) h = rw h (keeps_same Γ)
exactly_holds Γ (wrong r s) h = rw h (keeps_same Γ)
exactly_holds Γ (too_deep n) h = tt

pub exactly_done : {Γ : Frames} {e : End} {s : State} → Exactly Γ e → e ≡ done s → s.frames ≡ Γ
unfolding Exactly
exactly_done h p = rw p at h

put_back : (Γ : Frames) (e : End) → Exactly Γ (after (with_frames Γ) e)
unfolding Exactly after
put_back Γ (done s) = refl
put_back Γ (wrong r s) = refl
put_back Γ (too_deep n) = tt

then_exactly : (Γ : Frames) (e : End) (k : State → End) → Exactly Γ e → ((s : State) → Exactly Γ (k s)) → Exactly Γ (e >>= k)
unfolding Exactly ◌>>=◌
then_exactly Γ (done s) k h g = g s
then_exactly Γ (wrong r s) k h g = h
then_exactly Γ (too_deep n) k h g = tt

typed_exactly : (c : Checked) (s : State) (k : Ty → End) → ((t : Ty) → Exactly s.frames (k t)) → Exactly s.frames (typed c s k)
unfolding Exactly typed
typed_exactly (ok t) s k h = h t
typed_exactly (refused r) s k h = refl

if_exactly : (b : Bool) (s : State) (r : Refusal) → Exactly s.frames (test b then done s else wrong r s)
unfolding Exactly test◌then◌else◌
if_exactly true s r = refl
if_exactly false s r = refl

some_exactly : (o : Option Ty) (f : Ty → End) (s : State) (r : Refusal) → ((t : Ty) → Exactly s.frames (f t))
    → Exactly s.frames (if_some o f (wrong r s))
unfolding Exactly if_some
some_exactly none f s r h = refl
some_exactly (some t) f s r h = h t

module _ (ws : List Name) (setting : Setting) where
  pub while_exactly : (loop : Bool) (n : ℕ) (c : Expr) (b : Stmts) (s : State) → Exactly s.frames (act ws setting loop n (while c b) s)
  unfolding act condition checked
  while_exactly loop n c b s = then_exactly _ (typed _ s _) _ (typed_exactly _ s _ (λ t. if_exactly _ s _)) (λ s₁. put_back _ _)

  pub for_exactly : (loop : Bool) (n x : ℕ) (e : Expr) (b : Stmts) (s : State) → Exactly s.frames (act ws setting loop n (for x e b) s)
  unfolding act checked over_elements
  for_exactly loop n x e b s = typed_exactly _ s _ (λ t. some_exactly (element_of t) _ s _ (λ u. put_back _ _))

-- ---- statements

nil_left : (xs ys : List ℕ) → xs ++ ys ≡ [] → xs ≡ []
nil_left [] ys e = refl
nil_left (x ∷ xs) ys e = let l = ap length e in absurd (omega arith)

nil_right : (xs ys : List ℕ) → xs ++ ys ≡ [] → ys ≡ []
nil_right [] ys e = e
nil_right (x ∷ xs) ys e = let l = ap length e in absurd (omega arith)

-- the first of some statements has none, and neither have the others
module _ (inside : Bool) (a : Stmt) (b : Stmts) (h : defs_in inside (a next b) ≡ []) where
  pub none_first : defs_by inside a ≡ []
  unfolding defs_in
  none_first = nil_left (defs_by inside a) (defs_in inside b) h

  pub none_later : defs_in inside b ≡ []
  unfolding defs_in
  none_later = nil_right (defs_by inside a) (defs_in inside b) h

-- and likewise of branches
module _ (a : Arm) (rest : Arms) (h : defs_among (a else_arms rest) ≡ []) where
  none_under : defs_under a ≡ []
  unfolding defs_in
  none_under = nil_left (defs_under a) (defs_among rest) h

  none_behind : defs_among rest ≡ []
  unfolding defs_in
  none_behind = nil_right (defs_under a) (defs_among rest) h

-- a Def inside an If is one of them, and one outside is not
no_def : (n : ℕ) (ns : List ℕ) → (test true then n ∷ [] else []) ++ ns ≡ [] → ⊥
unfolding test◌then◌else◌
no_def n ns e = let l = ap length e in omega arith

outside : (n : ℕ) (ns : List ℕ) → (test false then n ∷ [] else []) ++ ns ≡ [] → ns ≡ []
unfolding test◌then◌else◌
outside n ns e = e

module _ (ws : List Name) (setting : Setting) where
  -- a statement with no Def inside keeps what is known, however it ends
  mutual
    unfolding walk defs_in

    walk_holds : (loop : Bool) (a : Stmt) (s : State) → defs_by true a ≡ [] → Holds s.frames (walk ws setting loop a s)
    walk_holds loop (line n a) s h = act_holds loop n a s h

    act_holds : (loop : Bool) (n : ℕ) (a : Act) (s : State) → defs_of true n a ≡ [] → Holds s.frames (act ws setting loop n a s)
    act_holds loop n break s h = only_holds ws loop 20 n s
    act_holds loop n continue s h = only_holds ws loop 21 n s
    act_holds loop n pass s h = done_holds _ s (keeps_same _)
    act_holds loop n class s h = done_holds _ s (keeps_same _)
    act_holds loop n (assign e v) s h = checked_holds ws v s _ (λ t. assign_holds ws e t s)
    act_holds loop n (expr e) s h = checked_holds ws e s _ (λ t. done_holds _ s (keeps_same _))
    act_holds loop n (return e) s h = checked_holds ws e s _ (λ t. return_holds ws _ t s)
    act_holds loop n (if_then as') s h = branches_hold loop _ [] as' s h (no_branch _)
    act_holds loop n (while c b) s h = exactly_holds _ _ (while_exactly ws setting loop n c b s)
    act_holds loop n (for x e b) s h = exactly_holds _ _ (for_exactly ws setting loop n x e b s)
    act_holds loop n (def xs b) s h = absurd (no_def _ _ h)

    body_holds : (loop drops : Bool) (b : Stmts) (s : State) → defs_in true b ≡ [] → Holds s.frames (body ws setting loop drops b s)
    body_holds loop drops no_stmts s h = done_holds _ s (keeps_same _)
    body_holds loop drops (a next b) s h =
        onward_holds drops _ (walk ws setting loop a s) _ (walk_holds loop a s (none_first true a b h)) (λ s₁. body_holds loop drops b s₁ (none_later true a b h))

    arm_holds : (loop : Bool) (a : Arm) (s : State) → defs_under a ≡ [] → Holds s.frames (arm ws setting loop a s)
    arm_holds loop (on c b) s h = then_holds _ (condition ws c s) _ (condition_holds ws c s) (λ s₁. body_holds loop (dropping setting) b s₁ h)
    arm_holds loop (otherwise b) s h = body_holds loop (dropping setting) b s h

    branches_hold : (loop : Bool) (c : ℕ) (Δs : List Frames) (as' : Arms) (s : State) → defs_among as' ≡ [] → AllKeep s.frames Δs
        → Holds s.frames (branches ws setting loop c Δs as' s)
    branches_hold loop c Δs no_arms s h k = merge_holds ws c Δs s k
    branches_hold loop c Δs (a else_arms rest) s h k =
        copy_holds _ (arm ws setting loop a s) _ (holds_stays _ _ (arm_holds loop a s (none_under a rest h)))
        (λ s₁ h₁. branches_hold loop c _ rest _ (none_behind a rest h) (one_more _ Δs _ k h₁))

-- an If's body: in plain one with no Def inside, in strict one whose errors are returned
own_body : (ws : List Name) (setting : Setting) (loop : Bool) (b : Stmts) (s : State) → (setting ≡ plain → defs_in true b ≡ [])
    → (setting ≡ strict → Stays s.frames (body ws setting loop false b s)) → Stays s.frames (body ws setting loop (dropping setting) b s)
unfolding dropping
own_body ws plain loop b s h k = holds_stays _ _ (body_holds ws plain loop true b s (h refl))
own_body ws strict loop b s h k = k refl

pub strict_not_plain : strict ≡ plain → ⊥
unfolding dropping
strict_not_plain e = false≢true (ap dropping e)

module _ (ws : List Name) (setting : Setting) where
  -- A statement that ends well keeps what is known: in strict always, in plain with no Def inside an If.
  mutual
    unfolding walk defs_in

    pub walk_stays : (loop : Bool) (a : Stmt) (s : State) → (setting ≡ plain → defs_by false a ≡ []) → Stays s.frames (walk ws setting loop a s)
    walk_stays loop (line n a) s h = act_stays loop n a s h

    act_stays : (loop : Bool) (n : ℕ) (a : Act) (s : State) → (setting ≡ plain → defs_of false n a ≡ []) → Stays s.frames (act ws setting loop n a s)
    act_stays loop n break s h = holds_stays _ _ (act_holds ws setting loop n break s refl)
    act_stays loop n continue s h = holds_stays _ _ (act_holds ws setting loop n continue s refl)
    act_stays loop n pass s h = holds_stays _ _ (act_holds ws setting loop n pass s refl)
    act_stays loop n class s h = holds_stays _ _ (act_holds ws setting loop n class s refl)
    act_stays loop n (assign e v) s h = holds_stays _ _ (act_holds ws setting loop n (assign e v) s refl)
    act_stays loop n (expr e) s h = holds_stays _ _ (act_holds ws setting loop n (expr e) s refl)
    act_stays loop n (return e) s h = holds_stays _ _ (act_holds ws setting loop n (return e) s refl)
    act_stays loop n (if_then as') s h = holds_stays _ _ (branches_stay loop _ [] as' s h (no_branch _))
    act_stays loop n (while c b) s h = holds_stays _ _ (exactly_holds _ _ (while_exactly ws setting loop n c b s))
    act_stays loop n (for x e b) s h = holds_stays _ _ (exactly_holds _ _ (for_exactly ws setting loop n x e b s))
    act_stays loop n (def xs b) s h =
        room_stays _ n s _ (returns_stays _ s.returns _ (popped_stays xs s _ (body_stays false b (enter xs s) (λ p. outside _ _ (h p)))))

    -- a body whose errors are returned
    body_stays : (loop : Bool) (b : Stmts) (s : State) → (setting ≡ plain → defs_in false b ≡ []) → Stays s.frames (body ws setting loop false b s)
    body_stays loop no_stmts s h = holds_stays _ _ (done_holds _ s (keeps_same _))
    body_stays loop (a next b) s h =
        onward_stays _ (walk ws setting loop a s) _ (walk_stays loop a s (λ p. none_first false a b (h p))) (λ s₁. body_stays loop b s₁ (λ p. none_later false a b (h p)))

    arm_stays : (loop : Bool) (a : Arm) (s : State) → (setting ≡ plain → defs_under a ≡ []) → Stays s.frames (arm ws setting loop a s)
    arm_stays loop (on c b) s h =
        then_stays _ (condition ws c s) _ (holds_stays _ _ (condition_holds ws c s))
        (λ s₁. own_body ws setting loop b s₁ h (λ q. body_stays loop b s₁ (λ p. absurd (strict_not_plain (sym q ∙ p)))))
    arm_stays loop (otherwise b) s h = own_body ws setting loop b s h (λ q. body_stays loop b s (λ p. absurd (strict_not_plain (sym q ∙ p))))

    branches_stay : (loop : Bool) (c : ℕ) (Δs : List Frames) (as' : Arms) (s : State) → (setting ≡ plain → defs_among as' ≡ []) → AllKeep s.frames Δs
        → Holds s.frames (branches ws setting loop c Δs as' s)
    branches_stay loop c Δs no_arms s h k = merge_holds ws c Δs s k
    branches_stay loop c Δs (a else_arms rest) s h k =
        copy_holds _ (arm ws setting loop a s) _ (arm_stays loop a s (λ p. none_under a rest (h p)))
        (λ s₁ h₁. branches_stay loop c _ rest _ (λ p. none_behind a rest (h p)) (one_more _ Δs _ k h₁))

-- ---- in strict: every statement that ends well, at any depth

pub strict_keeps : (ws : List Name) (loop : Bool) (a : Stmt) (s s₁ : State) → walk ws strict loop a s ≡ done s₁ → Keeps s.frames s₁.frames
strict_keeps ws loop a s s₁ e = stays_done (walk_stays ws strict loop a s (λ p. absurd (strict_not_plain p))) e
