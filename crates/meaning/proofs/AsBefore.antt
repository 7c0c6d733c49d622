-- "Demands 2 and 3 read as before, the second span being ours": forget the nodes, and every image has the answer that it had before request
-- One, in every setting, by the check that does not refuse TreeSets; and `typecheck` prints the line that it printed, of an image without
-- them. BeforeRules and BeforeWalk keep the definitions of then.
-- (False of a walk that goes by node where it asks whether a branch assigned a name: after `x = 1`, `if True:` `def f(x): x = 2; break`,
-- `else:` `def g(x): x = "s"; break`, plain takes String from the second branch, since the first has x with the base's type; that walk
-- would refuse it with 23.)
use mathlib.Core.Path.{◌≡◌, refl, ◌∙◌, ap, sym}
use mathlib.Core.Bool.{Bool, true, false}
use mathlib.Core.List.{List, [], ◌∷◌, ◌++◌, map, tail}
use mathlib.Core.Option.{Option, none, some}
use Prim.Native.Nat.{ℕ, zero, suc}
use lib.Dec.{eqb, leb, ltb}
use lib.ListN.{length, get_or, set, replicate, take, length-map, get_or-map}
use Rattle.meaning.specs.Limits.{most_names, most_frames, read_at_most, sheet_buffer, message_buffer}
use Rattle.meaning.specs.Base.{test◌then◌else◌, if_some, or_else, is_in, all, count}
use Rattle.meaning.specs.Types.{Ty, unknown, bool, same}
use Rattle.meaning.specs.Tree.{Expr, at, Form, literal, variable, unary, binary, call, attribute, list_of, dict_of, tuple_of, set_of, index, lambda, Exprs, no_exprs, ◌also◌, place, size, Stmt, line, Act, break, continue, pass, class, assign, expr, return, if_then, while, for, def, Stmts, no_stmts, ◌next◌, Arms, no_arms, ◌else_arms◌, Arm, on, otherwise, first_condition}
use Rattle.meaning.specs.Bound.{may_bind}
use Rattle.meaning.specs.Image.{Fault, Name, Node, image_fault, first_tree_set, names_of, nodes_of}
use Rattle.meaning.specs.Decode.{tree_of}
use Rattle.meaning.specs.Message.{Refusal, refusal, message}
use Rattle.meaning.specs.Frames.{Binding, blank, since, Frame, Frames, empty, newest, slot_in, find, lookup, write}
use Rattle.meaning.specs.Operators.{Checked, ok, refused}
use Rattle.meaning.specs.Rules.{element_of, check, check_form, check_all}
use Rattle.meaning.specs.Walk.{Setting, dropping, State, End, done, wrong, too_deep, ◌>>=◌, onward, after, on_copy, typed, with_returns, bind, agreed, assign_name, unpacked, unpack_into, return_rule, same_type, same_slot, tells, assigned, merge_name, merge_names, merge, with_params, enter, popped, if_room, only_in, over_elements, checked, condition, assign_to, assign_form, assign_each, walk, act, body, arm, branches, program, start}
use Rattle.meaning.specs.Sheet.{entries, listed_slot, listed_frame, listing}
use Rattle.meaning.specs.Answer.{Answer, bare, written, ended, walked, walk_answer, unless_fault, setting_of, former_under, former_answer}
use Rattle.meaning.specs.Line.{refused_line, line_of, setting_told, printed}
use Rattle.meaning.proofs.Codes.{Judged, Fair, fair_judged, check_fair}
use Rattle.meaning.proofs.Rows.{as_before}
use Rattle.meaning.proofs.Answers.{as_former}
use Rattle.meaning.proofs.BeforeRules as R
use Rattle.meaning.proofs.BeforeWalk as B

-- ---- what is left without the nodes

type_only : Option Binding → Option Ty
type_only none = none
type_only (some b) = some b.type

abbrev frame_only : Frame → R.Frame
frame_only f = map type_only f

abbrev frames_only : Frames → R.Frames
frames_only Γ = map (λ f. frame_only f) Γ

abbrev state_only : State → B.State
state_only s = B.state (frames_only s.frames) s.returns

abbrev refusal_only : Refusal → Refusal
refusal_only r = refusal r.code r.node r.names

forget : End → B.End
forget (done s) = B.done (state_only s)
forget (wrong r s) = B.wrong (refusal_only r) (state_only s)
forget (too_deep n) = B.too_deep n

-- ---- frames

slot_only : (f : Frame) (x : ℕ) → get_or (frame_only f) x none ≡ type_only (get_or f x none)
unfolding type_only
slot_only f x = get_or-map type_only f x none

some_only : (o p : Option Binding) → if_some (type_only o) some (type_only p) ≡ type_only (if_some o some p)
unfolding type_only if_some
some_only none p = refl
some_only (some b) p = refl

find_only : (Γ : Frames) (x : ℕ) → R.find (frames_only Γ) x ≡ type_only (find Γ x)
unfolding R.find find type_only
find_only [] x = refl
find_only (f ∷ fs) x = rw (slot_only f x, find_only fs x) (some_only (get_or f x none) (find fs x))

lookup_only : (Γ : Frames) (x : ℕ) → R.lookup (frames_only Γ) x ≡ (lookup Γ x).type
unfolding R.lookup lookup type_only or_else
lookup_only Γ x = rw (find_only Γ x) (by (find Γ x))
  where
    by : (o : Option Binding) → or_else (type_only o) unknown ≡ (or_else o blank).type
    by none = refl
    by (some b) = refl

newest_only : (Γ : Frames) → R.newest (frames_only Γ) ≡ frame_only (newest Γ)
unfolding R.newest newest
newest_only [] = refl
newest_only (f ∷ fs) = refl

slot_in_only : (Γ : Frames) (x : ℕ) → R.slot_in (frames_only Γ) x ≡ type_only (slot_in Γ x)
unfolding R.slot_in slot_in
slot_in_only Γ x = rw (newest_only Γ) (slot_only (newest Γ) x)

set_only : (f : Frame) (x : ℕ) (b : Binding) → frame_only (set f x (some b)) ≡ set (frame_only f) x (some b.type)
unfolding type_only
set_only [] x b = refl
set_only (o ∷ f) zero b = refl
set_only (o ∷ f) (suc x) b = ap (λ g. type_only o ∷ g) (set_only f x b)

write_only : (x : ℕ) (b : Binding) (Γ : Frames) → frames_only (write x b Γ) ≡ R.write x b.type (frames_only Γ)
unfolding R.write write
write_only x b [] = refl
write_only x b (f ∷ fs) = ap (λ g. g ∷ frames_only fs) (set_only f x b)

tail_only : (Γ : Frames) → frames_only (tail Γ) ≡ tail (frames_only Γ)
tail_only [] = refl
tail_only (f ∷ fs) = refl

nothing_only : (n : ℕ) → map type_only (replicate n none) ≡ replicate n none
unfolding type_only
nothing_only zero = refl
nothing_only (suc n) = ap (λ f. none ∷ f) (nothing_only n)

empty_only : frame_only empty ≡ R.empty
unfolding R.empty empty
empty_only = nothing_only most_names

params_only : (xs : List ℕ) (f : Frame) → frame_only (with_params xs f) ≡ B.with_params xs (frame_only f)
unfolding B.with_params with_params
params_only [] f = refl
params_only (x ∷ xs) f = params_only xs (set f x (some blank)) ∙ ap (B.with_params xs) (set_only f x blank)

-- ---- expressions

module _ (ws : List Name) where
  mutual
    unfolding R.check check

    check_only : (Γ : Frames) (e : Expr) → check ws Γ e ≡ R.check ws (frames_only Γ) e
    check_only Γ (at n f) = form_only Γ n f

    form_only : (Γ : Frames) (n : ℕ) (f : Form) → check_form ws Γ n f ≡ R.check_form ws (frames_only Γ) n f
    form_only Γ n (literal t) = refl
    form_only Γ n (variable x) = ap ok (sym (lookup_only Γ x))
    form_only Γ n (unary o e) = rw (check_only Γ e)
    form_only Γ n (binary o l r) = rw (check_only Γ l, check_only Γ r)
    form_only Γ n (call f es) = rw (check_only Γ f, all_only Γ es)
    form_only Γ n (attribute e) = rw (check_only Γ e)
    form_only Γ n (list_of es) = rw (all_only Γ es)
    form_only Γ n (dict_of es) = rw (all_only Γ es)
    form_only Γ n (tuple_of es) = rw (all_only Γ es)
    form_only Γ n (set_of es) = rw (all_only Γ es)
    form_only Γ n (index o i) = rw (check_only Γ o, check_only Γ i)
    form_only Γ n lambda = refl

    all_only : (Γ : Frames) (es : Exprs) → check_all ws Γ es ≡ R.check_all ws (frames_only Γ) es
    all_only Γ no_exprs = refl
    all_only Γ (e also es) = rw (check_only Γ e, all_only Γ es)

-- ---- one law for each way to put ends together

then_only : (e : End) (d : B.End) (k : State → End) (l : B.State → B.End) → forget e ≡ d → ((s : State) → forget (k s) ≡ l (state_only s))
    → forget (e >>= k) ≡ B.◌>>=◌ d l
unfolding forget ◌>>=◌ B.◌>>=◌
then_only (done s) d k l p h = rw (← p) (h s)
then_only (wrong r s) d k l p h = rw (← p)
then_only (too_deep n) d k l p h = rw (← p)

onward_only : (drops : Bool) (e : End) (d : B.End) (k : State → End) (l : B.State → B.End) → forget e ≡ d
    → ((s : State) → forget (k s) ≡ l (state_only s)) → forget (onward drops e k) ≡ B.onward drops d l
unfolding forget onward B.onward
onward_only drops (done s) d k l p h = rw (← p) (h s)
onward_only true (wrong r s) d k l p h = rw (← p) (h s)
onward_only false (wrong r s) d k l p h = rw (← p)
onward_only drops (too_deep n) d k l p h = rw (← p)

after_only : (f : State → State) (g : B.State → B.State) (e : End) (d : B.End) → forget e ≡ d → ((s : State) → state_only (f s) ≡ g (state_only s))
    → forget (after f e) ≡ B.after g d
unfolding forget after B.after
after_only f g (done s) d p h = rw (← p) (ap B.done (h s))
after_only f g (wrong r s) d p h = rw (← p) (ap (B.wrong (refusal_only r)) (h s))
after_only f g (too_deep n) d p h = rw (← p)

copy_only : (Γ : Frames) (e : End) (d : B.End) → forget e ≡ d → forget (on_copy Γ e) ≡ B.on_copy (frames_only Γ) d
unfolding forget on_copy B.on_copy
copy_only Γ (done s) d p = rw (← p)
copy_only Γ (wrong r s) d p = rw (← p)
copy_only Γ (too_deep n) d p = rw (← p)

popped_only : (e : End) (d : B.End) → forget e ≡ d → forget (popped e) ≡ B.popped d
unfolding forget popped B.popped
popped_only (done s) d p = rw (← p) (ap (λ Γ. B.done (B.state Γ s.returns)) (tail_only s.frames))
popped_only (wrong r s) d p = rw (← p)
popped_only (too_deep n) d p = rw (← p)

if_only : (b : Bool) (d e : End) (d₁ e₁ : B.End) → forget d ≡ d₁ → forget e ≡ e₁ → forget (test b then d else e) ≡ (test b then d₁ else e₁)
unfolding test◌then◌else◌
if_only true d e d₁ e₁ p q = p
if_only false d e d₁ e₁ p q = q

some_end : {A : Type 0} (o : Option A) (f : A → End) (e : End) (g : A → B.End) (d : B.End) → ((a : A) → forget (f a) ≡ g a) → forget e ≡ d
    → forget (if_some o f e) ≡ if_some o g d
unfolding if_some
some_end none f e g d p q = q
some_end (some a) f e g d p q = p a

-- an expression's refusal has no first place to forget
judged_only : (r : Refusal) → Judged r → refusal_only r ≡ r
judged_only r j = ap (λ (o : Option ℕ). record { code = r.code; node = r.node; first = o; names = r.names }) (sym j.alone)

typed_only : (c : Checked) (s : State) (k : Ty → End) (l : Ty → B.End) → Fair c → ((t : Ty) → forget (k t) ≡ l t)
    → forget (typed c s k) ≡ B.typed c (state_only s) l
unfolding forget typed B.typed
typed_only (ok t) s k l f h = h t
typed_only (refused r) s k l f h = ap (λ q. B.wrong q (state_only s)) (judged_only r (fair_judged f))

done_only : (s : State) → forget (done s) ≡ B.done (state_only s)
unfolding forget
done_only s = refl

wrong_only : (r : Refusal) (s : State) → forget (wrong r s) ≡ B.wrong (refusal_only r) (state_only s)
unfolding forget
wrong_only r s = refl

deep_only : (n : ℕ) → forget (too_deep n) ≡ B.too_deep n
unfolding forget
deep_only n = refl

since_write : (x : ℕ) (o : Option ℕ) (n : ℕ) (u : Ty) (Γ : Frames) → frames_only (write x (since o n u) Γ) ≡ R.write x u (frames_only Γ)
unfolding since
since_write x o n u Γ = write_only x (since o n u) Γ

bind_only : (x : ℕ) (b : Binding) (s : State) → forget (done (bind x b s)) ≡ B.done (B.bind x b.type (state_only s))
bind_only x b s = done_only (bind x b s) ∙ ap (λ Γ. B.done (B.state Γ s.returns)) (write_only x b s.frames)

-- ---- rules of statements

assign_name_only : (n x : ℕ) (t : Ty) (s : State) → forget (assign_name n x t s) ≡ B.assign_name n x t (state_only s)
unfolding assign_name B.assign_name since
assign_name_only n x t s =
    rw (lookup_only s.frames x)
    (some_end (agreed (lookup s.frames x).type t) _ _ _ _ (λ u. bind_only x _ s) (wrong_only _ s))

unpack_only : (n k : ℕ) (t : Ty) (s : State) (go : List Ty → End) (to : List Ty → B.End) → ((ts : List Ty) → forget (go ts) ≡ to ts)
    → forget (unpack_into n k t s go) ≡ B.unpack_into n k t (state_only s) to
unfolding unpack_into B.unpack_into
unpack_only n k t s go to h =
    some_end (unpacked k t) _ _ _ _ (λ ts. if_only (eqb (length ts) k) _ _ _ _ (h ts) (wrong_only _ s)) (wrong_only _ s)

return_only : (n : ℕ) (t : Ty) (s : State) → forget (return_rule n t s) ≡ B.return_rule n t (state_only s)
unfolding return_rule B.return_rule
return_only n t s = some_end (agreed s.returns t) _ _ _ _ (λ u. done_only _) (wrong_only _ s)

in_only : (loop : Bool) (c n : ℕ) (s : State) → forget (only_in loop c n s) ≡ B.only_in loop c n (state_only s)
unfolding only_in B.only_in
in_only loop c n s = if_only loop _ _ _ _ (done_only s) (wrong_only _ s)

over_only : (n : ℕ) (t : Ty) (s : State) (k : Ty → End) (l : Ty → B.End) → ((u : Ty) → forget (k u) ≡ l u)
    → forget (over_elements n t s k) ≡ B.over_elements n t (state_only s) l
unfolding over_elements B.over_elements
over_only n t s k l h = some_end (element_of t) _ _ _ _ h (wrong_only _ s)

room_only : (n : ℕ) (s : State) (e : End) (d : B.End) → forget e ≡ d → forget (if_room n s e) ≡ B.if_room n (state_only s) d
unfolding if_room B.if_room
room_only n s e d h = rw (length-map s.frames (λ f. frame_only f)) (if_only (ltb (length s.frames) most_frames) _ _ _ _ h (deep_only n))

enter_only : (xs : List ℕ) (s : State) → state_only (enter xs s) ≡ B.enter xs (state_only s)
unfolding enter B.enter
enter_only xs s = ap (λ f. B.state (f ∷ frames_only s.frames) unknown) (params_only xs empty ∙ ap (B.with_params xs) empty_only)

-- ---- merging: "Whether a branch assigned a name still goes by type alone."

tells_only : (a b : Option Binding) → B.tells (type_only a) (type_only b) ≡ tells a b
unfolding B.tells tells B.same_slot same_slot same_type type_only
tells_only none none = refl
tells_only (some a) none = refl
tells_only none (some b) = refl
tells_only (some a) (some b) = refl

abbrev types_in : List Binding → List Ty
types_in bs = map (λ b. b.type) bs

if_types : (q : Bool) (b : Binding) (bs : List Binding) → types_in (test q then b ∷ bs else bs) ≡ (test q then b.type ∷ types_in bs else types_in bs)
unfolding test◌then◌else◌
if_types true b bs = refl
if_types false b bs = refl

or_else_only : (o : Option Binding) → (or_else o blank).type ≡ or_else (type_only o) unknown
unfolding or_else type_only
or_else_only none = refl
or_else_only (some b) = refl

assigned_only : (Γ : Frames) (x : ℕ) (Δs : List Frames) → types_in (assigned Γ x Δs) ≡ B.assigned (frames_only Γ) x (map (λ Δ. frames_only Δ) Δs)
unfolding assigned B.assigned
assigned_only Γ x [] = refl
assigned_only Γ x (Δ ∷ Δs) =
    if_types (tells (slot_in Γ x) (slot_in Δ x)) (or_else (slot_in Δ x) blank) (assigned Γ x Δs)
    ∙ rw (slot_in_only Γ x, slot_in_only Δ x, tells_only (slot_in Γ x) (slot_in Δ x), assigned_only Γ x Δs, or_else_only (slot_in Δ x))

all_same : (b : Binding) (bs : List Binding) → all (same_type b) bs ≡ all (same b.type) (types_in bs)
unfolding all same_type
all_same b [] = refl
all_same b (a ∷ bs) = rw (all_same b bs)

module _ (ws : List Name) (c : ℕ) where
  merge_name_only : (x : ℕ) (bs : List Binding) (s : State) → forget (merge_name ws c x bs s) ≡ B.merge_name ws c x (types_in bs) (state_only s)
  unfolding merge_name B.merge_name
  merge_name_only x [] s = done_only s
  merge_name_only x (b ∷ bs) s = rw (← all_same b bs) (if_only (all (same_type b) bs) _ _ _ _ (bind_only x b s) (wrong_only _ s))

  merge_names_only : (Γ : Frames) (Δs : List Frames) (xs : List ℕ) (s : State)
      → forget (merge_names ws c Γ Δs xs s) ≡ B.merge_names ws c (frames_only Γ) (map (λ Δ. frames_only Δ) Δs) xs (state_only s)
  unfolding merge_names B.merge_names
  merge_names_only Γ Δs [] s = done_only s
  merge_names_only Γ Δs (x ∷ xs) s =
      then_only (merge_name ws c x (assigned Γ x Δs) s) _ _ _
      (merge_name_only x (assigned Γ x Δs) s ∙ ap (λ ts. B.merge_name ws c x ts (state_only s)) (assigned_only Γ x Δs))
      (λ s₁. merge_names_only Γ Δs xs s₁)

  merge_only : (Δs : List Frames) (s : State) → forget (merge ws c Δs s) ≡ B.merge ws c (map (λ Δ. frames_only Δ) Δs) (state_only s)
  unfolding merge B.merge
  merge_only Δs s = merge_names_only s.frames Δs (count 0 most_names) s

snoc_only : (Δs : List Frames) (Γ : Frames) → map (λ Δ. frames_only Δ) (Δs ++ (Γ ∷ [])) ≡ map (λ Δ. frames_only Δ) Δs ++ (frames_only Γ ∷ [])
snoc_only [] Γ = refl
snoc_only (Δ ∷ Δs) Γ = ap (λ r. frames_only Δ ∷ r) (snoc_only Δs Γ)

-- ---- targets and statements

module _ (ws : List Name) where
  checked_only : (e : Expr) (s : State) (k : Ty → End) (l : Ty → B.End) → ((t : Ty) → forget (k t) ≡ l t)
      → forget (checked ws e s k) ≡ B.checked ws e (state_only s) l
  unfolding checked B.checked
  checked_only e s k l h = rw (← check_only ws s.frames e) (typed_only (check ws s.frames e) s k l (check_fair ws s.frames e) h)

  condition_only : (e : Expr) (s : State) → forget (condition ws e s) ≡ B.condition ws e (state_only s)
  unfolding condition B.condition
  condition_only e s = checked_only e s _ _ (λ t. if_only (same t bool) _ _ _ _ (done_only s) (wrong_only _ s))

  mutual
    unfolding assign_to B.assign_to

    assign_only : (e : Expr) (t : Ty) (s : State) → forget (assign_to ws e t s) ≡ B.assign_to ws e t (state_only s)
    assign_only (at n f) t s = assign_form_only n f t s

    assign_form_only : (n : ℕ) (f : Form) (t : Ty) (s : State) → forget (assign_form ws n f t s) ≡ B.assign_form ws n f t (state_only s)
    assign_form_only n (literal l) t s = wrong_only _ s
    assign_form_only n (variable x) t s = assign_name_only n x t s
    assign_form_only n (unary o e) t s = wrong_only _ s
    assign_form_only n (binary o l r) t s = wrong_only _ s
    assign_form_only n (call f es) t s = wrong_only _ s
    assign_form_only n (attribute e) t s = checked_only _ s _ _ (λ u. done_only s)
    assign_form_only n (list_of es) t s = wrong_only _ s
    assign_form_only n (dict_of es) t s = wrong_only _ s
    assign_form_only n (tuple_of es) t s = unpack_only n (size es) t s _ _ (λ ts. assign_each_only es ts s)
    assign_form_only n (set_of es) t s = wrong_only _ s
    assign_form_only n (index o i) t s = checked_only _ s _ _ (λ u. done_only s)
    assign_form_only n lambda t s = wrong_only _ s

    assign_each_only : (es : Exprs) (ts : List Ty) (s : State) → forget (assign_each ws es ts s) ≡ B.assign_each ws es ts (state_only s)
    assign_each_only no_exprs ts s = done_only s
    assign_each_only (e also es) ts s =
        then_only (assign_to ws e _ s) _ _ _ (assign_only e (get_or ts 0 unknown) s) (λ s₁. assign_each_only es (tail ts) s₁)

module _ (ws : List Name) (setting : Setting) where
  mutual
    unfolding walk B.walk

    walk_only : (loop : Bool) (a : Stmt) (s : State) → forget (walk ws setting loop a s) ≡ B.walk ws setting loop a (state_only s)
    walk_only loop (line n a) s = act_only loop n a s

    act_only : (loop : Bool) (n : ℕ) (a : Act) (s : State) → forget (act ws setting loop n a s) ≡ B.act ws setting loop n a (state_only s)
    act_only loop n break s = in_only loop 20 n s
    act_only loop n continue s = in_only loop 21 n s
    act_only loop n pass s = done_only s
    act_only loop n class s = done_only s
    act_only loop n (assign e v) s = checked_only ws v s _ _ (λ t. assign_only ws e t s)
    act_only loop n (expr e) s = checked_only ws e s _ _ (λ t. done_only s)
    act_only loop n (return e) s = checked_only ws e s _ _ (λ t. return_only (place e) t s)
    act_only loop n (if_then as') s = branches_only loop (first_condition as') [] as' s
    act_only loop n (while c b) s =
        then_only (condition ws c s) _ _ _ (condition_only ws c s) (λ s₁. after_only _ _ _ _ (body_only true (dropping setting) b s₁) (λ s₂. refl))
    act_only loop n (for x e b) s =
        checked_only ws e s _ _
        (λ t. over_only (place e) t s _ _
        (λ u. after_only _ _ _ _
        (body_only true false b (bind x (since none (place e) u) s)
        ∙ ap (λ Γ. B.body ws setting true false b (B.state Γ s.returns)) (since_write x none (place e) u s.frames)) (λ s₂. refl)))
    act_only loop n (def xs b) s =
        room_only n s _ _
        (after_only _ _ _ _
        (popped_only _ _ (body_only false false b (enter xs s) ∙ ap (B.body ws setting false false b) (enter_only xs s))) (λ s₂. refl))

    body_only : (loop drops : Bool) (b : Stmts) (s : State) → forget (body ws setting loop drops b s) ≡ B.body ws setting loop drops b (state_only s)
    body_only loop drops no_stmts s = done_only s
    body_only loop drops (a next b) s =
        onward_only drops (walk ws setting loop a s) _ _ _ (walk_only loop a s) (λ s₁. body_only loop drops b s₁)

    arm_only : (loop : Bool) (a : Arm) (s : State) → forget (arm ws setting loop a s) ≡ B.arm ws setting loop a (state_only s)
    arm_only loop (on c b) s = then_only (condition ws c s) _ _ _ (condition_only ws c s) (λ s₁. body_only loop (dropping setting) b s₁)
    arm_only loop (otherwise b) s = body_only loop (dropping setting) b s

    branches_only : (loop : Bool) (c : ℕ) (Δs : List Frames) (as' : Arms) (s : State)
        → forget (branches ws setting loop c Δs as' s) ≡ B.branches ws setting loop c (map (λ Δ. frames_only Δ) Δs) as' (state_only s)
    branches_only loop c Δs no_arms s = merge_only ws c Δs s
    branches_only loop c Δs (a else_arms rest) s =
        then_only (on_copy s.frames (arm ws setting loop a s)) _ _ _ (copy_only s.frames _ _ (arm_only loop a s))
        (λ s₁. branches_only loop c (Δs ++ (s₁.frames ∷ [])) rest (with_returns s₁.returns s)
        ∙ ap (λ Es. B.branches ws setting loop c Es rest (B.state (frames_only s.frames) s₁.returns)) (snoc_only Δs s₁.frames))

  program_only : (b : Stmts) (s : State) → forget (program ws setting b s) ≡ B.program ws setting b (state_only s)
  unfolding program B.program
  program_only no_stmts s = done_only s
  program_only (a next b) s =
      then_only (walk ws setting false a _) _ _ _ (walk_only false a (with_returns unknown s)) (λ s₁. program_only b s₁)

start_only : state_only start ≡ B.start
unfolding start B.start
start_only = ap (λ f. B.state (f ∷ []) unknown) empty_only

-- ---- answers

entries_only : (ws : List Name) (f : Frame) → entries ws f ≡ B.entries ws (frame_only f)
unfolding entries B.entries if_some type_only
entries_only [] f = refl
entries_only (w ∷ ws) [] = refl
entries_only (w ∷ ws) (none ∷ f) = entries_only ws f
entries_only (w ∷ ws) (some b ∷ f) = ap (λ es. (w.spelling, b.type) ∷ es) (entries_only ws f)

listed_slot_only : (b : Bool) (o : Option Binding) → type_only (listed_slot b o) ≡ B.listed_slot b (type_only o)
unfolding listed_slot B.listed_slot type_only or_else
listed_slot_only true none = refl
listed_slot_only true (some b) = refl
listed_slot_only false o = refl

listed_slots_only : (xs : List ℕ) (f : Frame) (ys : List ℕ)
    → frame_only (map (λ x. listed_slot (is_in x xs) (get_or f x none)) ys) ≡ map (λ x. B.listed_slot (is_in x xs) (get_or (frame_only f) x none)) ys
listed_slots_only xs f [] = refl
listed_slots_only xs f (y ∷ ys) =
    rw (listed_slots_only xs f ys, listed_slot_only (is_in y xs) (get_or f y none), slot_only f y)

listing_only : (ws : List Name) (b : Stmts) (f : Frame) → listing ws b f ≡ B.listing ws b (frame_only f)
unfolding listing B.listing listed_frame B.listed_frame
listing_only ws b f = entries_only ws _ ∙ ap (B.entries ws) (listed_slots_only (may_bind b) f (count 0 most_names))

written_only : (room : ℕ) (bs : List ℕ) → as_before (written room bs) ≡ written room bs
unfolding written test◌then◌else◌
written_only room bs = by (leb (length bs) room)
  where
    full : Answer
    full = record { code = 0; place = 0; span_start = 0; span_end = 0; second_start = 0; second_end = 0; sheet = bs; message = [] }

    by : (q : Bool) → as_before (test q then full else bare 10 0) ≡ (test q then full else bare 10 0)
    by true = refl
    by false = refl

ended_only : (ws : List Name) (ds : List Node) (sheet_room message_room : ℕ) (e : End)
    → as_before (ended ws ds sheet_room message_room e) ≡ B.ended ws ds sheet_room message_room (forget e)
unfolding ended B.ended forget message
ended_only ws ds sheet_room message_room (done s) =
    written_only sheet_room _ ∙ rw (newest_only s.frames, listing_only ws (tree_of ds) (newest s.frames))
ended_only ws ds sheet_room message_room (wrong r s) = refl
ended_only ws ds sheet_room message_room (too_deep n) = refl

walked_only : (setting : Setting) (bs : List ℕ) → forget (walked setting bs) ≡ B.walked setting bs
unfolding walked B.walked
walked_only setting bs =
    program_only (names_of bs) setting (tree_of (nodes_of bs)) start ∙ ap (B.program (names_of bs) setting (tree_of (nodes_of bs))) start_only

under_only : (setting : Setting) (bs : List ℕ) (sheet_room message_room : ℕ)
    → as_before (former_under setting bs sheet_room message_room) ≡ B.answer_under setting bs sheet_room message_room
unfolding former_under unless_fault walk_answer B.answer_under if_some
under_only setting bs sheet_room message_room = by (image_fault bs)
  where
    today : Answer
    today = ended (names_of bs) (nodes_of bs) sheet_room message_room (walked setting bs)

    earlier : Answer
    earlier = B.ended (names_of bs) (nodes_of bs) sheet_room message_room (B.walked setting bs)

    by : (o : Option Fault)
        → as_before (if_some o (λ f. bare f.code f.place) today) ≡ if_some o (λ f. bare f.code f.place) earlier
    by none =
        ended_only (names_of bs) (nodes_of bs) sheet_room message_room (walked setting bs)
        ∙ ap (B.ended (names_of bs) (nodes_of bs) sheet_room message_room) (walked_only setting bs)
    by (some f) = refl

-- code, place, span, sheet and message of every image, for any setting's number and any buffers, are those from before
pub as_before_lem : (n : ℕ) (bs : List ℕ) (sheet_room message_room : ℕ) → as_before (former_answer n bs sheet_room message_room) ≡ B.answer n bs sheet_room message_room
unfolding former_answer B.answer if_some
as_before_lem n bs sheet_room message_room = by (setting_of n)
  where
    by : (o : Option Setting)
        → as_before (if_some o (λ setting. former_under setting bs sheet_room message_room) (bare 13 0))
        ≡ if_some o (λ setting. B.answer_under setting bs sheet_room message_room) (bare 13 0)
    by none = refl
    by (some setting) = under_only setting bs sheet_room message_room

-- and so is the line that `typecheck` prints, whatever words it is given, of an image without TreeSets
pub line_as_before : (ws : List (List ℕ)) (input : List ℕ) → first_tree_set (take read_at_most input) ≡ none
    → printed ws input ≡ line_of (B.answer (setting_told ws) (take read_at_most input) sheet_buffer message_buffer)
unfolding printed line_of refused_line
line_as_before ws input t =
    ap line_of (as_former (setting_told ws) (take read_at_most input) sheet_buffer message_buffer t)
    ∙ ap line_of (as_before_lem (setting_told ws) (take read_at_most input) sheet_buffer message_buffer)
