-- The second place of 25 lies before its place: what first made the old type known stands earlier in the program, in either setting. (False
-- of a walk that keeps the value's node and not the Variable's: in `(x, x) = (1, "s")` the 1 stands behind the x that is refused.)
-- Of 23 it is false: its place is the If's first condition, and the first type is mostly made known inside the branches, as in the smallest
-- script, `behind`; yet it may lie before the If, as in `before`. What holds is that it lies before the end of the If.
use mathlib.Core.Path.{◌≡◌, refl, ◌∙◌, ap, sym}
use mathlib.Core.Bool.{Bool, true, false}
use mathlib.Core.Logic.{◌⊎◌, ⊎_elim}
use mathlib.Core.List.{List, [], ◌∷◌, tail}
use mathlib.Core.Option.{Option, none, some, some-injective}
use Prim.Native.Nat.{ℕ, suc, ◌≤◌, ◌<◌}
use native.Mathlib.Omega.{arith}
use lib.ListN.{length}
use Rattle.meaning.specs.Limits.{most_names}
use Rattle.meaning.specs.Base.{test◌then◌else◌, if_some, count}
use Rattle.meaning.specs.Types.{Ty}
use Rattle.meaning.specs.Tree.{Expr, at, Form, literal, variable, unary, binary, call, attribute, list_of, dict_of, tuple_of, set_of, index, lambda, Exprs, no_exprs, ◌also◌, place, Stmt, line, Act, break, continue, pass, class, assign, expr, return, if_then, while, for, def, Stmts, no_stmts, ◌next◌, Arms, no_arms, ◌else_arms◌, Arm, on, otherwise, first_condition}
use Rattle.meaning.specs.Image.{Fault, Name, Node, check_fault, node_of, names_of, nodes_of}
use Rattle.meaning.specs.Decode.{stop_of, tree_of}
use Rattle.meaning.specs.Message.{Piece, Refusal}
use Rattle.meaning.specs.Frames.{Binding, Frame, Frames, lookup, since}
use Rattle.meaning.specs.Operators.{Checked, ok, refused}
use Rattle.meaning.specs.Rules.{element_of}
use Rattle.meaning.specs.Walk.{Setting, plain, strict, dropping, State, End, done, wrong, too_deep, refuse, ◌>>=◌, onward, after, on_copy, typed, bind, agreed, assign_name, unpacked, unpack_into, return_rule, assigned, merge_name, merge_names, merge, enter, popped, if_room, only_in, over_elements, checked, condition, assign_to, assign_form, assign_each, walk, act, body, arm, branches, program, start}
use Rattle.meaning.specs.Answer.{Answer, bare, ended, walked, walk_answer, unless_fault, answer_under, setting_of, answer, meaning_open}
use Rattle.meaning.proofs.Codes.{Fair, fair_judged, check_fair}
use Rattle.meaning.proofs.Rows.{image}
use Rattle.meaning.proofs.Faults.{Sound, walks, sizes, check_told, early_below}
use Rattle.meaning.proofs.Nesting.{nodes_many, sound_nested}
use Rattle.meaning.proofs.FirstPlace.{There, Placed, SlotPlaced, FramePlaced, FramesPlaced, BranchesPlaced, Sures, agreed_differ, lookup_placed, write_placed, tail_placed, new_placed, kept_placed, assigned_sure, none_placed, one_more, enter_placed, start_placed}
use Rattle.meaning.proofs.SecondSpan.{Second, makes_inside, written_neither, refused_pointed}
use Rattle.meaning.proofs.Rising.{TargetRising, FormRising, TargetsRising, Rising, LineRising, ActRising, ArmsRising, ArmRising, EndsAt, tree_rising}

-- ---- frames whose nodes lie below a bound

abbrev Below : ℕ → ℕ → Type 0
Below h = λ m. m < h

abbrev FramesBelow : ℕ → Frames → Type 0
FramesBelow h Γ = FramesPlaced (Below h) Γ

module _ {k h : ℕ} (l : k ≤ h) where
  there_up : (o : Option ℕ) → There (Below k) o → There (Below h) o
  there_up o t = record { node = t.node; is = t.is; holds = omega (arith, t.holds) }

  placed_up : (b : Binding) → Placed (Below k) b → Placed (Below h) b
  placed_up b p = record { known = λ n. there_up b.first (p.known n); none_known = p.none_known }

  slot_up : (o : Option Binding) → SlotPlaced (Below k) o → SlotPlaced (Below h) o
  unfolding SlotPlaced
  slot_up none p = tt
  slot_up (some b) p = placed_up b p

  frame_up : (f : Frame) → FramePlaced (Below k) f → FramePlaced (Below h) f
  unfolding FramePlaced
  frame_up [] p = tt
  frame_up (o ∷ f) p = (slot_up o p.0, frame_up f p.1)

  up : (Γ : Frames) → FramesBelow k Γ → FramesBelow h Γ
  unfolding FramesPlaced
  up [] p = tt
  up (f ∷ Γ) p = (frame_up f p.0, up Γ p.1)

  branches_up : (Δs : List Frames) → BranchesPlaced (Below k) Δs → BranchesPlaced (Below h) Δs
  unfolding BranchesPlaced
  branches_up [] p = tt
  branches_up (Δ ∷ Δs) p = (up Δ p.0, branches_up Δs p.1)

-- ---- what is asked of a refusal and of an end

-- Ends c h: the If whose first condition is node c ends at h
module _ (Ends : ℕ → ℕ → Type 0) where
  pub record Ordered (r : Refusal) : Type 0 where
    pub assigning : r.code ≡ 25 → There (Below r.node) r.first
    pub merging : r.code ≡ 23 → (h : ℕ) × (Ends r.node h × There (Below h) r.first)

  -- every node that the frames hold lies below h
  Ending : ℕ → End → Type 0
  Ending h (done s) = FramesBelow h s.frames
  Ending h (wrong r s) = Ordered r × FramesBelow h s.frames
  Ending h (too_deep n) = Unit {0}

  ending_up : {k h : ℕ} → k ≤ h → (e : End) → Ending k e → Ending h e
  unfolding Ending
  ending_up l (done s) p = up l s.frames p
  ending_up l (wrong r s) p = (p.0, up l s.frames p.1)
  ending_up l (too_deep n) p = tt

  -- ---- one law for each way to put ends together: the first part ends below k, and all of it below h

  then_ending : {k : ℕ} (h : ℕ) → k ≤ h → (e : End) (g : State → End) → Ending k e → ((s : State) → FramesBelow k s.frames → Ending h (g s)) → Ending h (e >>= g)
  unfolding Ending ◌>>=◌
  then_ending h l (done s) g p f = f s p
  then_ending h l (wrong r s) g p f = (p.0, up l s.frames p.1)
  then_ending h l (too_deep n) g p f = tt

  onward_ending : {k : ℕ} (h : ℕ) → k ≤ h → (drops : Bool) (e : End) (g : State → End) → Ending k e
      → ((s : State) → FramesBelow k s.frames → Ending h (g s)) → Ending h (onward drops e g)
  unfolding Ending onward
  onward_ending h l drops (done s) g p f = f s p
  onward_ending h l true (wrong r s) g p f = f s p.1
  onward_ending h l false (wrong r s) g p f = (p.0, up l s.frames p.1)
  onward_ending h l drops (too_deep n) g p f = tt

  module _ (h : ℕ) where
    done_ending : (s : State) → FramesBelow h s.frames → Ending h (done s)
    unfolding Ending
    done_ending s p = p

    -- any other code
    refuse_ending : (c n : ℕ) (ps : List Piece) (s : State) → (c ≡ 23 → ⊥) → (c ≡ 25 → ⊥) → FramesBelow h s.frames → Ending h (refuse c n ps s)
    unfolding Ending
    refuse_ending c n ps s f g p = (record { assigning = λ e. absurd (g e); merging = λ e. absurd (f e) }, p)

    wrong_ending : (r : Refusal) (s : State) → Ordered r → FramesBelow h s.frames → Ending h (wrong r s)
    unfolding Ending
    wrong_ending r s o p = (o, p)

    deep_ending : (n : ℕ) → Ending h (too_deep n)
    unfolding Ending
    deep_ending n = tt

    after_ending : (f : State → State) (e : End) → Ending h e → ((s : State) → FramesBelow h s.frames → FramesBelow h (f s).frames) → Ending h (after f e)
    unfolding Ending after
    after_ending f (done s) p g = g s p
    after_ending f (wrong r s) p g = (p.0, g s p.1)
    after_ending f (too_deep n) p g = tt

    copy_ending : (Γ : Frames) (e : End) → FramesBelow h Γ → Ending h e → Ending h (on_copy Γ e)
    unfolding Ending on_copy
    copy_ending Γ (done s) q p = p
    copy_ending Γ (wrong r s) q p = (p.0, q)
    copy_ending Γ (too_deep n) q p = tt

    popped_ending : (e : End) → Ending h e → Ending h (popped e)
    unfolding Ending popped
    popped_ending (done s) p = tail_placed (Below h) s.frames p
    popped_ending (wrong r s) p = p
    popped_ending (too_deep n) p = tt

    if_ending : (b : Bool) (d e : End) → Ending h d → Ending h e → Ending h (test b then d else e)
    unfolding test◌then◌else◌
    if_ending true d e p q = p
    if_ending false d e p q = q

    some_ending : {A : Type 0} (o : Option A) (f : A → End) (e : End) → ((a : A) → o ≡ some a → Ending h (f a)) → (o ≡ none → Ending h e) → Ending h (if_some o f e)
    unfolding if_some
    some_ending none f e p q = q refl
    some_ending (some a) f e p q = p a refl

    typed_ending : (c : Checked) (s : State) (g : Ty → End) → Fair c → FramesBelow h s.frames → ((t : Ty) → Ending h (g t)) → Ending h (typed c s g)
    unfolding Ending typed
    typed_ending (ok t) s g f p q = q t
    typed_ending (refused r) s g f p q =
        let j = fair_judged f in
        (record { assigning = λ e. absurd (omega (arith, j.above)); merging = λ e. absurd (omega (arith, j.above)) }, p)

    -- ---- rules of statements

    return_ending : (n : ℕ) (t : Ty) (s : State) → FramesBelow h s.frames → Ending h (return_rule n t s)
    unfolding return_rule
    return_ending n t s p =
        some_ending (agreed _ t) _ _ (λ u e. done_ending _ p) (λ e. refuse_ending 22 n _ s (λ z. omega arith) (λ z. omega arith) p)

    only_ending : (loop : Bool) (c n : ℕ) (s : State) → (c ≡ 23 → ⊥) → (c ≡ 25 → ⊥) → FramesBelow h s.frames → Ending h (only_in loop c n s)
    unfolding only_in
    only_ending loop c n s f g p = if_ending loop _ _ (done_ending s p) (refuse_ending c n [] s f g p)

    over_ending : (n : ℕ) (t : Ty) (s : State) (g : Ty → End) → FramesBelow h s.frames → ((u : Ty) → Ending h (g u)) → Ending h (over_elements n t s g)
    unfolding over_elements
    over_ending n t s g p q = some_ending (element_of t) _ _ (λ u e. q u) (λ e. refuse_ending 24 n _ s (λ z. omega arith) (λ z. omega arith) p)

    room_ending : (n : ℕ) (s : State) (e : End) → Ending h e → Ending h (if_room n s e)
    unfolding if_room
    room_ending n s e p = if_ending _ _ _ p (deep_ending n)

  -- an assignment at n: what the frames held lies before it
  assign_name_ending : (k h n x : ℕ) (t : Ty) (s : State) → k ≤ n → n < h → FramesBelow k s.frames → Ending h (assign_name n x t s)
  unfolding assign_name
  assign_name_ending k h n x t s l u p =
      let old : Binding = lookup s.frames x in
      let q : FramesBelow h s.frames = up (omega arith) s.frames p in
      some_ending h (agreed old.type t) _ _
      (λ v e. done_ending h _ (write_placed (Below h) x _ s.frames (kept_placed (Below h) old n t v u (lookup_placed (Below h) s.frames x q) e) q))
      (λ e. wrong_ending h _ s
      record {
        assigning = λ z. there_up l old.first ((lookup_placed (Below k) s.frames x p).known (agreed_differ old.type t e));
        merging = λ z. absurd (omega arith);
      }
      q)

  -- ---- merging

  module _ (ws : List Name) (c h : ℕ) (ends : Ends c h) where
    merge_name_ending : (x : ℕ) (bs : List Binding) (s : State) → Sures (Below h) bs → FramesBelow h s.frames → Ending h (merge_name ws c x bs s)
    unfolding merge_name Sures
    merge_name_ending x [] s q p = done_ending h s p
    merge_name_ending x (b ∷ bs) s q p =
        if_ending h _ _ _ (done_ending h _ (write_placed (Below h) x b s.frames q.0.0 p))
        (wrong_ending h _ s record { assigning = λ z. absurd (omega arith); merging = λ z. (h, (ends, q.0.0.known q.0.1)) } p)

    merge_names_ending : (Γ : Frames) (Δs : List Frames) (xs : List ℕ) (s : State) → BranchesPlaced (Below h) Δs → FramesBelow h s.frames
        → Ending h (merge_names ws c Γ Δs xs s)
    unfolding merge_names
    merge_names_ending Γ Δs [] s q p = done_ending h s p
    merge_names_ending Γ Δs (x ∷ xs) s q p =
        then_ending h (omega arith) (merge_name ws c x (assigned Γ x Δs) s) _ (merge_name_ending x _ s (assigned_sure (Below h) Γ x Δs q) p)
        (λ s₁ p₁. merge_names_ending Γ Δs xs s₁ q p₁)

    merge_ending : (Δs : List Frames) (s : State) → BranchesPlaced (Below h) Δs → FramesBelow h s.frames → Ending h (merge ws c Δs s)
    unfolding merge
    merge_ending Δs s q p = merge_names_ending s.frames Δs (count 0 most_names) s q p

  -- ---- targets and statements

  module _ (ws : List Name) where
    checked_ending : (h : ℕ) (e : Expr) (s : State) (g : Ty → End) → FramesBelow h s.frames → ((t : Ty) → Ending h (g t)) → Ending h (checked ws e s g)
    unfolding checked
    checked_ending h e s g p q = typed_ending h _ s g (check_fair ws s.frames e) p q

    condition_ending : (h : ℕ) (e : Expr) (s : State) → FramesBelow h s.frames → Ending h (condition ws e s)
    unfolding condition
    condition_ending h e s p =
        checked_ending h e s _ p (λ t. if_ending h _ _ _ (done_ending h s p) (refuse_ending h 36 _ _ s (λ z. omega arith) (λ z. omega arith) p))

    no_target : (h n : ℕ) (s : State) → FramesBelow h s.frames → Ending h (refuse 28 n [] s)
    no_target h n s p = refuse_ending h 28 n [] s (λ z. omega arith) (λ z. omega arith) p

    mutual
      unfolding assign_to unpack_into TargetRising

      assign_ending : (k h : ℕ) → k ≤ h → (e : Expr) (t : Ty) (s : State) → TargetRising k e h → FramesBelow k s.frames → Ending h (assign_to ws e t s)
      assign_ending k h l (at n f) t s r p = form_ending k h l n f t s r p

      form_ending : (k h : ℕ) → k ≤ h → (n : ℕ) (f : Form) (t : Ty) (s : State) → FormRising k n f h → FramesBelow k s.frames → Ending h (assign_form ws n f t s)
      form_ending k h l n (literal v) t s r p = no_target h n s (up l _ p)
      form_ending k h l n (variable x) t s r p = assign_name_ending k h n x t s r.0 r.1 p
      form_ending k h l n (unary o e) t s r p = no_target h n s (up l _ p)
      form_ending k h l n (binary o a b) t s r p = no_target h n s (up l _ p)
      form_ending k h l n (call f es) t s r p = no_target h n s (up l _ p)
      form_ending k h l n (attribute e) t s r p = checked_ending h _ s _ (up l _ p) (λ u. done_ending h s (up l _ p))
      form_ending k h l n (list_of es) t s r p = no_target h n s (up l _ p)
      form_ending k h l n (dict_of es) t s r p = no_target h n s (up l _ p)
      form_ending k h l n (tuple_of es) t s r p =
          some_ending h (unpacked _ t) _ _
          (λ ts e. if_ending h _ _ _ (each_ending k h l es ts s r p) (refuse_ending h 26 n _ s (λ z. omega arith) (λ z. omega arith) (up l _ p)))
          (λ e. refuse_ending h 27 n _ s (λ z. omega arith) (λ z. omega arith) (up l _ p))
      form_ending k h l n (set_of es) t s r p = no_target h n s (up l _ p)
      form_ending k h l n (index o i) t s r p = checked_ending h _ s _ (up l _ p) (λ u. done_ending h s (up l _ p))
      form_ending k h l n lambda t s r p = no_target h n s (up l _ p)

      each_ending : (k h : ℕ) → k ≤ h → (es : Exprs) (ts : List Ty) (s : State) → TargetsRising k es h → FramesBelow k s.frames → Ending h (assign_each ws es ts s)
      each_ending k h l no_exprs ts s r p = done_ending h s (up l _ p)
      each_ending k h l (e also es) ts s r p =
          then_ending h r.below (assign_to ws e _ s) _ (assign_ending k r.middle r.above e _ s r.head p)
          (λ s₁ p₁. each_ending r.middle h r.below es (tail ts) s₁ r.rest p₁)

  module _ (ws : List Name) (setting : Setting) where
    mutual
      unfolding walk Rising

      walk_ending : (k h : ℕ) → k ≤ h → (loop : Bool) (a : Stmt) (s : State) → LineRising Ends k a h → FramesBelow k s.frames → Ending h (walk ws setting loop a s)
      walk_ending k h l loop (line n a) s r p = act_ending k h l loop n a s r p

      act_ending : (k h : ℕ) → k ≤ h → (loop : Bool) (n : ℕ) (a : Act) (s : State) → ActRising Ends k a h → FramesBelow k s.frames
          → Ending h (act ws setting loop n a s)
      act_ending k h l loop n break s r p = only_ending h loop 20 n s (λ z. omega arith) (λ z. omega arith) (up l _ p)
      act_ending k h l loop n continue s r p = only_ending h loop 21 n s (λ z. omega arith) (λ z. omega arith) (up l _ p)
      act_ending k h l loop n pass s r p = done_ending h s (up l _ p)
      act_ending k h l loop n class s r p = done_ending h s (up l _ p)
      act_ending k h l loop n (assign e v) s r p = checked_ending ws h v s _ (up l _ p) (λ t. assign_ending ws k h l e t s r p)
      act_ending k h l loop n (expr e) s r p = checked_ending ws h e s _ (up l _ p) (λ t. done_ending h s (up l _ p))
      act_ending k h l loop n (return e) s r p = checked_ending ws h e s _ (up l _ p) (λ t. return_ending h (place e) t s (up l _ p))
      act_ending k h l loop n (if_then as') s r p =
          ending_up r.below _
          (branches_ending k r.middle r.above loop (first_condition as') r.head [] as' s r.rest (none_placed (Below k)) p)
      act_ending k h l loop n (while c b) s r p =
          then_ending h l (condition ws c s) _ (condition_ending ws k c s p)
          (λ s₁ p₁. after_ending h _ (body ws setting true (dropping setting) b s₁) (body_ending k h l true (dropping setting) b s₁ r p₁) (λ s₂ p₂. up l _ p))
      act_ending k h l loop n (for x e b) s r p =
          checked_ending ws h e s _ (up l _ p)
          (λ t. over_ending h (place e) t s _ (up l _ p)
          (λ u. after_ending h _ (body ws setting true false b (bind x (since none (place e) u) s))
          (body_ending (suc (place e)) h r.1.0 true false b (bind x (since none (place e) u) s) r.1.1
          (write_placed (Below (suc (place e))) x _ s.frames (new_placed (Below (suc (place e))) (place e) u (omega arith)) (up (omega (arith, r.0)) _ p)))
          (λ s₂ p₂. up l _ p)))
      act_ending k h l loop n (def xs b) s r p =
          room_ending h n s _
          (after_ending h _ (popped (body ws setting false false b (enter xs s)))
          (popped_ending h _ (body_ending k h l false false b (enter xs s) r (enter_placed (Below k) xs s p))) (λ s₂ p₂. p₂))

      body_ending : (k h : ℕ) → k ≤ h → (loop drops : Bool) (b : Stmts) (s : State) → Rising Ends k b h → FramesBelow k s.frames
          → Ending h (body ws setting loop drops b s)
      body_ending k h l loop drops no_stmts s r p = done_ending h s (up l _ p)
      body_ending k h l loop drops (a next b) s r p =
          onward_ending h r.below drops (walk ws setting loop a s) _ (walk_ending k r.middle r.above loop a s r.head p)
          (λ s₁ p₁. body_ending r.middle h r.below loop drops b s₁ r.rest p₁)

      arm_ending : (k h : ℕ) → k ≤ h → (loop : Bool) (a : Arm) (s : State) → ArmRising Ends k a h → FramesBelow k s.frames → Ending h (arm ws setting loop a s)
      arm_ending k h l loop (on c b) s r p =
          then_ending h l (condition ws c s) _ (condition_ending ws k c s p) (λ s₁ p₁. body_ending k h l loop (dropping setting) b s₁ r p₁)
      arm_ending k h l loop (otherwise b) s r p = body_ending k h l loop (dropping setting) b s r p

      branches_ending : (k h : ℕ) → k ≤ h → (loop : Bool) (c : ℕ) → Ends c h → (Δs : List Frames) (as' : Arms) (s : State) → ArmsRising Ends k as' h
          → BranchesPlaced (Below k) Δs → FramesBelow k s.frames → Ending h (branches ws setting loop c Δs as' s)
      branches_ending k h l loop c ends Δs no_arms s r d p = merge_ending ws c h ends Δs s (branches_up l Δs d) (up l _ p)
      branches_ending k h l loop c ends Δs (a else_arms rest) s r d p =
          then_ending h r.below (on_copy s.frames (arm ws setting loop a s)) _
          (copy_ending r.middle s.frames _ (up r.above _ p) (arm_ending k r.middle r.above loop a s r.head p))
          (λ s₁ p₁. branches_ending r.middle h r.below loop c ends _ rest _ r.rest
          (one_more (Below r.middle) Δs s₁.frames (branches_up r.above Δs d) p₁) (up r.above _ p))

    program_ending : (k h : ℕ) → k ≤ h → (b : Stmts) (s : State) → Rising Ends k b h → FramesBelow k s.frames → Ending h (program ws setting b s)
    unfolding program Rising
    program_ending k h l no_stmts s r p = done_ending h s (up l _ p)
    program_ending k h l (a next b) s r p =
        then_ending h r.below (walk ws setting false a _) _ (walk_ending k r.middle r.above false a _ r.head p)
        (λ s₁ p₁. program_ending r.middle h r.below b s₁ r.rest p₁)

  ending_wrong : (h : ℕ) {e : End} {r : Refusal} {s : State} → Ending h e → e ≡ wrong r s → Ordered r
  unfolding Ending
  ending_wrong h p e = (rw e at p).0

-- ---- the walk of an image

module _ (setting : Setting) {bs : List ℕ} (good : Sound bs) where
  image_ending : Ending (EndsAt (nodes_of bs)) (length (nodes_of bs)) (walked setting bs)
  unfolding walked
  image_ending =
      let ds : List Node = nodes_of bs in
      program_ending (EndsAt ds) (names_of bs) setting 0 (length ds) (omega arith) (tree_of ds) start
      (tree_rising (sound_nested good) (omega (arith, nodes_many bs, (sizes good.headed).one_node))) (start_placed (Below 0))

  module _ (r : Refusal) (s : State) (told : walked setting bs ≡ wrong r s) where
    ordered : Ordered (EndsAt (nodes_of bs)) r
    ordered = ending_wrong (EndsAt (nodes_of bs)) (length (nodes_of bs)) image_ending told

    the_node : (h m : ℕ) → There (Below h) r.first → r.first ≡ some m → m < h
    the_node h m t e = let z : t.node ≡ m = some-injective _ _ (sym t.is ∙ e) in rw z at t.holds

    -- what 25 points at stands before the Variable that is refused
    pub assigned_before : r.code ≡ 25 → (m : ℕ) → r.first ≡ some m → m < r.node
    assigned_before c m e = the_node r.node m (ordered.assigning c) e

    -- what 23 points at stands before the end of the If, node i, whose first child is the place
    pub merged_before_end : r.code ≡ 23 → (m : ℕ) → r.first ≡ some m
        → (i : ℕ) × (((node_of (nodes_of bs) i).kind ≡ 8) × ((r.node ≡ suc i) × (m < stop_of (nodes_of bs) i)))
    unfolding EndsAt
    merged_before_end c m e =
        let o = ordered.merging c in
        let h = o.1.0 in
        (h.0, (h.1.0, (h.1.1.0, rw h.1.1.1 at (the_node o.0 m o.1.1 e))))

-- ---- the answer

-- the second span is that of one of the image's nodes: for 25 it lies before the place, for 23 before the end of the If
pub record SecondInOrder (ds : List Node) (a : Answer) : Type 0 where
  pub second : Second ds a
  pub assigning : a.code ≡ 25 → second.node < a.place
  pub merging : a.code ≡ 23 → (i : ℕ) × (((node_of ds i).kind ≡ 8) × ((a.place ≡ suc i) × (second.node < stop_of ds i)))

module _ (bs : List ℕ) (sheet_room message_room : ℕ) where
  ended_in_order : (setting : Setting) → Sound bs → (e : End) → walked setting bs ≡ e
      → let a : Answer = ended (names_of bs) (nodes_of bs) sheet_room message_room e in (a.code ≡ 23) ⊎ (a.code ≡ 25) → SecondInOrder (nodes_of bs) a
  unfolding ended if_some
  ended_in_order setting good (done s) w c = absurd (written_neither sheet_room _ c)
  ended_in_order setting good (wrong r s) w c =
      let t = (refused_pointed setting bs r s w).there c in
      record {
        second = record {
          node = t.node;
          makes = t.holds;
          inside = makes_inside (sound_nested good) t.node t.holds;
          from = ap (λ o. if_some o (λ m. (node_of (nodes_of bs) m).span_start) 0) t.is;
          to = ap (λ o. if_some o (λ m. (node_of (nodes_of bs) m).span_end) 0) t.is;
        };
        assigning = λ z. assigned_before setting good r s w z t.node t.is;
        merging = λ z. merged_before_end setting good r s w z t.node t.is;
      }
  ended_in_order setting good (too_deep n) w c = absurd (⊎_elim (λ z. omega arith) (λ z. omega arith) c)

  under_in_order : (setting : Setting)
      → let a : Answer = answer_under setting bs sheet_room message_room in (a.code ≡ 23) ⊎ (a.code ≡ 25) → SecondInOrder (nodes_of bs) a
  unfolding answer_under unless_fault walk_answer if_some
  under_in_order setting = by (check_fault bs) refl
    where
      whole : Answer
      whole = ended (names_of bs) (nodes_of bs) sheet_room message_room (walked setting bs)

      by : (o : Option Fault) → check_fault bs ≡ o → let a : Answer = if_some o (λ f. bare f.code f.place) whole in
          (a.code ≡ 23) ⊎ (a.code ≡ 25) → SecondInOrder (nodes_of bs) a
      by none e c = ended_in_order setting ((walks bs).0 e).0 (walked setting bs) refl c
      by (some f) e c = absurd (⊎_elim (λ z. omega (arith, early_below (check_told bs f e))) (λ z. omega (arith, early_below (check_told bs f e))) c)

  -- for every image, in every setting, for any buffers
  pub second_in_order : (n : ℕ) → let a : Answer = answer n bs sheet_room message_room in (a.code ≡ 23) ⊎ (a.code ≡ 25) → SecondInOrder (nodes_of bs) a
  unfolding answer if_some
  second_in_order n = by (setting_of n)
    where
      by : (o : Option Setting) → let a : Answer = if_some o (λ setting. answer_under setting bs sheet_room message_room) (bare 13 0) in
          (a.code ≡ 23) ⊎ (a.code ≡ 25) → SecondInOrder (nodes_of bs) a
      by none c = absurd (⊎_elim (λ z. omega arith) (λ z. omega arith) c)
      by (some setting) c = under_in_order setting c

-- ---- 23 either way: the place, and the second place

pub places_in : End → Option (ℕ × Option ℕ)
places_in (done s) = none
places_in (wrong r s) = some (r.node, r.first)
places_in (too_deep n) = none

-- `if True: x = 1` `else: x = "s"`
abbrev pub behind : List ℕ
behind =
    image (("x", 0, 0, 0) ∷ [])
    ((12 ∷ 0 ∷ 1 ∷ 11 ∷ 0 ∷ 0 ∷ []) ∷ (8 ∷ 0 ∷ 3 ∷ 11 ∷ 0 ∷ 36 ∷ []) ∷ (20 ∷ 0 ∷ 0 ∷ 3 ∷ 3 ∷ 7 ∷ []) ∷ (12 ∷ 0 ∷ 1 ∷ 7 ∷ 0 ∷ 0 ∷ []) ∷ (5 ∷ 0 ∷ 2 ∷ 7 ∷ 13 ∷ 18 ∷ []) ∷ (21 ∷ 0 ∷ 0 ∷ 6 ∷ 13 ∷ 14 ∷ []) ∷ (20 ∷ 1 ∷ 0 ∷ 7 ∷ 17 ∷ 18 ∷ []) ∷ (12 ∷ 0 ∷ 1 ∷ 11 ∷ 0 ∷ 0 ∷ []) ∷ (5 ∷ 0 ∷ 2 ∷ 11 ∷ 29 ∷ 36 ∷ []) ∷ (21 ∷ 0 ∷ 0 ∷ 10 ∷ 29 ∷ 30 ∷ []) ∷ (20 ∷ 2 ∷ 0 ∷ 11 ∷ 33 ∷ 36 ∷ []) ∷ [])

pub behind_end : (places_in (walked plain behind) ≡ some (2, some 5)) × (places_in (walked strict behind) ≡ some (2, some 5))
unfolding meaning_open places_in
behind_end = (refl, refl)

-- `x = 1`, `def f():` `if True: x = 2` `else:` `def g(x): x = "s"; break`: the x of the first line
abbrev pub before : List ℕ
before =
    image (("f", 4, 0, 0) ∷ ("g", 4, 1, 0) ∷ ("x", 0, 0, 0) ∷ [])
    ((12 ∷ 0 ∷ 2 ∷ 20 ∷ 0 ∷ 0 ∷ []) ∷ (5 ∷ 0 ∷ 2 ∷ 4 ∷ 0 ∷ 5 ∷ []) ∷ (21 ∷ 2 ∷ 0 ∷ 3 ∷ 0 ∷ 1 ∷ []) ∷ (20 ∷ 1 ∷ 0 ∷ 4 ∷ 4 ∷ 5 ∷ []) ∷ (11 ∷ 0 ∷ 1 ∷ 20 ∷ 6 ∷ 107 ∷ []) ∷ (12 ∷ 0 ∷ 1 ∷ 20 ∷ 0 ∷ 0 ∷ []) ∷ (8 ∷ 0 ∷ 3 ∷ 20 ∷ 19 ∷ 107 ∷ []) ∷ (20 ∷ 0 ∷ 0 ∷ 8 ∷ 22 ∷ 26 ∷ []) ∷ (12 ∷ 0 ∷ 1 ∷ 12 ∷ 0 ∷ 0 ∷ []) ∷ (5 ∷ 0 ∷ 2 ∷ 12 ∷ 36 ∷ 41 ∷ []) ∷ (21 ∷ 2 ∷ 0 ∷ 11 ∷ 36 ∷ 37 ∷ []) ∷ (20 ∷ 1 ∷ 0 ∷ 12 ∷ 40 ∷ 41 ∷ []) ∷ (12 ∷ 0 ∷ 1 ∷ 20 ∷ 0 ∷ 0 ∷ []) ∷ (11 ∷ 1 ∷ 2 ∷ 20 ∷ 60 ∷ 107 ∷ []) ∷ (13 ∷ 2 ∷ 0 ∷ 15 ∷ 0 ∷ 0 ∷ []) ∷ (12 ∷ 0 ∷ 2 ∷ 20 ∷ 0 ∷ 0 ∷ []) ∷ (5 ∷ 0 ∷ 2 ∷ 19 ∷ 82 ∷ 89 ∷ []) ∷ (21 ∷ 2 ∷ 0 ∷ 18 ∷ 82 ∷ 83 ∷ []) ∷ (20 ∷ 2 ∷ 0 ∷ 19 ∷ 86 ∷ 89 ∷ []) ∷ (1 ∷ 0 ∷ 0 ∷ 20 ∷ 102 ∷ 107 ∷ []) ∷ [])

pub before_end : places_in (walked plain before) ≡ some (7, some 2)
unfolding meaning_open places_in
before_end = refl
