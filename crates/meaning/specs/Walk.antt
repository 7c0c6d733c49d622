-- The walk over the statements (T's tc_assign_target, tc_stmt and typecheck_program).
use Rattle.std.specs.Prelude.{Bool, true, false, ℕ, eqb, ltb, length, get_or, set, replicate}
use mathlib.Core.List.{List, [], ◌∷◌, ◌++◌, tail}
use Rattle.std.proofs.Math.Option.{Option, none, some}
use Rattle.meaning.specs.Limits.{most_names, most_frames}
use Rattle.meaning.specs.Base.{◌or◌, test◌then◌else◌, choose, if_some, or_else, all, count}
use Rattle.meaning.specs.Types.{Ty, unknown, bool, same, kind, parts, part}
use Rattle.meaning.specs.Tree.{Expr, at, Form, literal, variable, unary, binary, call, attribute, list_of, dict_of, tuple_of, set_of, index, lambda, Exprs, no_exprs, ◌also◌, place, size, Stmt, line, Act, break, continue, pass, class, assign, expr, return, if_then, while, for, def, Stmts, no_stmts, ◌next◌, Arms, no_arms, ◌else_arms◌, Arm, on, otherwise, first_condition}
use Rattle.meaning.specs.Image.{Name, name_of}
use Rattle.meaning.specs.Message.{Piece, a_type, a_text, a_number, Refusal, refusal, conflict}
use Rattle.meaning.specs.Frames.{Binding, blank, since, Frame, Frames, empty, slot_in, lookup, write}
use Rattle.meaning.specs.Operators.{Checked, ok, refused}
use Rattle.meaning.specs.Rules.{element_of, check}

-- ---- where the walk stands, and how a part of it ends

pub record State : Type 0 where
  pub frames : Frames
  pub returns : Ty

abbrev pub state : Frames → Ty → State
state Γ y = record { frames = Γ; returns = y }

abbrev pub with_frames : Frames → State → State
with_frames Γ s = state Γ s.returns

abbrev pub with_returns : Ty → State → State
with_returns y s = state s.frames y

-- all well; a typing refusal, and where the walk stood; or a Def that needs a ninth frame
pub data End : Type 0 where
  done : State → End
  wrong : Refusal → State → End
  too_deep : ℕ → End

abbrev pub refuse : ℕ → ℕ → List Piece → State → End
refuse c n ps s = wrong (refusal c n ps) s

infixl 20 ◌>>=◌
unfoldable pub ◌>>=◌ : End → (State → End) → End
done s >>= k = k s
wrong r s >>= k = wrong r s
too_deep n >>= k = too_deep n

-- and then, in a body that drops its typing errors or returns them; what was done before an error stays
unfoldable pub onward : Bool → End → (State → End) → End
onward drops (done s) k = k s
onward true (wrong r s) k = k s
onward false (wrong r s) k = wrong r s
onward drops (too_deep n) k = too_deep n

-- f of where the walk stands, whichever way it ended
unfoldable pub after : (State → State) → End → End
after f (done s) = done (f s)
after f (wrong r s) = wrong r (f s)
after f (too_deep n) = too_deep n

-- an If's branch runs on a copy of the frames Γ: where it is refused, the walk stands at Γ
unfoldable pub on_copy : Frames → End → End
on_copy Γ (done s) = done s
on_copy Γ (wrong r s) = wrong r (with_frames Γ s)
on_copy Γ (too_deep n) = too_deep n

unfoldable pub typed : Checked → State → (Ty → End) → End
typed (ok t) s k = k t
typed (refused r) s k = wrong r s

-- ---- assignment: "Absent or Unknown takes the new type; Unknown keeps the old one; otherwise equal or 25."

abbrev pub bind : ℕ → Binding → State → State
bind x b s = with_frames (write x b s.frames) s

-- what an old and a new type agree on (T's unify_return too): none where they differ
unfoldable pub agreed : Ty → Ty → Option Ty
agreed old t = test same old unknown or same old t then some t else test same t unknown then some old else none

-- n is the Variable
unfoldable pub assign_name : ℕ → ℕ → Ty → State → End
assign_name n x t s =
    let old : Binding = lookup s.frames x in
    if_some (agreed old.type t) (λ u. done (bind x (since old.first n u) s))
    (wrong (conflict 25 n old.first (a_type t ∷ a_type old.type ∷ [])) s)

-- the types that k targets get; none where the type cannot be unpacked
unfoldable pub unpacked : ℕ → Ty → Option (List Ty)
unpacked k t =
    choose (kind t) none
    ((0, some (replicate k unknown))  -- Unknown
    ∷ (8, some (replicate k (part 0 t)))  -- List: any number of targets
    ∷ (10, some (parts t))  -- Tuple
    ∷ [])

unfoldable pub unpack_into : ℕ → ℕ → Ty → State → (List Ty → End) → End
unpack_into n k t s go =
    if_some (unpacked k t)
    (λ ts. test eqb (length ts) k then go ts else refuse 26 n (a_number (length ts) ∷ a_number k ∷ []) s)
    (refuse 27 n (a_type t ∷ []) s)

-- ---- "A return type is kept per Def, and afresh for each module statement."

unfoldable pub return_rule : ℕ → Ty → State → End
return_rule n t s =
    let old : Ty = s.returns in
    if_some (agreed old t) (λ u. done (with_returns u s)) (refuse 22 n (a_type old ∷ a_type t ∷ []) s)

-- ---- If: "A name counts as assigned if the branch's newest frame holds it and the base's newest frame doesn't hold it with that same
-- type. Merging goes by name in byte order: among assigning branches ignore Unknown; disagreement is 23, and names merged before it
-- stay; Unknown alone commits nothing." "Whether a branch assigned a name still goes by type alone."

unfoldable pub same_type : Binding → Binding → Bool
same_type a b = same a.type b.type

unfoldable pub same_slot : Option Binding → Option Binding → Bool
same_slot none none = true
same_slot none (some b) = false
same_slot (some a) none = false
same_slot (some a) (some b) = same_type a b

-- a branch's slot tells of a type: it is there, it is known, and it is not what the base's slot has
unfoldable pub tells : Option Binding → Option Binding → Bool
tells base none = false
tells base (some b) = test same b.type unknown or same_slot (some b) base then false else true

-- what the branches Δs assign to x, over the base Γ, where its type is known
unfoldable pub assigned : Frames → ℕ → List Frames → List Binding
assigned Γ x [] = []
assigned Γ x (Δ ∷ Δs) =
    let later : List Binding = assigned Γ x Δs in
    test tells (slot_in Γ x) (slot_in Δ x) then or_else (slot_in Δ x) blank ∷ later else later

-- c is the first condition's node. "A merge takes the first assigning branch, in program order, that knows it"; the second span is "for 23
-- that of the first type found".
unfoldable pub merge_name : List Name → ℕ → ℕ → List Binding → State → End
merge_name ws c x [] s = done s
merge_name ws c x (b ∷ bs) s =
    test all (same_type b) bs then done (bind x b s) else wrong (conflict 23 c b.first (a_text (name_of ws x).spelling ∷ [])) s

unfoldable pub merge_names : List Name → ℕ → Frames → List Frames → List ℕ → State → End
merge_names ws c Γ Δs [] s = done s
merge_names ws c Γ Δs (x ∷ xs) s = merge_name ws c x (assigned Γ x Δs) s >>= λ s'. merge_names ws c Γ Δs xs s'

unfoldable pub merge : List Name → ℕ → List Frames → State → End
merge ws c Δs s = merge_names ws c s.frames Δs (count 0 most_names) s

-- ---- Def

unfoldable pub with_params : List ℕ → Frame → Frame
with_params [] f = f
with_params (x ∷ xs) f = with_params xs (set f x (some blank))

-- a new frame that holds the parameters as Unknown, and a return type of its own
unfoldable pub enter : List ℕ → State → State
enter xs s = state (with_params xs empty ∷ s.frames) unknown

-- "A Def that fails never pops its frame."
unfoldable pub popped : End → End
popped (done s) = done (with_frames (tail s.frames) s)
popped (wrong r s) = wrong r s
popped (too_deep n) = too_deep n

-- "a Def needs a ninth frame (module included)": judged before its parameters and body
unfoldable pub if_room : ℕ → State → End → End
if_room n s e = test ltb (length s.frames) most_frames then e else too_deep n

-- ---- Break, Continue and For

unfoldable pub only_in : Bool → ℕ → ℕ → State → End
only_in loop c n s = test loop then done s else refuse c n [] s

unfoldable pub over_elements : ℕ → Ty → State → (Ty → End) → End
over_elements n t s k = if_some (element_of t) k (refuse 24 n (a_type t ∷ []) s)

-- ---- targets, over the image's names

module _ (ws : List Name) where
  unfoldable pub checked : Expr → State → (Ty → End) → End
  checked e s k = typed (check ws s.frames e) s k

  -- "A condition must be Bool itself"
  unfoldable pub condition : Expr → State → End
  condition e s = checked e s λ t. test same t bool then done s else refuse 36 (place e) [] s

  unfoldable mutual
    pub assign_to : Expr → Ty → State → End
    assign_to (at n f) t s = assign_form n f t s

    -- Attribute and Index targets are checked as expressions and not tracked
    pub assign_form : ℕ → Form → Ty → State → End
    assign_form n (literal l) t s = refuse 28 n [] s
    assign_form n (variable x) t s = assign_name n x t s
    assign_form n (unary o e) t s = refuse 28 n [] s
    assign_form n (binary o l r) t s = refuse 28 n [] s
    assign_form n (call f es) t s = refuse 28 n [] s
    assign_form n (attribute e) t s = checked (at n (attribute e)) s λ u. done s
    assign_form n (list_of es) t s = refuse 28 n [] s
    assign_form n (dict_of es) t s = refuse 28 n [] s
    assign_form n (tuple_of es) t s = unpack_into n (size es) t s λ ts. assign_each es ts s
    assign_form n (set_of es) t s = refuse 28 n [] s
    assign_form n (index o i) t s = checked (at n (index o i)) s λ u. done s
    assign_form n lambda t s = refuse 28 n [] s

    -- "Tuple targets bind left to right, and those bound before an error stay bound."
    pub assign_each : Exprs → List Ty → State → End
    assign_each no_exprs ts s = done s
    assign_each (e also es) ts s = assign_to e (get_or ts 0 unknown) s >>= λ s'. assign_each es (tail ts) s'

-- ---- the setting (document 02): "The caller chooses plain or strict; plain is unchanged."

pub data Setting : Type 0 where
  plain : Setting
  strict : Setting

-- whether bodies of If and While drop their typing errors: "01's rules", and the same "with the dropping removed"
unfoldable pub dropping : Setting → Bool
dropping plain = true
dropping strict = false

-- ---- statements, over the image's names and under a setting

module _ (ws : List Name) (setting : Setting) where
  unfoldable mutual
    pub walk : Bool → Stmt → State → End
    walk loop (line n a) s = act loop n a s

    pub act : Bool → ℕ → Act → State → End
    act loop n break s = only_in loop 20 n s
    act loop n continue s = only_in loop 21 n s
    act loop n pass s = done s
    act loop n class s = done s
    act loop n (assign e v) s = checked ws v s λ t. assign_to ws e t s
    act loop n (expr e) s = checked ws e s λ t. done s
    act loop n (return e) s = checked ws e s λ t. return_rule (place e) t s
    act loop n (if_then arms) s = branches loop (first_condition arms) [] arms s
    -- "While and For commit nothing."
    act loop n (while c b) s = condition ws c s >>= λ s'. after (with_frames s.frames) (body true (dropping setting) b s')
    act loop n (for x e b) s =
        checked ws e s λ t. over_elements (place e) t s λ u. after (with_frames s.frames) (body true false b (bind x (since none (place e) u) s))
    act loop n (def xs b) s = if_room n s (after (with_returns s.returns) (popped (body false false b (enter xs s))))

    -- "Bodies of If and While run on copies and drop their typing errors, statement by statement. A For body's errors and a Def body's
    -- are returned." In strict, those of If and While "shall be returned, with its own code and span, at once".
    pub body : Bool → Bool → Stmts → State → End
    body loop drops no_stmts s = done s
    body loop drops (a next as') s = onward drops (walk loop a s) λ s'. body loop drops as' s'

    pub arm : Bool → Arm → State → End
    arm loop (on c b) s = condition ws c s >>= λ s'. body loop (dropping setting) b s'
    arm loop (otherwise b) s = body loop (dropping setting) b s

    -- "Every branch starts from the entry frames; elif conditions are checked there too, after the earlier bodies." s stands there, c is
    -- the first condition's node, and Δs are the frames of the branches so far. "Return types gathered in dropped bodies stay."
    pub branches : Bool → ℕ → List Frames → Arms → State → End
    branches loop c Δs no_arms s = merge ws c Δs s
    branches loop c Δs (a else_arms rest) s =
        on_copy s.frames (arm loop a s) >>= λ s₁. branches loop c (Δs ++ (s₁.frames ∷ [])) rest (with_returns s₁.returns s)

  -- the module's statements
  unfoldable pub program : Stmts → State → End
  program no_stmts s = done s
  program (a next as') s = walk false a (with_returns unknown s) >>= λ s'. program as' s'

unfoldable pub start : State
start = state (empty ∷ []) unknown

unfoldable pub walk_open : Unit {0}
unfolding ◌>>=◌ onward after on_copy typed agreed assign_name unpacked unpack_into return_rule same_type same_slot tells assigned merge_name merge_names merge with_params enter popped if_room only_in over_elements checked condition assign_to dropping walk program start
walk_open = tt
