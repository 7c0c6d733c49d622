-- The walk over the statements, the sheet's names and the answer, word for word as they stood before request One; an answer has no second
-- span, so both numbers are 0. What did not move is used as it stands, the setting among it. AsBefore proves that today's answer is this
-- one but for the second span, and Before that plain is 01's walk.
use mathlib.Core.Bool.{Bool, true, false}
use mathlib.Core.List.{List, [], ◌∷◌, ◌++◌, map, tail}
use mathlib.Core.Option.{Option, none, some}
use Prim.Native.Nat.{ℕ}
use lib.Dec.{eqb, ltb}
use lib.ListN.{length, get_or, set}
use Rattle.meaning.specs.Limits.{most_names, most_frames}
use Rattle.meaning.specs.Base.{◌or◌, test◌then◌else◌, if_some, or_else, is_in, all, count}
use Rattle.meaning.specs.Types.{Ty, unknown, bool, same}
use Rattle.meaning.specs.Tree.{Expr, at, Form, literal, variable, unary, binary, call, attribute, list_of, dict_of, tuple_of, set_of, index, lambda, Exprs, no_exprs, ◌also◌, place, size, Stmt, line, Act, break, continue, pass, class, assign, expr, return, if_then, while, for, def, Stmts, no_stmts, ◌next◌, Arms, no_arms, ◌else_arms◌, Arm, on, otherwise, first_condition}
use Rattle.meaning.specs.Bound.{may_bind}
use Rattle.meaning.specs.Image.{Name, name_of, Node, node_of, image_fault, names_of, nodes_of}
use Rattle.meaning.specs.Decode.{tree_of}
use Rattle.meaning.specs.Message.{Piece, a_type, a_text, a_number, Refusal, refusal, message}
use Rattle.meaning.specs.Operators.{Checked, ok, refused}
use Rattle.meaning.specs.Rules.{element_of}
use Rattle.meaning.specs.Walk.{agreed, unpacked, Setting, dropping}
use Rattle.meaning.specs.Sheet.{Entry, sheet_of}
use Rattle.meaning.specs.Answer.{Answer, bare, written, fitting, setting_of}
use Rattle.meaning.proofs.BeforeRules.{Frame, Frames, empty, newest, slot_in, lookup, write, check}

-- ---- Walk

pub record State : Type 0 where
  pub frames : Frames
  pub returns : Ty

abbrev pub state : Frames → Ty → State
state Γ y = record { frames = Γ; returns = y }

abbrev pub with_frames : Frames → State → State
with_frames Γ s = state Γ s.returns

abbrev pub with_returns : Ty → State → State
with_returns y s = state s.frames y

-- all well; a typing refusal, and where the walk stood; or a Def that needs a ninth frame
pub data End : Type 0 where
  done : State → End
  wrong : Refusal → State → End
  too_deep : ℕ → End

abbrev pub refuse : ℕ → ℕ → List Piece → State → End
refuse c n ps s = wrong (refusal c n ps) s

infixl 20 ◌>>=◌
unfoldable pub ◌>>=◌ : End → (State → End) → End
done s >>= k = k s
wrong r s >>= k = wrong r s
too_deep n >>= k = too_deep n

-- and then, in a body that drops its typing errors or returns them; what was done before an error stays
unfoldable pub onward : Bool → End → (State → End) → End
onward drops (done s) k = k s
onward true (wrong r s) k = k s
onward false (wrong r s) k = wrong r s
onward drops (too_deep n) k = too_deep n

-- f of where the walk stands, whichever way it ended
unfoldable pub after : (State → State) → End → End
after f (done s) = done (f s)
after f (wrong r s) = wrong r (f s)
after f (too_deep n) = too_deep n

-- an If's branch runs on a copy of the frames Γ: where it is refused, the walk stands at Γ
unfoldable pub on_copy : Frames → End → End
on_copy Γ (done s) = done s
on_copy Γ (wrong r s) = wrong r (with_frames Γ s)
on_copy Γ (too_deep n) = too_deep n

unfoldable pub typed : Checked → State → (Ty → End) → End
typed (ok t) s k = k t
typed (refused r) s k = wrong r s

-- ---- assignment: "Absent or Unknown takes the new type; Unknown keeps the old one; otherwise equal or 25."

abbrev pub bind : ℕ → Ty → State → State
bind x t s = with_frames (write x t s.frames) s

unfoldable pub assign_name : ℕ → ℕ → Ty → State → End
assign_name n x t s =
    let old : Ty = lookup s.frames x in
    if_some (agreed old t) (λ u. done (bind x u s)) (refuse 25 n (a_type t ∷ a_type old ∷ []) s)

unfoldable pub unpack_into : ℕ → ℕ → Ty → State → (List Ty → End) → End
unpack_into n k t s go =
    if_some (unpacked k t)
    (λ ts. test eqb (length ts) k then go ts else refuse 26 n (a_number (length ts) ∷ a_number k ∷ []) s)
    (refuse 27 n (a_type t ∷ []) s)

-- ---- "A return type is kept per Def, and afresh for each module statement."

unfoldable pub return_rule : ℕ → Ty → State → End
return_rule n t s =
    let old : Ty = s.returns in
    if_some (agreed old t) (λ u. done (with_returns u s)) (refuse 22 n (a_type old ∷ a_type t ∷ []) s)

-- ---- If: "A name counts as assigned if the branch's newest frame holds it and the base's newest frame doesn't hold it with that same
-- type. Merging goes by name in byte order: among assigning branches ignore Unknown; disagreement is 23, and names merged before it
-- stay; Unknown alone commits nothing."

unfoldable pub same_slot : Option Ty → Option Ty → Bool
same_slot none none = true
same_slot none (some b) = false
same_slot (some a) none = false
same_slot (some a) (some b) = same a b

-- a branch's slot tells of a type: it is there, it is known, and it is not what the base's slot has
unfoldable pub tells : Option Ty → Option Ty → Bool
tells base none = false
tells base (some t) = test same t unknown or same_slot (some t) base then false else true

-- the known types that the branches Δs assign to x, over the base Γ
unfoldable pub assigned : Frames → ℕ → List Frames → List Ty
assigned Γ x [] = []
assigned Γ x (Δ ∷ Δs) =
    let later : List Ty = assigned Γ x Δs in
    test tells (slot_in Γ x) (slot_in Δ x) then or_else (slot_in Δ x) unknown ∷ later else later

-- c is the first condition's node
unfoldable pub merge_name : List Name → ℕ → ℕ → List Ty → State → End
merge_name ws c x [] s = done s
merge_name ws c x (t ∷ ts) s = test all (same t) ts then done (bind x t s) else refuse 23 c (a_text (name_of ws x).spelling ∷ []) s

unfoldable pub merge_names : List Name → ℕ → Frames → List Frames → List ℕ → State → End
merge_names ws c Γ Δs [] s = done s
merge_names ws c Γ Δs (x ∷ xs) s = merge_name ws c x (assigned Γ x Δs) s >>= λ s'. merge_names ws c Γ Δs xs s'

unfoldable pub merge : List Name → ℕ → List Frames → State → End
merge ws c Δs s = merge_names ws c s.frames Δs (count 0 most_names) s

-- ---- Def

unfoldable pub with_params : List ℕ → Frame → Frame
with_params [] f = f
with_params (x ∷ xs) f = with_params xs (set f x (some unknown))

-- a new frame that holds the parameters as Unknown, and a return type of its own
unfoldable pub enter : List ℕ → State → State
enter xs s = state (with_params xs empty ∷ s.frames) unknown

-- "A Def that fails never pops its frame."
unfoldable pub popped : End → End
popped (done s) = done (with_frames (tail s.frames) s)
popped (wrong r s) = wrong r s
popped (too_deep n) = too_deep n

-- "a Def needs a ninth frame (module included)": judged before its parameters and body
unfoldable pub if_room : ℕ → State → End → End
if_room n s e = test ltb (length s.frames) most_frames then e else too_deep n

-- ---- Break, Continue and For

unfoldable pub only_in : Bool → ℕ → ℕ → State → End
only_in loop c n s = test loop then done s else refuse c n [] s

unfoldable pub over_elements : ℕ → Ty → State → (Ty → End) → End
over_elements n t s k = if_some (element_of t) k (refuse 24 n (a_type t ∷ []) s)

-- ---- targets, over the image's names

module _ (ws : List Name) where
  unfoldable pub checked : Expr → State → (Ty → End) → End
  checked e s k = typed (check ws s.frames e) s k

  -- "A condition must be Bool itself"
  unfoldable pub condition : Expr → State → End
  condition e s = checked e s λ t. test same t bool then done s else refuse 36 (place e) [] s

  unfoldable mutual
    pub assign_to : Expr → Ty → State → End
    assign_to (at n f) t s = assign_form n f t s

    -- Attribute and Index targets are checked as expressions and not tracked
    pub assign_form : ℕ → Form → Ty → State → End
    assign_form n (literal l) t s = refuse 28 n [] s
    assign_form n (variable x) t s = assign_name n x t s
    assign_form n (unary o e) t s = refuse 28 n [] s
    assign_form n (binary o l r) t s = refuse 28 n [] s
    assign_form n (call f es) t s = refuse 28 n [] s
    assign_form n (attribute e) t s = checked (at n (attribute e)) s λ u. done s
    assign_form n (list_of es) t s = refuse 28 n [] s
    assign_form n (dict_of es) t s = refuse 28 n [] s
    assign_form n (tuple_of es) t s = unpack_into n (size es) t s λ ts. assign_each es ts s
    assign_form n (set_of es) t s = refuse 28 n [] s
    assign_form n (index o i) t s = checked (at n (index o i)) s λ u. done s
    assign_form n lambda t s = refuse 28 n [] s

    -- "Tuple targets bind left to right, and those bound before an error stay bound."
    pub assign_each : Exprs → List Ty → State → End
    assign_each no_exprs ts s = done s
    assign_each (e also es) ts s = assign_to e (get_or ts 0 unknown) s >>= λ s'. assign_each es (tail ts) s'

-- ---- statements, over the image's names and under a setting

module _ (ws : List Name) (setting : Setting) where
  unfoldable mutual
    pub walk : Bool → Stmt → State → End
    walk loop (line n a) s = act loop n a s

    pub act : Bool → ℕ → Act → State → End
    act loop n break s = only_in loop 20 n s
    act loop n continue s = only_in loop 21 n s
    act loop n pass s = done s
    act loop n class s = done s
    act loop n (assign e v) s = checked ws v s λ t. assign_to ws e t s
    act loop n (expr e) s = checked ws e s λ t. done s
    act loop n (return e) s = checked ws e s λ t. return_rule (place e) t s
    act loop n (if_then arms) s = branches loop (first_condition arms) [] arms s
    -- "While and For commit nothing."
    act loop n (while c b) s = condition ws c s >>= λ s'. after (with_frames s.frames) (body true (dropping setting) b s')
    act loop n (for x e b) s = checked ws e s λ t. over_elements (place e) t s λ u. after (with_frames s.frames) (body true false b (bind x u s))
    act loop n (def xs b) s = if_room n s (after (with_returns s.returns) (popped (body false false b (enter xs s))))

    -- "Bodies of If and While run on copies and drop their typing errors, statement by statement. A For body's errors and a Def body's
    -- are returned." In strict, those of If and While "shall be returned, with its own code and span, at once".
    pub body : Bool → Bool → Stmts → State → End
    body loop drops no_stmts s = done s
    body loop drops (a next as') s = onward drops (walk loop a s) λ s'. body loop drops as' s'

    pub arm : Bool → Arm → State → End
    arm loop (on c b) s = condition ws c s >>= λ s'. body loop (dropping setting) b s'
    arm loop (otherwise b) s = body loop (dropping setting) b s

    -- "Every branch starts from the entry frames; elif conditions are checked there too, after the earlier bodies." s stands there, c is
    -- the first condition's node, and Δs are the frames of the branches so far. "Return types gathered in dropped bodies stay."
    pub branches : Bool → ℕ → List Frames → Arms → State → End
    branches loop c Δs no_arms s = merge ws c Δs s
    branches loop c Δs (a else_arms rest) s =
        on_copy s.frames (arm loop a s) >>= λ s₁. branches loop c (Δs ++ (s₁.frames ∷ [])) rest (with_returns s₁.returns s)

  -- the module's statements
  unfoldable pub program : Stmts → State → End
  program no_stmts s = done s
  program (a next as') s = walk false a (with_returns unknown s) >>= λ s'. program as' s'

unfoldable pub start : State
start = state (empty ∷ []) unknown

-- ---- Sheet

-- the names that a frame holds, Unknown included, in byte order as the image's names are
unfoldable pub entries : List Name → Frame → List Entry
entries [] f = []
entries (w ∷ ws) [] = []
entries (w ∷ ws) (slot ∷ f) = let later = entries ws f in if_some slot (λ t. (w.spelling, t) ∷ later) later

-- "A listed name that the frame lacks is Unknown": a slot, by whether the module may bind its name
unfoldable pub listed_slot : Bool → Option Ty → Option Ty
listed_slot true slot = some (or_else slot unknown)
listed_slot false slot = slot

-- the names xs, which the module may bind, "together with all names of the module frame" f
unfoldable pub listed_frame : List ℕ → Frame → Frame
listed_frame xs f = map (λ x. listed_slot (is_in x xs) (get_or f x none)) (count 0 most_names)

-- "From now on the sheet lists each name that an Assign or a For at module level may bind .. together with all names of the module
-- frame": of the module's statements as', which end with the frame f
unfoldable pub listing : List Name → Stmts → Frame → List Entry
listing ws as' f = entries ws (listed_frame (may_bind as') f)

-- ---- Answer

-- how the walk ended, over the image's names and nodes
unfoldable pub ended : List Name → List Node → ℕ → ℕ → End → Answer
ended ws ds sheet_room message_room (done s) = written sheet_room (sheet_of (listing ws (tree_of ds) (newest s.frames)))
ended ws ds sheet_room message_room (wrong r s) =
    record {
      code = r.code;
      place = r.node;
      span_start = (node_of ds r.node).span_start;
      span_end = (node_of ds r.node).span_end;
      second_start = 0;
      second_end = 0;
      sheet = [];
      message = fitting message_room (message r);
    }
ended ws ds sheet_room message_room (too_deep n) = bare 9 n

-- the walk over an image's program
unfoldable pub walked : Setting → List ℕ → End
walked setting bs = program (names_of bs) setting (tree_of (nodes_of bs)) start

-- the answer for an image and the lengths of the sheet and message buffers
unfoldable pub answer_under : Setting → List ℕ → ℕ → ℕ → Answer
answer_under setting bs sheet_room message_room =
    let sound : Answer = ended (names_of bs) (nodes_of bs) sheet_room message_room (walked setting bs) in
    if_some (image_fault bs) (λ f. bare f.code f.place) sound

-- "a setting other than the two gives 13, before code 1"
unfoldable pub answer : ℕ → List ℕ → ℕ → ℕ → Answer
answer n bs sheet_room message_room = if_some (setting_of n) (λ setting. answer_under setting bs sheet_room message_room) (bare 13 0)
