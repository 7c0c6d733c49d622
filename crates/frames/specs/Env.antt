-- Rows of numbers that stand for frames: a cell has a half for the type and one for its first node. Assumes nothing: these are definitions.
use Rattle.std.specs.Prelude.{◌≡◌, Bool, true, false, List, [], ◌∷◌, map, ℕ, zero, suc, ◌/◌, ◌%◌, ◌≤◌, ◌<◌, eqb, ltb, length, get_or, set, replicate, Option as Maybe, Some, None, Result, Ok, Err, IfSome}
use Rattle.std.proofs.Math.Option.{Option, none, some}
use Rattle.meaning.specs.Limits.{most_names, most_frames}
use Rattle.meaning.specs.Types.{Ty}
use Rattle.types.specs.Table.{Tab, Wf, denote}
use Rattle.meaning.specs.Base.{test◌then◌else◌, count}
use Rattle.meaning.specs.Image.{Name, name_of}
use Rattle.meaning.specs.Message.{a_text, conflict}
use Rattle.meaning.specs.Frames.{Binding, binding, since, Frame, Frames, slot_in, lookup, write}
use Rattle.meaning.specs.Walk.{State, state, End, done, wrong, ◌>>=◌, bind}
use Rattle.frames.specs.declared.Binding.{Binding as Found}
use Rattle.frames.specs.declared.Disagreement.{Disagreement}

-- a first node, what a frame holds for a name, and how a merge ended, as the code has them
abbrev pub First : Type 0
First = Maybe ℕ

abbrev pub Held : Type 0
Held = Maybe ℕ

abbrev pub Merge : Type 0
Merge = Result (Unit {0}) Disagreement

abbrev pub Rows : Type 0
Rows = List (List ℕ)

abbrev pub cell : Rows → ℕ → ℕ → ℕ
cell fs i x = get_or (get_or fs i []) x 0

abbrev pub put : Rows → ℕ → ℕ → ℕ → Rows
put fs i x v = set fs i (set (get_or fs i []) x v)

abbrev pub pick : Bool → ℕ → ℕ → ℕ
pick true a b = a
pick false a b = b

-- ---- a cell's halves: a type's number + 1, or 0 for absent; and the number + 1 of the node that first made it known, or 0

abbrev pub type_in : ℕ → ℕ
type_in v = v % 65536

abbrev pub node_in : ℕ → ℕ
node_in v = v / 65536

-- a half has room for the types, or the nodes, below this
abbrev pub cell_room : ℕ
cell_room = 65535

-- a row in which every name is absent: what the halves for the nodes say there is of no matter
abbrev pub absent_row : List ℕ
absent_row = replicate most_names 65536

-- what a name has in the rows 0 .. k-1, the highest row first; 0 where none has it
unfoldable pub look : Rows → ℕ → ℕ → ℕ
look fs zero x = 0
look fs (suc k) x = pick (eqb (type_in (cell fs k x)) 0) (look fs k x) (cell fs k x)

-- ---- what the rows mean
unfoldable pub node_from : ℕ → Option ℕ
node_from zero = none
node_from (suc n) = some n

-- by the two halves
unfoldable pub slot_as : Tab → ℕ → ℕ → Option Binding
slot_as t zero m = none
slot_as t (suc k) m = some (binding (denote t k) (node_from m))

abbrev pub slot : Tab → ℕ → Option Binding
slot t v = slot_as t (type_in v) (node_in v)

unfoldable pub frame_of : Tab → List ℕ → Frame
frame_of t row = map (slot t) row

-- the frames of the rows 0 .. k-1, the highest first
unfoldable pub below : Tab → Rows → ℕ → Frames
below t fs zero = []
below t fs (suc k) = frame_of t (get_or fs k []) ∷ below t fs k

-- the frames of the rows 0 .. top
unfoldable pub frames_of : Tab → Rows → ℕ → Frames
frames_of t fs top = below t fs (suc top)

-- the rows are eight of 128 cells, `top` is one of them, and each cell's type is within the table
pub record Fit (t : Tab) (fs : Rows) (top : ℕ) : Type 0 where
  pub long : length fs ≡ most_frames
  pub wide : (i : ℕ) → i < most_frames → length (get_or fs i []) ≡ most_names
  pub high : top < most_frames
  pub known : (i x : ℕ) → i < most_frames → type_in (cell fs i x) ≤ t.n

-- what is held for a name, by a table, and that its number is below n
abbrev pub held_type : Tab → Held → Option Ty
held_type t None = none
held_type t (Some r) = some (denote t r)

abbrev pub HeldBelow : ℕ → Held → Type 0
HeldBelow n h = IfSome h (λ r. r < n)

-- the type in a slot
abbrev pub slot_type : Option Binding → Option Ty
slot_type none = none
slot_type (some b) = some b.type

-- h is what the newest frame holds for name x, whatever the table
pub record Holds (fs : Rows) (top x : ℕ) (h : Held) : Type 0 where
  pub says : (t : Tab) → slot_type (slot_in (frames_of t fs top) x) ≡ held_type t h
  pub known : (t : Tab) → Fit t fs top → HeldBelow (t.n) h
  pub small : HeldBelow cell_room h

-- a first node as the definitions have it, as a number, and that it is below n
abbrev pub first_node : First → Option ℕ
first_node None = none
first_node (Some m) = some m

abbrev pub first_number : First → ℕ
first_number None = 0
first_number (Some m) = suc m

abbrev pub FirstBelow : ℕ → First → Type 0
FirstBelow n f = IfSome f (λ m. m < n)

-- a binding as the definitions have it, by a table
abbrev pub binding_in : Tab → Found → Binding
binding_in t b = binding (denote t b.ty) (first_node b.first)

-- b is the type i, known since the old node or since node n
pub record Known (old : First) (n i : ℕ) (b : Found) : Type 0 where
  pub type_is : b.ty ≡ i
  pub says : (t : Tab) → Wf t → i < t.n → binding_in t b ≡ since (first_node old) n (denote t i)
  pub near : FirstBelow cell_room old → n < cell_room → FirstBelow cell_room b.first

-- b is what a lookup of name x gives, whatever the table
pub record Looked (fs : Rows) (top x : ℕ) (b : Found) : Type 0 where
  pub says : (t : Tab) → Wf t → Fit t fs top → lookup (frames_of t fs top) x ≡ binding_in t b
  pub known : (t : Tab) → Wf t → Fit t fs top → b.ty < t.n
  pub small : b.ty < cell_room
  pub near : FirstBelow cell_room b.first

-- gs is fs with the binding b for name x in the newest frame, whatever the table
pub record Bound (fs gs : Rows) (top x : ℕ) (b : Found) : Type 0 where
  pub says : (t : Tab) → Fit t fs top → frames_of t gs top ≡ write x (binding_in t b) (frames_of t fs top)
  pub fit : (t : Tab) → Fit t fs top → b.ty < t.n → Fit t gs top

-- ---- merging: what a name is first known as, and whether a later type differs
-- a branch's cell v tells of a type over the cell b at entry: "Whether a branch assigned a name still goes by type alone."
unfoldable pub tells_cell : ℕ → ℕ → Bool
tells_cell b v = test ltb 1 (type_in v) then (test eqb (type_in v) (type_in b) then false else true) else false

unfoldable pub note_cell : ℕ → ℕ → ℕ → ℕ
note_cell b v m = test tells_cell b v then (test eqb (type_in m) 0 then v else m) else m

unfoldable pub clash_cell : ℕ → ℕ → ℕ → Bool → Bool
clash_cell b v m c = test tells_cell b v then (test eqb (type_in m) 0 then c else test eqb (type_in m) (type_in v) then c else true) else c

-- ns and ds are ms and cs with the cells of a branch's row told of, over the row at entry, for the first n names
pub record Noted (base branch ms : List ℕ) (cs : List Bool) (ns : List ℕ) (ds : List Bool) (n : ℕ) : Type 0 where
  pub lm : length ns ≡ length ms
  pub lc : length ds ≡ length cs
  pub new_m : (x : ℕ) → x < n → get_or ns x 0 ≡ note_cell (get_or base x 0) (get_or branch x 0) (get_or ms x 0)
  pub new_c : (x : ℕ) → x < n → get_or ds x false ≡ clash_cell (get_or base x 0) (get_or branch x 0) (get_or ms x 0) (get_or cs x false)
  pub old_m : (x : ℕ) → n ≤ x → get_or ns x 0 ≡ get_or ms x 0
  pub old_c : (x : ℕ) → n ≤ x → get_or ds x false ≡ get_or cs x false

-- the merge by what each name is first known as, and a flag; c is the first condition's node
unfoldable pub settle_name : List Name → ℕ → ℕ → Option Binding → Bool → State → End
settle_name ws c x none clash s = done s
settle_name ws c x (some b) true s = wrong (conflict 23 c b.first (a_text (name_of ws x).spelling ∷ [])) s
settle_name ws c x (some b) false s = done (bind x b s)

unfoldable pub settle : List Name → ℕ → (ℕ → Option Binding) → (ℕ → Bool) → List ℕ → State → End
settle ws c first clash [] s = done s
settle ws c first clash (x ∷ xs) s = settle_name ws c x (first x) (clash x) s >>= λ s'. settle ws c first clash xs s'

-- the scope's code of a merge, the name that its message names, and the first node of the first type
abbrev pub merge_code : Merge → ℕ
merge_code (Ok _) = 0
merge_code (Err d) = 23

abbrev pub clash_name : Merge → ℕ
clash_name (Ok _) = 0
clash_name (Err d) = d.name

abbrev pub clash_first : Merge → First
clash_first (Ok _) = None
clash_first (Err d) = d.first

-- how a merge ended, at the node c of the first condition
unfoldable pub merge_end : List Name → ℕ → Merge → State → End
merge_end ws c (Ok _) s = done s
merge_end ws c (Err d) s = wrong (conflict 23 c (first_node d.first) (a_text (name_of ws d.name).spelling ∷ [])) s

-- gs is fs with the names of ms written to the row top, up to the first that clashes; whatever the names, the condition and the table
pub record Committed (fs gs : Rows) (top : ℕ) (ms : List ℕ) (cs : List Bool) (m : Merge) : Type 0 where
  pub says : (ws : List Name) (c : ℕ) (t : Tab) (y : Ty) → settle ws c (λ x. slot t (get_or ms x 0)) (λ x. get_or cs x false) (count 0 most_names) (state (frames_of t fs top) y)
      ≡ merge_end ws c m (state (frames_of t gs top) y)
  pub fit : (t : Tab) → Fit t fs top → ((x : ℕ) → type_in (get_or ms x 0) ≤ t.n) → Fit t gs top
  pub near : FirstBelow cell_room (clash_first m)
