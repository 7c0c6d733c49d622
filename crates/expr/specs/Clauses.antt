-- What the functions of this crate ask of what they are lent, w, and what they leave of it, v. They stand at a cursor c of the image bs, or
-- at the first argument of a call a; the newest frame is the row `top`, and the stack is free from sp on.
use Rattle.std.specs.Prelude.{◌≡◌, IsErr, List, ℕ, ◌-◌, ◌<◌}
use Rattle.meaning.specs.Image.{node_count, nodes_of, node_of, names_of}
use Rattle.meaning.specs.Decode.{expr_at, form_at, stop_of, past}
use Rattle.meaning.specs.Frames.{Frames}
use Rattle.meaning.specs.Operators.{Checked}
use Rattle.meaning.specs.Rules.{Children, check, check_form}
use Rattle.frames.specs.Env.{frames_of}
use Rattle.image.specs.declared.Cursor.{Cursor}
use Rattle.state.specs.Notes.{place_in, first_in, second_in, Kept}
use Rattle.state.specs.Answer.{Typed, Outcome, code_of, number_of}
use Rattle.state.specs.Lent.{Lent, table_of}
use Rattle.expr.specs.declared.NameCall.{NameCall}
use Rattle.expr.specs.Contract.{Ready, At, Inner, Row, Done, Values, checks, Operand}

-- ---- what is asked

-- room for the nodes from i to e, and more
abbrev pub Asked : List ℕ → ℕ → ℕ → ℕ → ℕ → ℕ → Lent → Type 0 → Type 0
Asked bs nodes top sp i e w more = Ready bs nodes w.rows top (table_of w) w.stack sp i e × more

-- the cursor's node, at most d deep
abbrev pub Checkable : List ℕ → Cursor → ℕ → ℕ → ℕ → Lent → Type 0
Checkable bs c top sp d w = Asked bs c.nodes top sp c.at (stop_of (nodes_of bs) c.at) w (At bs c.at d)

-- the same, of kind k: no Literal and no Variable
abbrev pub Compound : ℕ → List ℕ → Cursor → ℕ → ℕ → ℕ → Lent → Type 0
Compound k bs c top sp d w =
    Asked bs c.nodes top sp c.at (stop_of (nodes_of bs) c.at) w
    (At bs c.at d × (((node_of (nodes_of bs) c.at).kind ≡ k) × (k ≡ 20 → ⊥) × (k ≡ 21 → ⊥)))

-- the cursor's node, its children at most d deep, and more
abbrev pub Parent : List ℕ → Cursor → ℕ → ℕ → ℕ → Lent → Type 0 → Type 0
Parent bs c top sp d w more =
    Asked bs c.nodes top sp c.at (stop_of (nodes_of bs) c.at) w (Inner bs c.at d (node_of (nodes_of bs) c.at) × more)

-- the same, of kind k
abbrev pub OfKind : ℕ → List ℕ → Cursor → ℕ → ℕ → ℕ → Lent → Type 0
OfKind k bs c top sp d w = Parent bs c top sp d w ((node_of (nodes_of bs) c.at).kind ≡ k)

-- the same, all its children being checked before its rule looks at them; and it is no Binary
abbrev pub Ruled : List ℕ → Cursor → ℕ → ℕ → ℕ → Lent → Type 0
Ruled bs c top sp d w =
    Parent bs c top sp d w (Operand bs c.at d × ((node_of (nodes_of bs) c.at).kind ≡ 23 → ⊥))

-- n children from the cursor on, each at most d deep
abbrev pub InRow : List ℕ → Cursor → ℕ → ℕ → ℕ → ℕ → Lent → Type 0
InRow bs c top sp n d w = Asked bs c.nodes top sp c.at (past (nodes_of bs) n c.at) w (Row bs c.at n d)

-- a call's arguments, each at most d deep, and more; the callee's room is theirs
abbrev pub Called : List ℕ → NameCall → ℕ → ℕ → ℕ → Type 0 → Lent → Type 0
Called bs a top sp d more w =
    Asked bs a.first.nodes top sp (a.first.at - 1) (past (nodes_of bs) a.count a.first.at) w
    (Row bs a.first.at a.count d × ((a.at < node_count bs) × more))

-- nothing more
abbrev pub Any : Type 0
Any = Unit {0}

-- ---- what is left

abbrev pub frames_in : Lent → ℕ → Frames
frames_in w top = frames_of (table_of w) w.rows top

-- the nodes from i to e gave r, and q is the answer
abbrev pub Gives : List ℕ → ℕ → ℕ → ℕ → Typed → Lent → Lent → Checked → Type 0
Gives bs sp i e q w v r =
    Done (names_of bs) r (table_of w) (table_of v) w.stack v.stack sp i e (node_count bs)
    (code_of q v.notes) (place_in v.notes) (number_of q) (first_in v.notes) (second_in v.notes)
    × Kept w.notes v.notes (IsErr q)

-- the expression at the cursor
abbrev pub Checks : List ℕ → Cursor → ℕ → ℕ → ℕ → Typed → Lent → Lent → Type 0
Checks bs c top sp d q w v =
    Gives bs sp c.at (stop_of (nodes_of bs) c.at) q w v (check (names_of bs) (frames_in w top) (expr_at (nodes_of bs) d c.at))

-- the same, its children at most d deep
abbrev pub ChecksForm : List ℕ → Cursor → ℕ → ℕ → ℕ → Typed → Lent → Lent → Type 0
ChecksForm bs c top sp d q w v =
    Gives bs sp c.at (stop_of (nodes_of bs) c.at) q w v
    (check_form (names_of bs) (frames_in w top) c.at (form_at (nodes_of bs) (λ j. expr_at (nodes_of bs) d j) c.at))

-- n children from the cursor on, their types on the stack
abbrev pub ChecksAll : List ℕ → Cursor → ℕ → ℕ → ℕ → ℕ → Outcome → Lent → Lent → Type 0
ChecksAll bs c top sp n d o w v =
    Values (names_of bs) (checks bs (frames_in w top) d n c.at) (table_of w) (table_of v) w.stack v.stack sp n c.at
    (past (nodes_of bs) n c.at) (node_count bs) (code_of o v.notes) (place_in v.notes) (first_in v.notes) (second_in v.notes)
    × Kept w.notes v.notes (IsErr o)

-- what a rule makes of a call's arguments
abbrev pub Calls : (Children → Checked) → List ℕ → NameCall → ℕ → ℕ → ℕ → Typed → Lent → Lent → Type 0
Calls rule bs a top sp d q w v =
    Gives bs sp (a.first.at - 1) (past (nodes_of bs) a.count a.first.at) q w v (rule (checks bs (frames_in w top) d a.count a.first.at))
