-- What the functions of this crate ask of what they are lent, w, and what they leave of it, v. They stand at a cursor c of the image bs;
-- the newest frame is the row that is noted.
use Rattle.std.specs.Prelude.{◌≡◌, Bool, List, ℕ, ◌<◌, IsErr}
use Rattle.meaning.specs.Limits.{most_frames}
use Rattle.meaning.specs.Image.{node_count, nodes_from, nodes_of, node_of, names_of}
use Rattle.meaning.specs.Decode.{stop_of, past, params_from}
use Rattle.meaning.specs.Walk.{Setting, State, End}
use Rattle.meaning.proofs.Faults.{Sound, Headed}
use Rattle.frames.specs.Env.{Rows}
use Rattle.image.specs.Parts.{On}
use Rattle.image.specs.declared.Cursor.{Cursor}
use Rattle.state.specs.Notes.{code_in, places_in, first_in, second_in, ret_in, top_in, Kept}
use Rattle.state.specs.Answer.{Typed, Outcome, code_of, number_of}
use Rattle.state.specs.Lent.{Lent, table_of, state_in}
use Rattle.expr.specs.Contract.{At}
use Rattle.expr.specs.Clauses.{Asked, Checkable as Free}
use Rattle.targets.specs.Ending.{Assigned}
use Rattle.stmt.specs.declared.How.{How}
use Rattle.stmt.specs.Contract.{state_of, setting_if, acted, walked_at, body_at, returned_at, arm_block, armed_at, Answer, end_code, Tells, Refuses}
use Rattle.stmt.specs.Contract.{Standing, Bodiless, Stmt, Pair, Branch, Params, Done, Entered, Iterated}

-- ---- what is asked

-- an expression, at most d deep, with the whole stack free
abbrev pub Checkable : List ℕ → Cursor → ℕ → Lent → Type 0
Checkable bs c d w = Free bs c (top_in w.notes) 0 d w

-- a node with two expressions under it, each at most d deep
abbrev pub Paired : List ℕ → Cursor → ℕ → Lent → Type 0
Paired bs c d w = Asked bs c.nodes (top_in w.notes) 0 c.at (stop_of (nodes_of bs) c.at) w (Pair bs c.at d)

-- room for the nodes from the cursor's to e, the return type so far, and more
abbrev pub Stands : List ℕ → Cursor → ℕ → Lent → Type 0 → Type 0
Stands bs c e w more = Standing bs c.nodes w.rows (top_in w.notes) (table_of w) w.stack (ret_in w.notes) c.at e × more

-- a returned value, at most d deep
abbrev pub Returnable : List ℕ → Cursor → ℕ → Lent → Type 0
Returnable bs c d w = Stands bs c (stop_of (nodes_of bs) c.at) w (At bs c.at d)

-- a statement without a body, its children at most d deep
abbrev pub Simple : List ℕ → Cursor → ℕ → Lent → Type 0
Simple bs c d w =
    Stands bs c (stop_of (nodes_of bs) c.at) w
    (Stmt bs c.at d (node_of (nodes_of bs) c.at).kind × Bodiless (node_of (nodes_of bs) c.at).kind)

-- a statement or a Block, at most d deep
abbrev pub Walkable : List ℕ → Cursor → ℕ → Lent → Type 0
Walkable bs c d w = Stands bs c (stop_of (nodes_of bs) c.at) w (At bs c.at d)

-- a statement of kind k, its children at most d deep
abbrev pub OfKind : ℕ → List ℕ → Cursor → ℕ → Lent → Type 0
OfKind k bs c d w = Stands bs c (stop_of (nodes_of bs) c.at) w (Stmt bs c.at d k)

-- a branch, of n nodes of an If, at most d deep
abbrev pub InIf : List ℕ → Cursor → ℕ → ℕ → Lent → Type 0
InIf bs c n d w =
    Stands bs c (stop_of (nodes_of bs) (arm_block bs n c.at)) w (Branch bs c.at n d)

-- the same of the image alone
abbrev pub AtArm : List ℕ → Cursor → ℕ → Type 0
AtArm bs c n = Headed bs × (On bs c × (arm_block bs n c.at < node_count bs))

-- n Params, for the row `top`
abbrev pub AtParams : List ℕ → Cursor → ℕ → ℕ → Type 0
AtParams bs c top n = Sound bs × ((c.nodes ≡ nodes_from bs) × ((top < most_frames) × Params bs c.at n))

-- ---- what is left

-- the cursor's node ended as r says, whatever the return type so far; o is the answer
abbrev pub Ends : List ℕ → Cursor → Outcome → Lent → Lent → (State → End) → Type 0
Ends bs c o w v r =
    Assigned (names_of bs) (λ y. r (state_in w (top_in w.notes) y)) (table_of w) (table_of v) v.rows (top_in w.notes) v.stack
    c.at (stop_of (nodes_of bs) c.at) (node_count bs)
    (code_of o v.notes) (places_in v.notes) (first_in v.notes) (second_in v.notes)
    × Kept w.notes v.notes (IsErr o)

-- what a walk over the value at the cursor gives, at most d deep
abbrev pub Iterates : List ℕ → Cursor → ℕ → Typed → Lent → Lent → Type 0
Iterates bs c d q w v =
    Iterated bs d (table_of w) (table_of v) w.rows (top_in w.notes) v.stack c.at (stop_of (nodes_of bs) c.at) (node_count bs)
    (code_of q v.notes) (places_in v.notes) (number_of q) (first_in v.notes) (second_in v.notes)
    × Kept w.notes v.notes (IsErr q)

-- n Params are bound as Unknown in the row `top`, and r stands behind them
abbrev pub Enters : List ℕ → Cursor → ℕ → ℕ → Cursor → Rows → Rows → Type 0
Enters bs c top n r fs gs =
    ((r.at ≡ past (nodes_of bs) n c.at) × (r.nodes ≡ nodes_from bs)) × Entered fs gs top (params_from (nodes_of bs) n c.at)

-- the cursor r stands behind a branch, of n nodes of an If
abbrev pub AfterArm : List ℕ → Cursor → ℕ → Cursor → Type 0
AfterArm bs c n r = (r.at ≡ stop_of (nodes_of bs) (arm_block bs n c.at)) × (r.nodes ≡ nodes_from bs)

-- the nodes from the cursor's to e ended as r says, the return type with it, and `code` is the answer's
abbrev pub WalkedTo : ℕ → List ℕ → Cursor → ℕ → Lent → Lent → (State → End) → Type 0
WalkedTo e bs c code w v r =
    Done (names_of bs) (r (state_of (table_of w) w.rows (top_in w.notes) (ret_in w.notes))) (table_of w) (table_of v)
    v.rows (top_in w.notes) (top_in v.notes) (ret_in v.notes) v.stack
    c.at e (node_count bs) code (places_in v.notes) (first_in v.notes) (second_in v.notes)

-- the cursor's node
abbrev pub Walked : List ℕ → Cursor → ℕ → Lent → Lent → (State → End) → Type 0
Walked bs c code w v r = WalkedTo (stop_of (nodes_of bs) c.at) bs c code w v r

-- a Return of the value at the cursor, at most d deep
abbrev pub Returns : List ℕ → Cursor → ℕ → Outcome → Lent → Lent → Type 0
Returns bs c d o w v = Walked bs c (code_of o v.notes) w v (returned_at bs d c.at) × Tells (code_in v.notes) (IsErr o)

-- a statement without a body, whose children are at most d deep, under either setting
abbrev pub ActsEither : List ℕ → Cursor → ℕ → Bool → Outcome → Lent → Lent → Type 0
ActsEither bs c d looped o w v =
    ((setting : Setting) → Walked bs c (code_of o v.notes) w v (acted bs setting looped d c.at)) × Tells (code_in v.notes) (IsErr o)

abbrev pub Walks : List ℕ → Cursor → Answer → Lent → Lent → (State → End) → Type 0
Walks bs c e w v r = Walked bs c (end_code e (code_in v.notes)) w v r × Refuses e (code_in v.notes)

-- a statement at most d deep
abbrev pub WalksStmt : List ℕ → Cursor → ℕ → How → Answer → Lent → Lent → Type 0
WalksStmt bs c d how e w v = Walks bs c e w v (walked_at bs (setting_if how.plain) how.looped d c.at)

-- a Block at most d deep
abbrev pub WalksBlock : List ℕ → Cursor → ℕ → How → Answer → Lent → Lent → Type 0
WalksBlock bs c d how e w v = Walks bs c e w v (body_at bs (setting_if how.plain) how.looped how.drops d c.at)

-- a statement whose children are at most d deep
abbrev pub Acts : List ℕ → Cursor → ℕ → How → Answer → Lent → Lent → Type 0
Acts bs c d how e w v = Walks bs c e w v (acted bs (setting_if how.plain) how.looped d c.at)

-- a branch, of n nodes of an If
abbrev pub WalksArm : List ℕ → Cursor → ℕ → ℕ → How → Answer → Lent → Lent → Type 0
WalksArm bs c n d how e w v =
    WalkedTo (stop_of (nodes_of bs) (arm_block bs n c.at)) bs c (end_code e (code_in v.notes)) w v
    (armed_at bs (setting_if how.plain) how.looped d n c.at)
    × Refuses e (code_in v.notes)
