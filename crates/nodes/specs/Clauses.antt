-- What the functions of this crate leave of the table's cells cs and the notes ns, in ds and ms; r is the answer.
use Rattle.std.specs.Prelude.{IsErr, List, map, ℕ, suc, take, drop}
use Rattle.meaning.specs.Types.{Ty, tuple, tys}
use Rattle.meaning.specs.Image.{node_count, nodes_of, node_of, names_of}
use Rattle.meaning.specs.Image.{Node as ImageNode}
use Rattle.meaning.specs.Decode.{stop_of}
use Rattle.meaning.specs.Operators.{Checked}
use Rattle.types.specs.Table.{Tab, denote, Made}
use Rattle.image.specs.declared.Cursor.{Cursor}
use Rattle.state.specs.Giving.{Given}
use Rattle.types.specs.declared.Counts.{Counts}
use Rattle.state.specs.Notes.{place_in, first_in, second_in, tab_of, tab_in, Kept}
use Rattle.state.specs.Answer.{Typed, code_of, number_of}
use Rattle.state.specs.declared.Notes.{Notes}
use Rattle.nodes.specs.Operands.{operand_rule, Ruled}

-- r is the number of the type F, which spends so many elements of a table of n types and elements; it has m then
abbrev pub FormsWith : List ℕ → List ℕ → Counts → Counts → ℕ → ℕ → (Tab → Ty) → Type 0
FormsWith cs ds n m r spent F = Made (tab_of cs n) (tab_of ds m) r (F (tab_of cs n)) spent

abbrev pub Forms : List ℕ → List ℕ → Counts → Counts → ℕ → (Tab → Ty) → Type 0
Forms cs ds n m r F = FormsWith cs ds n m r 0 F

-- the Tuple of the q types on the stack st from sp on
abbrev pub FormsTuple : List ℕ → List ℕ → Counts → Counts → ℕ → List ℕ → ℕ → ℕ → Type 0
FormsTuple cs ds n m r st sp q = FormsWith cs ds n m r q (λ t. tuple (tys (map (denote t) (take q (drop sp st)))))

-- what a rule gives at node n
abbrev pub Gives : List ℕ → List ℕ → Notes → Notes → Typed → ℕ → (Tab → Checked) → Type 0
Gives cs ds ns ms r n rule =
    Ruled (tab_in cs ns) (tab_in ds ms) (rule (tab_in cs ns)) n (code_of r ms) (place_in ms) (number_of r) (first_in ms) (second_in ms)
    × Kept ns ms (IsErr r)

-- what the node at a cursor gives, its children's types on the stack st from sp on
abbrev pub NodeGives : List ℕ → Cursor → List ℕ → ℕ → List ℕ → List ℕ → Notes → Notes → Typed → Type 0
NodeGives bs c st sp cs ds ns ms r =
    let node : ImageNode = node_of (nodes_of bs) c.at in
    Given (names_of bs)
    (operand_rule node.kind node.arg c.at (suc c.at) (stop_of (nodes_of bs) (suc c.at)) (map (denote (tab_in cs ns)) (take node.children (drop sp st))))
    (tab_in cs ns) (tab_in ds ms) node.children (node_count bs) (code_of r ms) (place_in ms) (number_of r) (first_in ms) (second_in ms)
    × Kept ns ms (IsErr r)
