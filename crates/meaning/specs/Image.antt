-- The program image: what it holds, and the refusals 1 to 8 and 14.
use Rattle.std.specs.Prelude.{Bool, true, false, not, List, [], ◌∷◌, map, ℕ, zero, suc, ◌+◌, ◌-◌, ◌*◌, ◌%◌, eqb, leb, ltb, length, get_or, take, drop}
use Rattle.std.proofs.Math.Option.{Option, none, some}
use Rattle.meaning.specs.Limits.{most_names, most_nodes, most_text, longest_name, deepest}
use Rattle.meaning.specs.Base.{◌and◌, ◌or◌, test◌then◌else◌, if_some, choose, all, is_one_of, before, word, records}

-- ---- "Header, 8 words: version 1; name count N; names offset; node count M; nodes offset; text byte count; texts offset; total
-- length. Areas follow in that order from byte 32 with no gaps."

unfoldable pub version : List ℕ → ℕ
version bs = word bs 0

unfoldable pub name_count : List ℕ → ℕ
name_count bs = word bs 4

unfoldable pub node_count : List ℕ → ℕ
node_count bs = word bs 12

unfoldable pub text_count : List ℕ → ℕ
text_count bs = word bs 20

abbrev pub names_from : ℕ
names_from = 32

unfoldable pub nodes_from : List ℕ → ℕ
nodes_from bs = names_from + 20 * name_count bs

unfoldable pub texts_from : List ℕ → ℕ
texts_from bs = nodes_from bs + 24 * node_count bs

unfoldable pub total : List ℕ → ℕ
total bs = texts_from bs + text_count bs

-- ---- "Name record, 5 words: text start, text length 1..64, role, p, q."

pub record NameRecord : Type 0 where
  pub start : ℕ
  pub size : ℕ
  pub role : ℕ
  pub p : ℕ
  pub q : ℕ

unfoldable pub name_record : List ℕ → NameRecord
name_record bs = record { start = word bs 0; size = word bs 4; role = word bs 8; p = word bs 12; q = word bs 16 }

unfoldable pub name_records : List ℕ → List NameRecord
name_records bs = records name_record 20 (name_count bs) (drop names_from bs)

unfoldable pub texts_of : List ℕ → List ℕ
texts_of bs = take (text_count bs) (drop (texts_from bs) bs)

-- "Roles: 0 plain; 1 builtin of exactly p; 2 builtin of p to q; 3 builtin of any count; 4 function of p arguments."
pub data Role : Type 0 where
  plain : Role
  exactly : ℕ → Role
  between : ℕ → ℕ → Role
  any : Role
  takes : ℕ → Role

unfoldable pub role_of : NameRecord → Role
role_of r = choose r.role plain ((1, exactly r.p) ∷ (2, between r.p r.q) ∷ (3, any) ∷ (4, takes r.p) ∷ [])

pub record Name : Type 0 where
  pub spelling : List ℕ
  pub role : Role

unfoldable pub name_from : List ℕ → NameRecord → Name
name_from texts r = record { spelling = take r.size (drop r.start texts); role = role_of r }

unfoldable pub names_of : List ℕ → List Name
names_of bs = map (name_from (texts_of bs)) (name_records bs)

-- the name of a number
unfoldable pub name_of : List Name → ℕ → Name
name_of ws x = get_or ws x (record { spelling = []; role = plain })

-- a builtin of this role allows k arguments ("p above q admits no count")
unfoldable pub allows : Role → ℕ → Bool
allows plain k = false
allows (exactly p) k = eqb k p
allows (between p q) k = leb p k and leb k q
allows any k = true
allows (takes p) k = false

-- ---- "Node record, 6 words: kind, arg, child count, end, span start, span end."

pub record Node : Type 0 where
  pub kind : ℕ
  pub arg : ℕ
  pub children : ℕ
  pub stop : ℕ
  pub span_start : ℕ
  pub span_end : ℕ

unfoldable pub node : List ℕ → Node
node bs =
    record { kind = word bs 0; arg = word bs 4; children = word bs 8; stop = word bs 12; span_start = word bs 16; span_end = word bs 20 }

unfoldable pub nodes_of : List ℕ → List Node
nodes_of bs = records node 24 (node_count bs) (drop (nodes_from bs) bs)

-- the node of a number
unfoldable pub node_of : List Node → ℕ → Node
node_of ds i = get_or ds i (record { kind = 0; arg = 0; children = 0; stop = 0; span_start = 0; span_end = 0 })

-- ---- 1: "under 32 bytes, or version not 1"

unfoldable pub head_stands : List ℕ → Bool
head_stands bs = leb names_from (length bs) and eqb (version bs) 1

-- ---- 2: "a count outside its range"

unfoldable pub counts_stand : List ℕ → Bool
counts_stand bs =
    leb (name_count bs) most_names and leb 1 (node_count bs) and leb (node_count bs) most_nodes and leb (text_count bs) most_text

-- ---- 3: "an offset, the total, or the slice length differs from the counts"

unfoldable pub offsets_stand : List ℕ → Bool
offsets_stand bs =
    eqb (word bs 8) names_from and eqb (word bs 16) (nodes_from bs) and eqb (word bs 24) (texts_from bs)
    and eqb (word bs 28) (total bs)
    and eqb (length bs) (total bs)

-- ---- 4: "a name record breaks its rules"

-- "Each byte is 33..126."
unfoldable pub printable : ℕ → Bool
printable b = leb 33 b and leb b 126

-- a text of 1 to 64 such bytes, after the text before: they "ascend strictly as byte strings"
unfoldable pub text_stands : List ℕ → List ℕ → Bool
text_stands last s = leb 1 (length s) and leb (length s) longest_name and all printable s and before last s

-- the role is 0 to 4, and "unused p and q are 0"
unfoldable pub role_stands : NameRecord → Bool
role_stands r =
    let no_p : Bool = eqb r.p 0 in
    let no_q : Bool = eqb r.q 0 in
    choose r.role false ((0, no_p and no_q) ∷ (1, no_q) ∷ (2, true) ∷ (3, no_p and no_q) ∷ (4, no_q) ∷ [])

-- the first that breaks them: "texts lie end to end in record order, fill the text area (if they stop short of its end, the place is N)"
unfoldable pub wrong_name : List ℕ → ℕ → ℕ → List ℕ → List NameRecord → Option ℕ
wrong_name texts i from last [] = test eqb from (length texts) then none else some i
wrong_name texts i from last (r ∷ rs) =
    let s : List ℕ = take r.size (drop from texts) in
    let later : Option ℕ = wrong_name texts (suc i) (from + r.size) s rs in
    test eqb r.start from and eqb (length s) r.size and text_stands last s and role_stands r then later else some i

-- ---- 5: "int, float, bool, str, len or assert is a builtin allowing 0 arguments; map or filter one allowing under 2"

unfoldable pub safe : Name → Bool
safe w =
    not (is_one_of w.spelling ("int" ∷ "float" ∷ "bool" ∷ "str" ∷ "len" ∷ "assert" ∷ []) and allows w.role 0)
    and not (is_one_of w.spelling ("map" ∷ "filter" ∷ []) and (allows w.role 0 or allows w.role 1))

-- ---- 6: "kind, arg, child count or unused field wrong, or end not in node+1..M"

-- 1 Break, 2 Continue, 3 Pass, 4 Class, 5 Assign, 6 Expr, 7 Return, 8 If, 9 While, 10 For, 11 Def
unfoldable pub is_statement : ℕ → Bool
is_statement k = leb 1 k and leb k 11

-- 12 Block, 13 Param: they have no span
unfoldable pub is_spanless : ℕ → Bool
is_spanless k = leb 12 k and leb k 13

-- 20 Literal, 21 Variable, 22 Unary, 23 Binary, 24 Call, 25 Attribute, 26 List, 27 Dict, 28 Tuple, 29 Set, 30 TreeSet, 31 Index,
-- 32 Lambda
unfoldable pub is_expression : ℕ → Bool
is_expression k = leb 20 k and leb k 32

-- an arg is below this: of N names one, of the literals and operators one, and "unused arg is 0"
unfoldable pub arg_below : ℕ → ℕ → ℕ
arg_below N k = choose k 1 ((10, N) ∷ (11, N) ∷ (13, N) ∷ (20, 5) ∷ (21, N) ∷ (22, 3) ∷ (23, 14) ∷ [])

-- so many children are possible
unfoldable pub count_stands : ℕ → ℕ → Bool
count_stands k c =
    choose k (eqb c 0)
    ((5, eqb c 2) ∷ (6, eqb c 1) ∷ (7, eqb c 1) ∷ (8, leb 2 c) ∷ (9, eqb c 2) ∷ (10, eqb c 2) ∷ (11, leb 1 c) ∷ (12, true)
    ∷ (22, eqb c 1) ∷ (23, eqb c 2) ∷ (24, leb 1 c) ∷ (25, eqb c 1) ∷ (26, true) ∷ (27, eqb (c % 2) 0) ∷ (28, true)
    ∷ (29, true) ∷ (30, true) ∷ (31, eqb c 2) ∷ [])

-- node i of M, with N names
unfoldable pub node_stands : ℕ → ℕ → ℕ → Node → Bool
node_stands N M i d =
    let k : ℕ = d.kind in
    (is_statement k or is_spanless k or is_expression k)
    and ltb d.arg (arg_below N k)
    and count_stands k d.children
    and (not (is_spanless k) or eqb d.span_start 0 and eqb d.span_end 0)
    and ltb i d.stop
    and leb d.stop M

-- ---- 7: "children don't land on end, or one has no business there"; "node 0 is a Block ending at M"

-- a node of kind k has business as child j of c below one of kind parent
unfoldable pub belongs : ℕ → ℕ → ℕ → ℕ → Bool
belongs parent c j k =
    let last : Bool = eqb (j + 1) c in
    let block : Bool = eqb k 12 in
    choose parent (is_expression k)
    ((8, test last or eqb (j % 2) 1 then block else is_expression k)
    ∷ (9, test last then block else is_expression k)
    ∷ (10, test last then block else is_expression k)
    ∷ (11, test last then block else eqb k 13)
    ∷ (12, is_statement k)
    ∷ [])

-- of d's children the last `left` start at i: each lies inside d and has business there, and the last ends where d does
unfoldable pub lands : List Node → Node → ℕ → ℕ → Bool
lands ds d i zero = eqb i d.stop
lands ds d i (suc left) =
    let later : Bool = lands ds d (node_of ds i).stop left in
    ltb i d.stop and belongs d.kind d.children (d.children - suc left) (node_of ds i).kind and later

unfoldable pub nests : List Node → ℕ → Node → Bool
nests ds i d = lands ds d (suc i) d.children and (ltb 0 i or eqb d.kind 12 and eqb d.stop (length ds))

-- ---- 8: "node 0 has depth 1": how many of the nodes from j on hold node i, itself among them

unfoldable pub depth : ℕ → ℕ → List Node → ℕ
depth i j [] = 0
depth i j (d ∷ ds) = (test leb j i and ltb i d.stop then 1 else 0) + depth i (suc j) ds

-- ---- "Checks run in this order, lowest name or node first"; "6 is looked for in all nodes before 7, and 7 before 8"

pub record Fault : Type 0 where
  pub code : ℕ
  pub place : ℕ

unfoldable pub unless : Bool → Option ℕ
unless b = test b then none else some 0

-- the first element that fails a test, numbered from i
unfoldable pub first_not : {A : Type 0} → (ℕ → A → Bool) → ℕ → List A → Option ℕ
first_not f i [] = none
first_not f i (x ∷ xs) = let later = first_not f (suc i) xs in test f i x then later else some i

-- the first code whose search finds a place
unfoldable pub first_found : List (ℕ × Option ℕ) → Option Fault
first_found [] = none
first_found (c ∷ cs) = let later = first_found cs in if_some c.1 (λ i. some (record { code = c.0; place = i })) later

unfoldable pub broken_name : List ℕ → Option ℕ
broken_name bs = wrong_name (texts_of bs) 0 0 [] (name_records bs)

unfoldable pub unsafe_name : List ℕ → Option ℕ
unsafe_name bs = first_not (λ i w. safe w) 0 (names_of bs)

unfoldable pub broken_node : List ℕ → Option ℕ
broken_node bs = first_not (node_stands (name_count bs) (node_count bs)) 0 (nodes_of bs)

unfoldable pub badly_nested : List ℕ → Option ℕ
badly_nested bs = first_not (nests (nodes_of bs)) 0 (nodes_of bs)

unfoldable pub too_deep_node : List ℕ → Option ℕ
too_deep_node bs = first_not (λ i d. leb (depth i 0 (nodes_of bs)) deepest) 0 (nodes_of bs)

unfoldable pub head_fault : List ℕ → Option Fault
head_fault bs = first_found ((1, unless (head_stands bs)) ∷ (2, unless (counts_stand bs)) ∷ (3, unless (offsets_stand bs)) ∷ [])

-- computed only where the header stands, and so bounded
unfoldable pub body_fault : List ℕ → Option Fault
body_fault bs =
    first_found
    ((4, broken_name bs) ∷ (5, unsafe_name bs) ∷ (6, broken_node bs) ∷ (7, badly_nested bs) ∷ (8, too_deep_node bs) ∷ [])

unfoldable pub image_fault : List ℕ → Option Fault
image_fault bs = let body = body_fault bs in if_some (head_fault bs) some body

-- ---- 14: "New images may not hold kind 30"

unfoldable pub is_tree_set : Node → Bool
is_tree_set d = eqb d.kind 30

unfoldable pub first_tree_set : List ℕ → Option ℕ
first_tree_set bs = first_not (λ i d. not (is_tree_set d)) 0 (nodes_of bs)

-- all that is looked for before the walk: "the check gives 14 at the first TreeSet node, after code 8 and before 9 and all typing codes".
-- It is computed only where the image is well formed, and so bounded
unfoldable pub check_fault : List ℕ → Option Fault
check_fault bs = let retired = first_found ((14, first_tree_set bs) ∷ []) in if_some (image_fault bs) some retired

unfoldable pub image_open : Unit {0}
unfolding version name_count node_count text_count nodes_from texts_from total name_record name_records texts_of role_of name_from names_of name_of allows node nodes_of node_of head_stands counts_stand offsets_stand printable text_stands role_stands wrong_name safe is_statement is_spanless is_expression arg_below count_stands node_stands belongs lands nests depth unless first_not first_found broken_name unsafe_name broken_node badly_nested too_deep_node head_fault body_fault image_fault is_tree_set first_tree_set check_fault
image_open = tt
