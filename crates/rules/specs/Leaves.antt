-- What the leaves promise, whatever the table, the image's names and the node: numbers stand for types, as the table that the cells cs
-- hold says.
use Rattle.std.specs.Prelude.{◌≡◌, Bool, ◌⊎◌, List, [], ◌∷◌, Option, Some, None, ℕ, ◌<◌, eqb}
use Rattle.meaning.specs.Base.{◌or◌, test◌then◌else◌, if_some, is_in}
use Rattle.meaning.specs.Types.{Ty, unknown, int, string, function, list, dict, map_iter, filter_iter, same, maybe, kind}
use Rattle.meaning.specs.Image.{Name}
use Rattle.meaning.specs.Message.{a_type, refusal}
use Rattle.meaning.specs.Operators.{Checked, ok, refused, when}
use Rattle.meaning.specs.Rules.{Children, list_rule, joined, dict_rule, streamed, index_rule}
use Rattle.types.specs.Table.{Tab, capacity, Wf, denote, Made}
use Rattle.types.specs.Reading.{perhaps}
use Rattle.rules.specs.declared.Pair.{Pair}
use Rattle.rules.specs.Outcome.{Decision, types_named, decision_code, decision_number, Decides}

-- ---- what a rule gives at node n

-- for the type i
pub record OfOne (cs : List ℕ) (rule : ℕ → Ty → Checked) (i : ℕ) (d : Decision) : Type 0 where
  pub says : (ws : List Name) (t : Tab) (n : ℕ) → t.cells ≡ cs → Wf t → i < t.n
      → Decides ws t (rule n (denote t i)) n d

-- for the types i and j
pub record OfTwo (cs : List ℕ) (rule : ℕ → Ty → Ty → Checked) (i j : ℕ) (d : Decision) : Type 0 where
  pub says : (ws : List Name) (t : Tab) (n : ℕ) → t.cells ≡ cs → Wf t → i < t.n → j < t.n
      → Decides ws t (rule n (denote t i) (denote t j)) n d

-- for the type i, of which the number alone tells
pub record OfNumber (rule : ℕ → Ty → Checked) (i : ℕ) (d : Decision) : Type 0 where
  pub says : (ws : List Name) (t : Tab) (n : ℕ) → Wf t → i < t.n → Decides ws t (rule n (denote t i)) n d

-- type i where `wanted` or Unknown is expected: the type `result`, or code c
pub record Expected (wanted i c result : ℕ) (d : Decision) : Type 0 where
  pub says : (ws : List Name) (t : Tab) (n : ℕ) → types_named c ≡ 1 → Wf t → i < t.n → wanted < t.n → result < t.n
      → Decides ws t (when (maybe (denote t wanted) (denote t i)) (denote t result) c n (a_type (denote t i) ∷ [])) n d
  pub codes : (decision_code d ≡ 0) ⊎ (decision_code d ≡ c)

-- ---- what the rules of builtins do with the type of one argument

abbrev pub prompt_rule : ℕ → Ty → Checked
prompt_rule n a = when (maybe string a) string 39 n (a_type a ∷ [])

abbrev pub sized_rule : ℕ → Ty → Checked
sized_rule n a = when (is_in (kind a) (0 ∷ 3 ∷ 8 ∷ 9 ∷ 10 ∷ [])) int 40 n (a_type a ∷ [])

abbrev pub bound_rule : ℕ → Ty → Checked
bound_rule n a = when (maybe int a) int 41 n (a_type a ∷ [])

abbrev pub callable_rule : ℕ → ℕ → Ty → Checked
callable_rule c n a = when (maybe function a) a c n (a_type a ∷ [])

-- ---- one turn of a List's or a Dict's rule

-- what a List comes to after a turn: none ends it
abbrev pub list_after : Tab → Option ℕ → Children → Checked
list_after t None cs = ok (list unknown)
list_after t (Some r) cs = list_rule (denote t r) cs

-- r is the element type after the turn
pub record ListStep (so_far next : ℕ) (r : Option ℕ) : Type 0 where
  pub says : (t : Tab) (c : ℕ × Checked) (cs : Children) → Wf t → so_far < t.n → next < t.n → c.1 ≡ ok (denote t next)
      → list_rule (denote t so_far) (c ∷ cs) ≡ list_after t r cs
  pub below : (t : Tab) → next < t.n → (k : ℕ) → r ≡ Some k → k < t.n

pub record JoinedOf (a b r : ℕ) : Type 0 where
  pub says : (t : Tab) → Wf t → a < t.n → b < t.n → joined (denote t a) (denote t b) ≡ denote t r
  pub below : (t : Tab) → Wf t → b < t.n → r < t.n

-- what a Dict comes to after a turn: none ends it
abbrev pub dict_after : Tab → Option Pair → Children → Checked
dict_after t None cs = ok (dict unknown unknown)
dict_after t (Some p) cs = dict_rule (denote t p.key) (denote t p.value) cs

-- p has the key and the value type after the turn
pub record DictStep (so_far next : Pair) (p : Option Pair) : Type 0 where
  pub says : (t : Tab) (c d : ℕ × Checked) (cs : Children) → Wf t → so_far.key < t.n → so_far.value < t.n → next.key < t.n → next.value < t.n
      → c.1 ≡ ok (denote t next.key) → d.1 ≡ ok (denote t next.value)
      → dict_rule (denote t so_far.key) (denote t so_far.value) (c ∷ d ∷ cs) ≡ dict_after t p cs
  pub key_below : (t : Tab) → Wf t → next.key < t.n → (q : Pair) → p ≡ Some q → q.key < t.n
  pub value_below : (t : Tab) → Wf t → next.value < t.n → (q : Pair) → p ≡ Some q → q.value < t.n

-- ---- Index

-- key type `wanted` and value type `value`: an index of type i
pub record Keyed (wanted i value : ℕ) (d : Decision) : Type 0 where
  pub says : (ws : List Name) (t : Tab) (n : ℕ) → Wf t → wanted < t.n → i < t.n → value < t.n
      → Decides ws t
      (when (maybe (denote t wanted) (denote t i) or same (denote t wanted) unknown) (denote t value) 47 n
      (a_type (denote t wanted) ∷ a_type (denote t i) ∷ []))
      n d
  pub codes : (decision_code d ≡ 0) ⊎ (decision_code d ≡ 47)

-- 50 is at the object's node m, and all else at the index's node n
unfoldable pub index_place : ℕ → ℕ → ℕ → ℕ
index_place c m n = test eqb c 50 then m else n

pub record Indexed (cs : List ℕ) (object index : ℕ) (d : Decision) : Type 0 where
  pub says : (ws : List Name) (t : Tab) (m n : ℕ) → t.cells ≡ cs → Wf t → object < t.n → index < t.n
      → Decides ws t (index_rule m (denote t object) n (denote t index)) (index_place (decision_code d) m n) d

-- ---- the second argument of map and filter

pub record StreamedOf (cs : List ℕ) (i : ℕ) (r : Option ℕ) : Type 0 where
  pub says : (t : Tab) → t.cells ≡ cs → Wf t → i < t.n → streamed (denote t i) ≡ perhaps t r
  pub below : (t : Tab) → t.cells ≡ cs → Wf t → i < t.n → (k : ℕ) → r ≡ Some k → k < t.n

-- filter keeps the element type, and map does not tell what it gives
unfoldable pub stream_type : Bool → Ty → Ty
stream_type filters t = test filters then filter_iter t else map_iter unknown

unfoldable pub second_code : Bool → ℕ
second_code filters = test filters then 45 else 43

abbrev pub second_rule : Bool → ℕ → Ty → Checked
second_rule filters n b =
    if_some (streamed b) (λ t. ok (stream_type filters t)) (refused (refusal (second_code filters) n (a_type b ∷ [])))

-- type i is known, and there is room for one type more
pub record Asks (t : Tab) (i : ℕ) : Type 0 where
  pub wf : Wf t
  pub room : t.n < capacity t.cells
  pub below : i < t.n

-- u is the table t with the type that the decision gives, or t itself where it gives none
pub record Streams (t u : Tab) (filters : Bool) (i : ℕ) (d : Decision) : Type 0 where
  pub says : (ws : List Name) (n : ℕ) → Decides ws u (second_rule filters n (denote t i)) n d
  pub made : decision_code d ≡ 0 → Made t u (decision_number d) (denote u (decision_number d)) 0
  pub kept : (decision_code d ≡ 0 → ⊥) → u ≡ t
