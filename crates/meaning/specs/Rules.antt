-- The type of an expression, or its refusal (T's tc_expr). An expression never changes the frames.
use Rattle.std.specs.Prelude.{List, [], ◌∷◌, ◌++◌, ℕ, suc, eqb, length, get_or}
use Rattle.std.proofs.Math.Option.{Option, none, some}
use Rattle.meaning.specs.Base.{◌and◌, ◌or◌, test◌then◌else◌, choose, if_some, is_in, bytes, same_text, decimal}
use Rattle.meaning.specs.Types.{Ty, unknown, int, bool, string, float, nonetype, range, function, list, dict, tuple, map_iter, filter_iter, same, maybe, tys, kind, parts, part, common}
use Rattle.meaning.specs.Tree.{Expr, at, Form, literal, variable, unary, binary, call, attribute, list_of, dict_of, tuple_of, set_of, index, lambda, Exprs, no_exprs, ◌also◌, place, called}
use Rattle.meaning.specs.Image.{Role, plain, exactly, between, any, takes, Name, name_of, allows}
use Rattle.meaning.specs.Message.{a_type, a_text, a_number, refusal}
use Rattle.meaning.specs.Frames.{Frames, lookup}
use Rattle.meaning.specs.Operators.{Checked, ok, refused, ◌>>=◌, when, binary_rule, unary_rule}

-- ---- children: each is its node and what its check gives, in order; a rule that does not look at one does not check it

abbrev pub Children : Type 0
Children = List (ℕ × Checked)

unfoldable pub child : ℕ → Children → ℕ × Checked
child i cs = get_or cs i (0, ok unknown)

-- each is checked; then what their types give, after those in ts
unfoldable pub each : Children → (List Ty → Checked) → List Ty → Checked
each [] k ts = k ts
each (c ∷ cs) k ts = c.1 >>= λ t. each cs k (ts ++ (t ∷ []))

-- each is checked, and t is the type
unfoldable pub each_then : Ty → Children → Checked
each_then t cs = each cs (λ ts. ok t) []

-- only the first is checked, and t is the type
unfoldable pub first_then : Ty → Children → Checked
first_then t cs = (child 0 cs).1 >>= λ a. ok t

-- ---- "List stops at the first mismatch; Dict stops only when key and value are both Unknown after a pair."

-- a is the element type so far
unfoldable pub list_rule : Ty → Children → Checked
list_rule a [] = ok (list a)
list_rule a (c ∷ cs) = c.1 >>= λ t. let later = list_rule t cs in test same a unknown or same a t then later else ok (list unknown)

-- Unknown gives way, equal stays, a mismatch is Unknown
unfoldable pub joined : Ty → Ty → Ty
joined a t = test same a unknown or same a t then t else unknown

-- k and v are the key and value types so far
unfoldable pub dict_rule : Ty → Ty → Children → Checked
dict_rule k v [] = ok (dict k v)
dict_rule k v (c ∷ []) = ok (dict k v)
dict_rule k v (c ∷ d ∷ cs) = do
  a ← c.1
  b ← d.1
  let later : Checked = dict_rule (joined k a) (joined v b) cs
  test same (joined k a) unknown and same (joined v b) unknown then ok (dict unknown unknown) else later

-- ---- what a walk over a value gives: none where the type is not iterable

unfoldable pub element_of : Ty → Option Ty
element_of t =
    choose (kind t) none
    ((0, some unknown)  -- Unknown
    ∷ (3, some string)  -- String
    ∷ (6, some int)  -- Range
    ∷ (8, some (part 0 t))  -- List
    ∷ (9, some (part 0 t))  -- Dict: its keys
    ∷ (10, some (common (parts t)))  -- Tuple
    ∷ (11, some (part 0 t))  -- MapIter
    ∷ (12, some (part 0 t))  -- FilterIter
    ∷ [])

-- "map refuses Dict and Tuple, For accepts both", and filter does as map
unfoldable pub streamed : Ty → Option Ty
streamed t = test is_in (kind t) (9 ∷ 10 ∷ []) then none else element_of t

-- ---- Index: an object of type t at node m, an index of type i at node n

unfoldable pub index_rule : ℕ → Ty → ℕ → Ty → Checked
index_rule m t n i =
    let by_int : ℕ → Ty → Checked = λ c r. when (maybe int i) r c n (a_type i ∷ []) in
    choose (kind t) (refused (refusal 50 m (a_type t ∷ [])))
    ((0, ok unknown)  -- Unknown
    ∷ (3, by_int 49 string)  -- String
    ∷ (8, by_int 46 (part 0 t))  -- List
    ∷ (9, when (maybe (part 0 t) i or same (part 0 t) unknown) (part 1 t) 47 n (a_type (part 0 t) ∷ a_type i ∷ []))  -- Dict
    ∷ (10, by_int 48 (common (parts t)))  -- Tuple
    ∷ [])

-- ---- calls of builtins, at node n

unfoldable pub input_rule : ℕ → Children → Checked
input_rule n cs =
    let prompted : Checked = (child 0 cs).1 >>= λ a. when (maybe string a) string 39 n (a_type a ∷ []) in
    test eqb (length cs) 1 then prompted else ok string

-- of Unknown, String, List, Dict, Tuple
unfoldable pub len_rule : ℕ → Children → Checked
len_rule n cs = (child 0 cs).1 >>= λ a. when (is_in (kind a) (0 ∷ 3 ∷ 8 ∷ 9 ∷ 10 ∷ [])) int 40 n (a_type a ∷ [])

unfoldable pub range_rule : ℕ → Children → Checked
range_rule n [] = ok range
range_rule n (c ∷ cs) = c.1 >>= λ a. when (maybe int a) int 41 n (a_type a ∷ []) >>= λ b. range_rule n cs

-- map and filter: c refuses the first argument and the next code the second; f of what the second gives is the type
unfoldable pub stream_rule : ℕ → (Ty → Ty) → Children → Checked
stream_rule c f cs = do
  a ← (child 0 cs).1
  _ ← when (maybe function a) a c (child 0 cs).0 (a_type a ∷ [])
  b ← (child 1 cs).1
  if_some (streamed b) (λ t. ok (f t)) (refused (refusal (suc c) (child 1 cs).0 (a_type b ∷ [])))

unfoldable pub choose_text : List ℕ → Checked → List (List ℕ × Checked) → Checked
choose_text s d [] = d
choose_text s d (r ∷ rs) = let later = choose_text s d rs in test same_text s r.0 then r.1 else later

-- "A builtin's rule is chosen by its text, compared byte by byte."
unfoldable pub builtin_rule : ℕ → List ℕ → Children → Checked
builtin_rule n s cs =
    choose_text s (each_then unknown cs)
    ((bytes "print", each_then nonetype cs)
    ∷ (bytes "input", input_rule n cs)
    ∷ (bytes "int", first_then int cs)
    ∷ (bytes "float", first_then float cs)
    ∷ (bytes "bool", first_then bool cs)
    ∷ (bytes "str", first_then string cs)
    ∷ (bytes "len", len_rule n cs)
    ∷ (bytes "range", range_rule n cs)
    ∷ (bytes "assert", first_then nonetype cs)
    ∷ (bytes "map", stream_rule 42 (λ t. map_iter unknown) cs)
    ∷ (bytes "filter", stream_rule 44 filter_iter cs)
    ∷ [])

-- Arity::description
unfoldable pub described : Role → List ℕ
described plain = []
described (exactly p) = decimal p
described (between p q) = test eqb p q then decimal p else decimal p ++ bytes "-" ++ decimal q
described any = bytes "any"
described (takes p) = decimal p

-- ---- calls: first the role, then the count, then the rule of the text

unfoldable pub builtin_call : ℕ → Name → Children → Checked
builtin_call n w cs = do
  _ ← when (allows w.role (length cs)) unknown 37 n (a_text w.spelling ∷ a_text (described w.role) ∷ a_number (length cs) ∷ [])
  builtin_rule n w.spelling cs

unfoldable pub function_call : ℕ → Name → ℕ → Children → Checked
function_call n w p cs = do
  _ ← when (eqb (length cs) p) unknown 38 n (a_text w.spelling ∷ a_number p ∷ a_number (length cs) ∷ [])
  each_then unknown cs

unfoldable pub name_rule : ℕ → Name → Role → Children → Checked
name_rule n w plain cs = each_then unknown cs
name_rule n w (exactly p) cs = builtin_call n w cs
name_rule n w (between p q) cs = builtin_call n w cs
name_rule n w any cs = builtin_call n w cs
name_rule n w (takes p) cs = function_call n w p cs

-- ---- expressions, over the image's names

module _ (ws : List Name) where
  -- a Variable that is called goes by its name's role and is not looked up; any other callee is checked first
  unfoldable pub call_rule : ℕ → Option ℕ → Checked → Children → Checked
  call_rule n (some x) f cs = name_rule n (name_of ws x) (name_of ws x).role cs
  call_rule n none f cs = f >>= λ t. each_then unknown cs

  unfoldable mutual
    pub check : Frames → Expr → Checked
    check Γ (at n f) = check_form Γ n f

    pub check_form : Frames → ℕ → Form → Checked
    check_form Γ n (literal t) = ok t
    check_form Γ n (variable x) = ok (lookup Γ x).type
    check_form Γ n (unary o e) = do
      t ← check Γ e
      unary_rule n o t
    check_form Γ n (binary o l r) = do
      a ← check Γ l
      b ← check Γ r
      binary_rule n o a b
    check_form Γ n (call f es) = call_rule n (called f) (check Γ f) (check_all Γ es)
    check_form Γ n (attribute e) = do
      _ ← check Γ e
      ok unknown
    check_form Γ n (list_of es) = list_rule unknown (check_all Γ es)
    check_form Γ n (dict_of es) = dict_rule unknown unknown (check_all Γ es)
    check_form Γ n (tuple_of es) = each (check_all Γ es) (λ ts. ok (tuple (tys ts))) []
    check_form Γ n (set_of es) = each_then unknown (check_all Γ es)
    check_form Γ n (index o i) = do
      a ← check Γ o
      b ← check Γ i
      index_rule (place o) a (place i) b
    check_form Γ n lambda = ok function

    pub check_all : Frames → Exprs → Children
    check_all Γ no_exprs = []
    check_all Γ (e also es) = (place e, check Γ e) ∷ check_all Γ es

unfoldable pub rules_open : Unit {0}
unfolding child each each_then first_then list_rule joined dict_rule element_of streamed index_rule input_rule len_rule range_rule stream_rule choose_text builtin_rule described builtin_call function_call name_rule call_rule check
rules_open = tt
