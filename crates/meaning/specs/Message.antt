-- A typing refusal and its message: "Texts and spans are T's".
use Rattle.std.specs.Prelude.{List, [], ◌∷◌, ◌++◌, ℕ, eqb}
use Rattle.std.proofs.Math.Option.{Option, none}
use Prim.Native.String.{String}
use Rattle.meaning.specs.Base.{test◌then◌else◌, bytes, choose, decimal}
use Rattle.meaning.specs.Types.{Ty, text}

-- what a message names
pub data Piece : Type 0 where
  a_type : Ty → Piece
  a_text : List ℕ → Piece
  a_number : ℕ → Piece

-- a code, the "node whose span it gives", the node whose span is the second, and what its message names
pub record Refusal : Type 0 where
  pub code : ℕ
  pub node : ℕ
  pub first : Option ℕ
  pub names : List Piece

abbrev pub refusal : ℕ → ℕ → List Piece → Refusal
refusal c n ps = record { code = c; node = n; first = none; names = ps }

-- 25 and 23 "point at the first place too"
abbrev pub conflict : ℕ → ℕ → Option ℕ → List Piece → Refusal
conflict c n m ps = record { code = c; node = n; first = m; names = ps }

-- T's format strings, with `_` for each part that is put in
unfoldable pub template : ℕ → String
template c =
    choose c ""
    ((20, "SyntaxError: 'break' outside loop")
    ∷ (21, "SyntaxError: 'continue' outside loop")
    ∷ (22, "TypeError: inconsistent return types in function: _ vs _")
    ∷ (23, "TypeError: variable '_' has incompatible types across branches")
    ∷ (24, "TypeError: type '_' is not iterable")
    ∷ (25, "TypeError: cannot assign value of type _ to variable of type _")
    ∷ (26, "TypeError: cannot unpack tuple of length _ into _ variables")
    ∷ (27, "TypeError: cannot unpack non-iterable type _")
    ∷ (28, "Invalid assignment target")
    ∷ (29, "TypeError: unsupported operand types for +: _ and _")
    ∷ (30, "TypeError: unsupported operand types for *: _ and _")
    ∷ (31, "TypeError: cannot compare _ and _")
    ∷ (32, "TypeError: equality operands must have same type, got _ and _")
    ∷ (33, "TypeError: expected numeric types, got _ and _")
    ∷ (34, "TypeError: expected Int or Float, got _")
    ∷ (35, "TypeError: expected Bool, got _")
    ∷ (36, "TypeError: condition must be Bool")
    ∷ (37, "ArityError: _() takes _ argument(s) but _ given")
    ∷ (38, "ArityError: function '_' takes _ positional arguments but _ were given")
    ∷ (39, "TypeError: input() prompt must be a string, got _")
    ∷ (40, "TypeError: object of type _ has no len()")
    ∷ (41, "TypeError: range() arguments must be integers, got _")
    ∷ (42, "TypeError: map() argument 1 must be callable, got _")
    ∷ (43, "TypeError: map() argument 2 must be iterable, got _")
    ∷ (44, "TypeError: filter() argument 1 must be callable, got _")
    ∷ (45, "TypeError: filter() argument 2 must be iterable, got _")
    ∷ (46, "TypeError: list indices must be integers, not _")
    ∷ (47, "TypeError: dictionary key type mismatch: expected _, got _")
    ∷ (48, "TypeError: tuple indices must be integers, not _")
    ∷ (49, "TypeError: string indices must be integers, not _")
    ∷ (50, "TypeError: type '_' is not subscriptable")
    ∷ [])

unfoldable pub said : Piece → List ℕ
said (a_type t) = text t
said (a_text s) = s
said (a_number n) = decimal n

-- a template with its parts put in, in order: 95 is `_`
unfoldable pub fill : List ℕ → List Piece → List ℕ
fill [] ps = []
fill (c ∷ cs) [] = c ∷ fill cs []
fill (c ∷ cs) (p ∷ ps) =
    let put : List ℕ = said p ++ fill cs ps in
    let kept : List ℕ = c ∷ fill cs (p ∷ ps) in
    test eqb c 95 then put else kept

unfoldable pub message : Refusal → List ℕ
message r = fill (bytes (template r.code)) r.names

unfoldable pub message_open : Unit {0}
unfolding template said fill message
message_open = tt
