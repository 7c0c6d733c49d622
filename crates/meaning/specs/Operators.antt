-- Operators. Their answers go by the kinds of their operands, but for == and != of two structured types of one kind: there the whole
-- types are compared. So 14 x 13 x 13 numbers say it all.
use Rattle.std.specs.Prelude.{Bool, List, [], ◌∷◌, ℕ, eqb, ltb}
use Rattle.meaning.specs.Base.{◌and◌, ◌or◌, test◌then◌else◌, is_in}
use Rattle.meaning.specs.Types.{Ty, unknown, int, bool, string, float, same, kind, plain}
use Rattle.meaning.specs.Tree.{UnaryOp, not_op, negate, pos, BinaryOp, add, subtract, multiply, divide, floor_divide, modulo, equal, not_equal, less, less_equal, greater, greater_equal, and_op, or_op}
use Rattle.meaning.specs.Message.{Piece, a_type, Refusal, refusal}

-- ---- what checking an expression gives

pub data Checked : Type 0 where
  ok : Ty → Checked
  refused : Refusal → Checked

infixl 20 ◌>>=◌
unfoldable pub ◌>>=◌ : Checked → (Ty → Checked) → Checked
ok t >>= k = k t
refused r >>= k = refused r

-- t if the test holds, else code c at node n
unfoldable pub when : Bool → Ty → ℕ → ℕ → List Piece → Checked
when b t c n ps = test b then ok t else refused (refusal c n ps)

-- ---- T's pairs of operands with their result; all are plain types

abbrev pub Rows : Type 0
Rows = List (Ty × Ty × Ty)

unfoldable pub numbers : Rows
numbers =
    (int, int, int) ∷ (float, float, float) ∷ (int, float, float) ∷ (float, int, float) ∷ (unknown, int, int) ∷ (int, unknown, int)
    ∷ (unknown, float, float) ∷ (float, unknown, float) ∷ (unknown, unknown, unknown) ∷ []

-- "Unknown passes `+` and `*` only beside Int, Float, String or Unknown."
unfoldable pub sums : Rows
sums = (string, string, string) ∷ (unknown, string, string) ∷ (string, unknown, string) ∷ numbers

unfoldable pub products : Rows
products = (string, int, string) ∷ (int, string, string) ∷ (unknown, string, string) ∷ (string, unknown, string) ∷ numbers

-- ---- answers: a plain type's number, 8 for "compare the whole types", or a code

abbrev pub whole_types : ℕ
whole_types = 8

-- the result for kinds a and b, or code c
unfoldable pub by_rows : ℕ → Rows → ℕ → ℕ → ℕ
by_rows c [] a b = c
by_rows c (r ∷ rs) a b =
    let later = by_rows c rs a b in test eqb a (kind r.0) and eqb b (kind r.1) then kind r.2 else later

-- a result that is there becomes r
unfoldable pub instead : ℕ → ℕ → ℕ
instead r x = test ltb x whole_types then r else x

-- Unknown equals anything, Int and Float each other, and else only equal types do
unfoldable pub equated : ℕ → ℕ → ℕ
equated a b =
    test eqb a (kind unknown) or eqb b (kind unknown) or eqb a (kind int) and eqb b (kind float) or eqb a (kind float) and eqb b (kind int)
    then kind bool
    else test eqb a b then (test ltb a whole_types then kind bool else whole_types) else 32

unfoldable pub operator_answer : BinaryOp → ℕ → ℕ → ℕ
operator_answer add a b = by_rows 29 sums a b
operator_answer subtract a b = by_rows 33 numbers a b
operator_answer multiply a b = by_rows 30 products a b
operator_answer divide a b = instead (kind float) (by_rows 33 numbers a b)
operator_answer floor_divide a b = by_rows 33 numbers a b
operator_answer modulo a b = by_rows 33 numbers a b
operator_answer equal a b = equated a b
operator_answer not_equal a b = equated a b
operator_answer less a b = instead (kind bool) (by_rows 31 sums a b)
operator_answer less_equal a b = instead (kind bool) (by_rows 31 sums a b)
operator_answer greater a b = instead (kind bool) (by_rows 31 sums a b)
operator_answer greater_equal a b = instead (kind bool) (by_rows 31 sums a b)
operator_answer and_op a b = kind bool
operator_answer or_op a b = kind bool

-- "`not` of Unknown is Bool"
unfoldable pub unary_answer : UnaryOp → ℕ → ℕ
unary_answer not_op a = test is_in a (kind bool ∷ kind unknown ∷ []) then kind bool else 35
unary_answer negate a = test is_in a (kind int ∷ kind float ∷ kind unknown ∷ []) then a else 34
unary_answer pos a = test is_in a (kind int ∷ kind float ∷ kind unknown ∷ []) then a else 34

-- ---- the rules, at node n

-- what an answer x means for operands of types a and b
unfoldable pub answered : ℕ → Ty → Ty → ℕ → Checked
answered n a b x =
    let both : List Piece = a_type a ∷ a_type b ∷ [] in
    test ltb x whole_types then ok (plain x) else test eqb x whole_types then when (same a b) bool 32 n both else refused (refusal x n both)

unfoldable pub binary_rule : ℕ → BinaryOp → Ty → Ty → Checked
binary_rule n o a b = answered n a b (operator_answer o (kind a) (kind b))

unfoldable pub unary_rule : ℕ → UnaryOp → Ty → Checked
unary_rule n o t =
    let x : ℕ = unary_answer o (kind t) in test ltb x whole_types then ok (plain x) else refused (refusal x n (a_type t ∷ []))

unfoldable pub operators_open : Unit {0}
unfolding ◌>>=◌ when numbers sums products by_rows instead equated operator_answer unary_answer answered binary_rule unary_rule
operators_open = tt
