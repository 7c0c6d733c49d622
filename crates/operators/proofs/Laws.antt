-- What an answer means. Callers use these laws and never the text of the definitions.
use mathlib.Core.Path.{◌≡◌, refl, ◌∙◌}
use mathlib.Core.Bool.{Bool}
use mathlib.Core.Logic.{⊎_elim}
use mathlib.Core.List.{[], ◌∷◌}
use Prim.Native.Nat.{ℕ, ◌≤◌, ◌<◌}
use native.Mathlib.Omega.{arith}
use borrow.Author.Tests.{eqb-true, lt-ltb, le-ltb, ne_eqb}
use lib.Dec.{eqb}
use Rattle.meaning.specs.Base.{test◌then◌else◌, base_open}
use Rattle.meaning.specs.Types.{Ty, unknown, int, bool, string, float, nonetype, range, function, list, dict, tuple, map_iter, filter_iter, same, kind, plain, types_open}
use Rattle.meaning.specs.Tree.{BinaryOp, add, subtract, multiply, divide, floor_divide, modulo, equal, not_equal, less, less_equal, greater, greater_equal, and_op, or_op}
use Rattle.meaning.specs.Image.{image_open}
use Rattle.meaning.specs.Decode.{binary_of, unary_of}
use Rattle.meaning.specs.Message.{a_type, refusal}
use Rattle.meaning.specs.Operators.{ok, refused, when, operator_answer, unary_answer, answered, binary_rule, unary_rule, operators_open}
use Rattle.meaning.proofs.Operators.{answer_range, unary_range}
use Rattle.operators.proofs.AllKinds.{OfAll, of_each}

-- ---- kinds

-- so a type's kind is one that the lookups take
pub kind_below : (t : Ty) → kind t < 13
unfolding kind
kind_below unknown = omega arith
kind_below int = omega arith
kind_below bool = omega arith
kind_below string = omega arith
kind_below float = omega arith
kind_below nonetype = omega arith
kind_below range = omega arith
kind_below function = omega arith
kind_below (list t) = omega arith
kind_below (dict k v) = omega arith
kind_below (tuple ts) = omega arith
kind_below (map_iter t) = omega arith
kind_below (filter_iter t) = omega arith

-- ---- two operands

-- what the rule at node n gives for operands of types a and b where the answer is x
pub record BinaryMeans (n op : ℕ) (a b : Ty) (x : ℕ) : Type 0 where
  pub gives : x < 8 → binary_rule n (binary_of op) a b ≡ ok (plain x)
  pub compares : x ≡ 8 → binary_rule n (binary_of op) a b ≡ when (same a b) bool 32 n (a_type a ∷ a_type b ∷ [])
  pub refuses : 8 < x → binary_rule n (binary_of op) a b ≡ refused (refusal x n (a_type a ∷ a_type b ∷ []))
  pub code : 8 < x → (29 ≤ x) × (x ≤ 33)

answered_plain : (n x : ℕ) (a b : Ty) → x < 8 → answered n a b x ≡ ok (plain x)
unfolding answered test◌then◌else◌
answered_plain n x a b h = rw (lt-ltb x 8 h)

answered_whole : (n x : ℕ) (a b : Ty) → x ≡ 8 → answered n a b x ≡ when (same a b) bool 32 n (a_type a ∷ a_type b ∷ [])
unfolding answered test◌then◌else◌
answered_whole n x a b h = rw h

answered_code : (n x : ℕ) (a b : Ty) → 8 < x → answered n a b x ≡ refused (refusal x n (a_type a ∷ a_type b ∷ []))
unfolding answered test◌then◌else◌
answered_code n x a b h = rw (le-ltb x 8 (omega arith), ne_eqb x 8 (λ e. omega arith))

pub binary_means : {l r x : ℕ} (n op : ℕ) (a b : Ty) → l ≡ kind a → r ≡ kind b → x ≡ operator_answer (binary_of op) l r
    → BinaryMeans n op a b x
unfolding binary_rule
binary_means {l} {r} {x} n op a b p q e =
    let s : answered n a b (operator_answer (binary_of op) (kind a) (kind b)) ≡ answered n a b x = rw (e, p, q) in
    record {
      gives = λ h. s ∙ answered_plain n x a b h;
      compares = λ h. s ∙ answered_whole n x a b h;
      refuses = λ h. s ∙ answered_code n x a b h;
      code = λ h. ⊎_elim (λ u. absurd (omega arith)) (λ u. (omega arith, omega arith)) (answer_range (binary_of op) l r).says;
    }

-- ---- one operand

pub record UnaryMeans (n op : ℕ) (t : Ty) (x : ℕ) : Type 0 where
  pub gives : x < 8 → unary_rule n (unary_of op) t ≡ ok (plain x)
  pub refuses : 8 ≤ x → unary_rule n (unary_of op) t ≡ refused (refusal x n (a_type t ∷ []))
  pub code : 8 ≤ x → (34 ≤ x) × (x ≤ 35)

pub unary_means : {k x : ℕ} (n op : ℕ) (t : Ty) → k ≡ kind t → x ≡ unary_answer (unary_of op) k → UnaryMeans n op t x
unfolding unary_rule test◌then◌else◌
unary_means {k} {x} n op t p e =
    let s : unary_answer (unary_of op) (kind t) ≡ x = rw (e, p) in
    record {
      gives = λ h. rw (s, lt-ltb x 8 h);
      refuses = λ h. rw (s, le-ltb x 8 h);
      code = λ h. ⊎_elim (λ u. absurd (omega arith)) (λ u. (omega arith, omega arith)) (unary_range (unary_of op) k).says;
    }

-- ---- operands changed round

-- the answer for two kinds, and for those kinds changed round
turned : BinaryOp → ℕ → ℕ → Bool
turned o a b = eqb (operator_answer o a b) (operator_answer o b a)

all_turned : (o : BinaryOp) → OfAll (turned o)
unfolding turned base_open types_open image_open operators_open
all_turned add = refl
all_turned subtract = refl
all_turned multiply = refl
all_turned divide = refl
all_turned floor_divide = refl
all_turned modulo = refl
all_turned equal = refl
all_turned not_equal = refl
all_turned less = refl
all_turned less_equal = refl
all_turned greater = refl
all_turned greater_equal = refl
all_turned and_op = refl
all_turned or_op = refl

pub symmetric : (o : BinaryOp) (a b : ℕ) → a < 13 → b < 13 → operator_answer o a b ≡ operator_answer o b a
unfolding turned
symmetric o a b ha hb = eqb-true _ _ (of_each (turned o) (all_turned o) a b ha hb)
