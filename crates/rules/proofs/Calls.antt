-- The rules of builtins, by what they do with the type of each argument.
use mathlib.Core.Path.{◌≡◌, refl}
use mathlib.Core.Bool.{true, false}
use mathlib.Core.List.{◌∷◌}
use Prim.Native.Nat.{ℕ}
use borrow.Author.Tests.{ne_eqb}
use lib.ListN.{length}
use Rattle.meaning.specs.Base.{test◌then◌else◌, base_open}
use Rattle.meaning.specs.Types.{unknown, string, map_iter, filter_iter}
use Rattle.meaning.specs.Operators.{Checked, ok, ◌>>=◌}
use Rattle.meaning.specs.Rules.{Children, child, input_rule, len_rule, range_rule, stream_rule}
use Rattle.rules.specs.Outcome.{types_named}
use Rattle.rules.specs.Leaves.{prompt_rule, sized_rule, bound_rule, callable_rule, stream_type, second_code, second_rule}

module _ (n : ℕ) (cs : Children) where
  pub input_one : length cs ≡ 1 → input_rule n cs ≡ ((child 0 cs).1 >>= prompt_rule n)
  unfolding input_rule test◌then◌else◌
  input_one e = rw e

  pub input_other : (length cs ≡ 1 → ⊥) → input_rule n cs ≡ ok string
  unfolding input_rule test◌then◌else◌
  input_other d = rw (ne_eqb (length cs) 1 d)

  pub len_first : len_rule n cs ≡ ((child 0 cs).1 >>= sized_rule n)
  unfolding len_rule
  len_first = refl

  pub range_next : (c : ℕ × Checked) → range_rule n (c ∷ cs) ≡ (c.1 >>= λ a. bound_rule n a >>= λ b. range_rule n cs)
  unfolding range_rule
  range_next c = refl

module _ (cs : Children) where
  pub map_two : stream_rule 42 (λ t. map_iter unknown) cs
      ≡ ((child 0 cs).1 >>= λ a. callable_rule 42 (child 0 cs).0 a >>= λ x. (child 1 cs).1 >>= λ b. second_rule false (child 1 cs).0 b)
  unfolding stream_rule stream_type second_code test◌then◌else◌
  map_two = refl

  pub filter_two : stream_rule 44 filter_iter cs
      ≡ ((child 0 cs).1 >>= λ a. callable_rule 44 (child 0 cs).0 a >>= λ x. (child 1 cs).1 >>= λ b. second_rule true (child 1 cs).0 b)
  unfolding stream_rule stream_type second_code test◌then◌else◌
  filter_two = refl

-- what `callable` asks
pub names_map : types_named 42 ≡ 1
unfolding types_named base_open
names_map = refl

pub names_filter : types_named 44 ≡ 1
unfolding types_named base_open
names_filter = refl
