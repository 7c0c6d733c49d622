-- The kinds of types as the code has them, and the numbers that stand for them: 0 to 7 are those of the plain types.
use Rattle.std.specs.Prelude.{◌≡◌, ℕ, ◌≤◌}
use Rattle.types.specs.declared.Kind.{Kind}
use Rattle.types.specs.declared.Kind.TheVariants as kind

abbrev pub kind_number : Kind → ℕ
kind_number kind.Unknown = 0
kind_number kind.Int = 1
kind_number kind.Bool = 2
kind_number kind.String = 3
kind_number kind.Float = 4
kind_number kind.NoneType = 5
kind_number kind.Range = 6
kind_number kind.Function = 7
kind_number kind.List = 8
kind_number kind.Dict = 9
kind_number kind.Tuple = 10
kind_number kind.MapIter = 11
kind_number kind.FilterIter = 12

-- k is the kind of the number n; what is no kind's number goes as the last one
pub record Numbered (n : ℕ) (k : Kind) : Type 0 where
  pub known : n ≤ 12 → n ≡ kind_number k
  pub tuple : k ≡ kind.Tuple → n ≡ 10
