-- How much a sheet may hold besides the limits.
use Rattle.std.specs.Prelude.{ℕ, ◌*◌}
use Rattle.meaning.specs.Limits.{most_types}
use Rattle.types.specs.Table.{most_numbers}

-- no type has more elements than there are numbers, so a sheet's types have no more than this
abbrev pub most_written : ℕ
most_written = most_types * most_numbers
