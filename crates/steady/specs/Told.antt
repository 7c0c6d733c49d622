-- What an answer of this crate says, in the words of `meaning`.
use Rattle.std.specs.Prelude.{Option, Some, None, Result, Ok, Err}
use Rattle.meaning.specs.Known.{Steadiness, steady, def_in_if, faulty}
use Rattle.image.specs.Outcome.{fault_in}
use Rattle.image.specs.declared.Fault.{Fault}
use Rattle.steady.specs.declared.Def.{Def}

-- a well-formed image's first Def inside an If, if it has one
abbrev pub told_of : Option Def → Steadiness
told_of None = steady
told_of (Some d) = def_in_if d.node d.begins d.ends

abbrev pub meant : Result (Option Def) Fault → Steadiness
meant (Ok o) = told_of o
meant (Err f) = faulty (fault_in f)
