use Rattle.types.proofs.Room.{fresh_filled}
use Rattle.types.specs.Table.{capacity}
use mathlib.Core.Path.{refl}
use Rattle.checker.proofs.Sheets.{reading_yes, reading_no}
use native.Mathlib.Omega.{arith}
use Rattle.checker.proofs.read_sheet.Goals as goal

pub read-requires : goal.read-requires
unfolding capacity
read-requires c =
    (refl, fresh_filled 12336 1 (omega arith) (omega arith) (omega arith))

pub returns-in-Some : goal.returns-in-Some
returns-in-Some c =
    reading_yes c.in-Some.ensures

pub returns-in-None : goal.returns-in-None
returns-in-None c =
    reading_no c.in-None.ensures
