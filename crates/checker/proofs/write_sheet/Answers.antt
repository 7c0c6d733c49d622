use Rattle.types.proofs.Room.{fresh_filled}
use Rattle.types.specs.Table.{capacity}
use mathlib.Core.Path.{refl}
use Rattle.checker.proofs.Sheets.{not_read, relaid_as}
use native.Mathlib.Omega.{arith}
use Rattle.checker.proofs.write_sheet.Goals as goal

pub read-requires : goal.read-requires
unfolding capacity
read-requires c =
    (refl, fresh_filled 12336 1 (omega arith) (omega arith) (omega arith))

pub returns-in_default : goal.returns-in_default
returns-in_default c =
    not_read c.in_default.ensures

pub returns : goal.returns
returns c =
    let x = c.in-Some.ensures in
    rw c.ok_or.ensures.value (relaid_as x _ c.write.ensures)
