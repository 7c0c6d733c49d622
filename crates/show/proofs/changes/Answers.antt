use mathlib.Core.Path.{refl}
use Rattle.types.specs.Table.{capacity}
use Rattle.types.proofs.Room.{fresh_filled}
use Rattle.show.proofs.Whole.{old_none, new_none, changes_room, changes_all, front_is}
use native.Mathlib.Omega.{arith}
use Rattle.show.proofs.changes.Goals as goal

pub read-requires : goal.read-requires
unfolding capacity
read-requires c = (refl, fresh_filled 12336 1 (omega arith) (omega arith) (omega arith))

pub returns-in_default : goal.returns-in_default
returns-in_default c = old_none c.in_default.ensures _ _ _

pub read-requires-2 : goal.read-requires-2
unfolding capacity
read-requires-2 c = (refl, fresh_filled 12336 1 (omega arith) (omega arith) (omega arith))

pub returns-in_default-read : goal.returns-in_default-read
returns-in_default-read c = new_none c.in_default-read.ensures _ _ _

pub put_changes-n-requires : goal.put_changes-n-requires
put_changes-n-requires c = changes_room c.in-Some.ensures c.in-Some-read.ensures

pub returns : goal.returns
returns c = rw (changes_all c.in-Some.ensures c.in-Some-read.ensures _ (front_is c.put_changes-n.ensures)) c.deliver.ensures
