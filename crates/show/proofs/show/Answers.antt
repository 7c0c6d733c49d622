use mathlib.Core.Path.{refl}
use Rattle.types.specs.Table.{capacity}
use Rattle.types.proofs.Room.{fresh_filled}
use Rattle.show.proofs.Whole.{not_shown, shown_room, shown_all, front_is}
use native.Mathlib.Omega.{arith}
use Rattle.show.proofs.show.Goals as goal

pub read-requires : goal.read-requires
unfolding capacity
read-requires c = (refl, fresh_filled 12336 1 (omega arith) (omega arith) (omega arith))

pub returns-in_default : goal.returns-in_default
returns-in_default c = not_shown c.in_default.ensures _ _

pub put_entries-n-requires : goal.put_entries-n-requires
put_entries-n-requires c = shown_room c.in-Some.ensures

pub returns : goal.returns
returns c = rw (shown_all c.in-Some.ensures _ (front_is c.put_entries-n.ensures)) c.deliver.ensures
