use Prim.Native.Nat.{◌+◌, ◌-◌}
use Rattle.meaning.specs.Read.{entries_in}
use Rattle.show.proofs.Merging.{ChangesLeft}
use Rattle.show.proofs.put_changes.Given as goal

abbrev pub invariant-loop-place : goal.invariant-loop-place
invariant-loop-place l = ChangesLeft (entries_in l.old.sheet.now) (entries_in l.new.sheet.now) l.initial.out l.out l.place

abbrev pub decreases-loop-place : goal.decreases-loop-place
decreases-loop-place l = l.all - (l.place.old + l.place.new)
