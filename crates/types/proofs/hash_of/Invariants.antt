use mathlib.Core.Path.{◌≡◌}
use Prim.Native.Nat.{◌<◌}
use lib.ListN.{take}
use Rattle.types.specs.Table.{tuple_hash}
use Rattle.types.proofs.hash_of.Given as goal

abbrev pub invariant-loop-e : goal.invariant-loop-e
invariant-loop-e l = record { small : l.h < 4093; so_far : l.h ≡ tuple_hash (take l.e-index l.elements) }
