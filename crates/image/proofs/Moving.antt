-- Where a cursor stands after it has moved.
use mathlib.Core.Path.{◌≡◌}
use mathlib.Core.List.{List}
use Prim.Native.Nat.{ℕ, ◌+◌, ◌-◌}
use native.Mathlib.Omega.{arith}
use Rattle.meaning.specs.Image.{nodes_of, node_of}
use Rattle.meaning.specs.Decode.{stop_of}
use Rattle.image.specs.Parts.{Moved}
use Rattle.image.specs.declared.Cursor.{Cursor}
use Rattle.image.specs.declared.Read.{Read}

-- at a first child: it tells its parent
pub parent_of : {bs : List ℕ} {c : Cursor} {r : Read} → Moved bs c r (c.at + 1) → r.cursor.at - 1 ≡ c.at
parent_of m = omega (arith, m.at)

-- behind a node: where that ends
pub stops : {bs : List ℕ} {c : Cursor} {r : Read} → Moved bs c r (node_of (nodes_of bs) c.at).stop → r.cursor.at ≡ stop_of (nodes_of bs) c.at
unfolding stop_of
stops m = m.at
