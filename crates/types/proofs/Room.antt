-- How many records, elements and slots the cells have room for, and which cells a table may be started in.
use mathlib.Core.Path.{◌≡◌}
use mathlib.Core.List.{List}
use Prim.Native.Nat.{ℕ, suc, ◌*◌, ◌≤◌, ◌<◌}
use native.Mathlib.Omega.{arith}
use lib.ListN.{length, get_or, replicate, length-replicate, get_or-replicate}
use Rattle.types.specs.Layout.{link_cell, slots_from, slots_end}
use Rattle.types.specs.Table.{most_numbers, capacity, Fresh}

-- five cells for a record and an element
pub capacity_within : (cs : List ℕ) → slots_from cs ≤ length cs
unfolding capacity
capacity_within cs = omega arith

-- and one for a slot
pub slots_within : (cs : List ℕ) → slots_end cs ≤ length cs
unfolding capacity
slots_within cs = omega arith

pub capacity_as : (cs ds : List ℕ) → length ds ≡ length cs → capacity ds ≡ capacity cs
unfolding capacity
capacity_as cs ds e = rw e

-- the cells of record i are there
pub record_within : (cs : List ℕ) {i : ℕ} → i < capacity cs → link_cell i < length cs
record_within cs h = omega (arith, capacity_within cs)

-- cells filled with one number below 8, as 1
pub fresh_filled : (k v : ℕ) → 6 * 8 ≤ k → k < 6 * suc most_numbers → v < 8 → Fresh (replicate k v)
unfolding capacity
fresh_filled k v l m h =
    let long : length (replicate k v) ≡ k = length-replicate k v in
    record {
      room = omega arith;
      most = omega arith;
      heads = λ x a b.
          let e : get_or (replicate k v) x 0 ≡ v = get_or-replicate k x v 0 (omega (arith, slots_within (replicate k v))) in
          omega arith;
    }
