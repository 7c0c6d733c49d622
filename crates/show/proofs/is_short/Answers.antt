use Prim.Native.Nat.{ℕ}
use lib.ListN.{length-replicate}
use Rattle.types.specs.Table.{most_numbers}
use Rattle.show.proofs.Lines.{short_told}
use native.Mathlib.Omega.{arith}
use Rattle.show.proofs.is_short.Goals as goal

pub overflow_add-i : goal.overflow_add-i
overflow_add-i c =
    omega (arith, c.requires.most)

pub measure-requires-clause-all_known : goal.measure-requires-clause-all_known
measure-requires-clause-all_known c =
    c.requires

pub measure-requires-clause-types_in_bounds : goal.measure-requires-clause-types_in_bounds
measure-requires-clause-types_in_bounds c =
    omega (arith, c.requires.most, length-replicate {A = ℕ} most_numbers 1)

pub bounds-lens-i : goal.bounds-lens-i
bounds-lens-i c =
    omega (arith, c.requires.most)

pub returns : goal.returns
returns c =
    short_told c.measure.ensures (omega arith)
