use Rattle.sheet.proofs.Whole.{meeting, walked, own_marked, walked_short, filling, wrote_not, wrote_all}
use Rattle.sheet.proofs.Names.{size_small}
use mathlib.Core.Path.{refl}
use Prim.Native.Nat.{ℕ}
use lib.ListN.{length-replicate}
use Rattle.meaning.specs.Limits.{most_types}
use native.Mathlib.Omega.{arith}
use Rattle.sheet.proofs.writer.write.Goals as goal

pub meet_all-requires : goal.meet_all-requires
meet_all-requires c =
    meeting c.requires (omega arith) (record { numbers = refl; order_long = length-replicate {A = ℕ} most_types 1; none = refl; counts = refl })

pub elements_of-requires : goal.elements_of-requires
elements_of-requires c =
    own_marked (walked c.requires (omega arith) (record { numbers = refl; order_long = length-replicate {A = ℕ} most_types 1; none = refl; counts = refl }) c.meet_all.ensures)

pub size_of-size-requires : goal.size_of-size-requires
size_of-size-requires c =
    (walked_short (walked c.requires (omega arith) (record { numbers = refl; order_long = length-replicate {A = ℕ} most_types 1; none = refl; counts = refl }) c.meet_all.ensures)).few

pub overflow_add-total : goal.overflow_add-total
overflow_add-total c =
    omega (arith, size_small (walked_short (walked c.requires (omega arith) (record { numbers = refl; order_long = length-replicate {A = ℕ} most_types 1; none = refl; counts = refl }) c.meet_all.ensures)))

pub returns-then-out-total : goal.returns-then-out-total
returns-then-out-total c =
    wrote_not (walked c.requires (omega arith) (record { numbers = refl; order_long = length-replicate {A = ℕ} most_types 1; none = refl; counts = refl }) c.meet_all.ensures) (c.elements_of.ensures.value, c.elements_of.ensures.upper_bound) c.size_of-size.ensures (omega arith) _ c.if-out-total.true

pub fill-requires : goal.fill-requires
fill-requires c =
    filling (walked c.requires (omega arith) (record { numbers = refl; order_long = length-replicate {A = ℕ} most_types 1; none = refl; counts = refl }) c.meet_all.ensures) refl c.elements_of.ensures.value refl c.size_of-size.ensures (omega arith)

pub returns : goal.returns
returns c =
    wrote_all (walked c.requires (omega arith) (record { numbers = refl; order_long = length-replicate {A = ℕ} most_types 1; none = refl; counts = refl }) c.meet_all.ensures) (c.elements_of.ensures.value, c.elements_of.ensures.upper_bound) c.size_of-size.ensures (omega arith) _ _ (λ h. absurd (omega (arith, c.if-out-total.false))) c.fill.ensures
