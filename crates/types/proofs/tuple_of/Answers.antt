use mathlib.Core.Path.{refl, ap, ◌∙◌}
use Prim.Native.Nat.{◌+◌}
use native.Mathlib.Omega.{arith}
use Rattle.types.specs.Table.{slot_of}
use Rattle.types.proofs.Room.{capacity_within}
use Rattle.types.proofs.Pieces.{part_long}
use Rattle.types.proofs.Chains.{chains_of}
use Rattle.types.proofs.Searching.{told_yes, tuple_slot, slot_tested, found_tested, add_room}
use Rattle.types.proofs.Tuples.{copied, many, tuple_old, tuple_new}
use Rattle.types.proofs.tuple_of.Goals as goal

pub find-requires-clause-chains : goal.find-requires-clause-chains
find-requires-clause-chains c =
    chains_of _ _ c.requires.wf.chained

pub find-requires-clause-slot : goal.find-requires-clause-slot
find-requires-clause-slot c =
    slot_tested (λ i h q. rw part_long at (q.yes refl)) (tuple_slot c.requires (c.slot_of-slot.ensures ∙ ap (slot_of _) (rw part_long at c.hash_of.ensures)))

pub returns-in-Some : goal.returns-in-Some
returns-in-Some c =
    tuple_old _ _ _ _ c.requires (found_tested (λ i h q. rw part_long at (q.yes refl)) (λ i h q. told_yes (rw part_long q)) c.find.ensures) c.in-Some.is

pub add-requires : goal.add-requires
add-requires c =
    add_room _ c.copy.auto.table c.requires.wf c.requires.room (tuple_slot c.requires (c.slot_of-slot.ensures ∙ ap (slot_of _) (rw part_long at c.hash_of.ensures)))

pub returns : goal.returns
returns c =
    tuple_new _ _ _ _ c.requires (found_tested (λ i h q. rw part_long at (q.yes refl)) (λ i h q. told_yes (rw part_long q)) c.find.ensures) c.in_default.is
    (c.slot_of-slot.ensures ∙ ap (slot_of _) (rw part_long at c.hash_of.ensures))
    (copied _ (ap (λ x. x + c.args.counts.elements) c.base-first.ensures) (rw part_long at c.copy.ensures) (many _ _ _ _ c.requires)
    (omega (arith, c.requires.space, capacity_within c.args.table.now)))
    c.add.ensures
