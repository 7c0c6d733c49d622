use Rattle.types.proofs.Chains.{chains_of, record_slot}
use Rattle.types.proofs.Searching.{told_yes, form_slot, slot_tested, found_tested, add_room}
use Rattle.types.proofs.Forming.{form_old, form_new}
use mathlib.Core.Path.{refl}
use Rattle.types.proofs.form.Goals as goal

pub find-requires-clause-chains : goal.find-requires-clause-chains
find-requires-clause-chains c =
    chains_of _ _ c.requires.wf.chained

pub find-requires-clause-slot : goal.find-requires-clause-slot
find-requires-clause-slot c =
    let a = rw (← c.number-number.ensures) at c.requires in
    slot_tested (λ i h q. q.yes refl) (form_slot a (record_slot _ _ _ _ c.mixed.ensures.0 c.mixed-2.ensures.0 c.slot_of-slot.ensures))

pub add-requires : goal.add-requires
add-requires c =
    let a = rw (← c.number-number.ensures) at c.requires in
    add_room _ refl c.requires.wf c.requires.room (form_slot a (record_slot _ _ _ _ c.mixed.ensures.0 c.mixed-2.ensures.0 c.slot_of-slot.ensures))

pub returns-in-Some : goal.returns-in-Some
returns-in-Some c =
    let a = rw (← c.number-number.ensures) at c.requires in
    rw (← c.number-number.ensures) (form_old _ _ _ _ a (found_tested (λ i h q. q.yes refl) (λ i h q. told_yes q) c.find.ensures) c.in-Some.is)

pub returns : goal.returns
returns c =
    let a = rw (← c.number-number.ensures) at c.requires in
    rw (← c.number-number.ensures) (form_new _ _ _ _ a (found_tested (λ i h q. q.yes refl) (λ i h q. told_yes q) c.find.ensures) c.in_default.is (record_slot _ _ _ _ c.mixed.ensures.0 c.mixed-2.ensures.0 c.slot_of-slot.ensures) c.add.ensures)
