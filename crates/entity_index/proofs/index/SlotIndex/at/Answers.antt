-- By the slot that is found or not.
use Rattle.std.proofs.Common.{refl, ◌∙◌}
use Rattle.entity_index.specs.Slots.{unused}
use Rattle.entity_index.proofs.Readings.{slot_read, slot_missed, entity_live, entity_dead}
use Rattle.entity_index.proofs.index.SlotIndex.at.Goals as goal

pub returns-in_err-slot : goal.returns-in_err-slot
returns-in_err-slot g c =
    let at = slot_missed _ c.self.inside.slots.items c.args.index c.get.result c.deref.ensures.value c.in_err-slot.was c.get.ensures.lookup.0 in
    rw (← c.self.view_is) (c.from_residual.ensures ∙ entity_dead c.self.inside.slots.items c.self.inside.places.items c.self.inside.last c.args.index unused at refl)

pub returns-then-not-slot : goal.returns-then-not-slot
returns-then-not-slot g c =
    let s = c.in_ok-slot.slot.now in
    let found = c.in_ok-slot.ensures.lookup in
    let at = slot_read _ c.self.inside.slots.items c.args.index s c.deref.ensures.value found.0 found.1 in
    rw (← c.self.view_is) (entity_dead c.self.inside.slots.items c.self.inside.places.items c.self.inside.last c.args.index s at c.if-not-slot.true)

pub returns : goal.returns
returns g c =
    let s = c.in_ok-slot.slot.now in
    let found = c.in_ok-slot.ensures.lookup in
    let at = slot_read _ c.self.inside.slots.items c.args.index s c.deref.ensures.value found.0 found.1 in
    rw (← c.self.view_is) (entity_live c.self.inside.slots.items c.self.inside.places.items c.self.inside.last c.args.index s at c.if-not-slot.false)
