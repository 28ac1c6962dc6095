-- By the slot that is found or not.
use Rattle.std.proofs.Common.{sym, ◌∙◌, ap, eqb, ◌&&◌}
use Rattle.entity_index.specs.Slots.{unused}
use Rattle.entity_index.proofs.Readings.{slot_read, slot_missed, alive_at_slot}
use Rattle.entity_index.proofs.Soundness.{IsWellFormed-sound}
use Rattle.entity_index.proofs.index.SlotIndex.is_alive.Goals as goal

pub returns-then-slot-clause-answer : goal.returns-then-slot-clause-answer
returns-then-slot-clause-answer g c =
    let s = c.in-Some.slot.now in
    let found = c.in-Some.ensures.lookup in
    let at = slot_read _ c.self.inside.slots.items c.args.entity.index s c.deref.ensures.value found.0 found.1 in
    rw (← c.self.view_is, c.from.ensures) (sym (alive_at_slot c.self.inside.slots.items c.self.inside.places.items c.self.inside.last c.args.entity s at ∙ ap (λ b. b && eqb s.deletions c.args.entity.generation) c.if-slot.true))

pub returns-else-slot-clause-answer : goal.returns-else-slot-clause-answer
returns-else-slot-clause-answer g c =
    let s = c.in-Some.slot.now in
    let found = c.in-Some.ensures.lookup in
    let at = slot_read _ c.self.inside.slots.items c.args.entity.index s c.deref.ensures.value found.0 found.1 in
    rw (← c.self.view_is) (c.if-slot.false ∙ sym (alive_at_slot c.self.inside.slots.items c.self.inside.places.items c.self.inside.last c.args.entity s at ∙ ap (λ b. b && eqb s.deletions c.args.entity.generation) c.if-slot.false))

pub returns-in-None-clause-answer : goal.returns-in-None-clause-answer
returns-in-None-clause-answer g c =
    let at = slot_missed _ c.self.inside.slots.items c.args.entity.index c.get.result c.deref.ensures.value c.in-None.is c.get.ensures.lookup.0 in
    rw (← c.self.view_is) (sym (alive_at_slot c.self.inside.slots.items c.self.inside.places.items c.self.inside.last c.args.entity unused at))

pub returns-then-slot-clause-well_formed : goal.returns-then-slot-clause-well_formed
returns-then-slot-clause-well_formed g c = rw (← c.self.view_is) (IsWellFormed-sound c.self.inside.slots.items c.self.inside.places.items c.self.inside.free c.self.inside.last c.self.invariant)

pub returns-else-slot-clause-well_formed : goal.returns-else-slot-clause-well_formed
returns-else-slot-clause-well_formed g c = rw (← c.self.view_is) (IsWellFormed-sound c.self.inside.slots.items c.self.inside.places.items c.self.inside.free c.self.inside.last c.self.invariant)

pub returns-in-None-clause-well_formed : goal.returns-in-None-clause-well_formed
returns-in-None-clause-well_formed g c = rw (← c.self.view_is) (IsWellFormed-sound c.self.inside.slots.items c.self.inside.places.items c.self.inside.free c.self.inside.last c.self.invariant)
