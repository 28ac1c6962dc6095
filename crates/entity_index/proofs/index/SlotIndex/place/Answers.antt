-- A live entity has a place beside its slot.
use Rattle.std.proofs.Common.{sym, ◌∙◌, ap, arith, ◌≡◌, true, None}
use Rattle.std.proofs.lemmas.List.{get_or_default}
use Rattle.entity_index.specs.Entities.{is_alive}
use Rattle.entity_index.specs.Slots.{meaning}
use Rattle.entity_index.proofs.Readings.{alive_within, place_at_slot}
use Rattle.entity_index.proofs.index.SlotIndex.place.Goals as goal

pub index-requires : goal.index-requires
index-requires g c =
    let alive : is_alive (meaning c.self.inside.slots.items c.self.inside.places.items c.self.inside.last) c.args.entity ≡ true = ap (λ w. is_alive w c.args.entity) c.self.view_is ∙ sym c.if-is_alive.ensures.answer in
    omega (arith, alive_within c.self.inside.slots.items c.self.inside.places.items c.self.inside.last c.args.entity alive, c.self.invariant.paired, c.self.inside.places.ok.0)

pub returns-then-is_alive : goal.returns-then-is_alive
returns-then-is_alive g c =
    let alive : is_alive (meaning c.self.inside.slots.items c.self.inside.places.items c.self.inside.last) c.args.entity ≡ true = ap (λ w. is_alive w c.args.entity) c.self.view_is ∙ sym c.if-is_alive.ensures.answer in
    let within = alive_within c.self.inside.slots.items c.self.inside.places.items c.self.inside.last c.args.entity alive in
    let read = c.unpacked.ensures ∙ c.index.ensures ∙ get_or_default c.self.inside.places.items c.args.entity.index c.index.result.now None (omega (arith, within, c.self.invariant.paired)) in
    rw (← c.self.view_is) (read ∙ sym (place_at_slot c.self.inside.slots.items c.self.inside.places.items c.self.inside.last c.args.entity alive))
