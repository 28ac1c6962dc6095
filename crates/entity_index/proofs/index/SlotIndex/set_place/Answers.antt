-- A live entity has a slot and a place beside it.
use Rattle.std.proofs.Common.{refl, ◌∙◌, ap, arith, ◌≡◌, true, Some, None}
use Rattle.entity_index.specs.Entities.{is_alive}
use Rattle.entity_index.specs.Slots.{meaning, slot_at}
use Rattle.entity_index.proofs.EntryLists.{Changes-set}
use Rattle.entity_index.proofs.Meanings.{meaning-placed}
use Rattle.entity_index.proofs.Readings.{alive_within, alive_is_live}
use Rattle.entity_index.proofs.Soundness.{IsSound-place, IsWellFormed-sound}
use Rattle.entity_index.proofs.index.SlotIndex.set_place.Goals as goal

pub index_mut-requires : goal.index_mut-requires
index_mut-requires g c =
    let alive : is_alive (meaning c.self.inside.slots.items c.self.inside.places.items c.self.inside.last) c.args.entity ≡ true = ap (λ w. is_alive w c.args.entity) c.self.view_is ∙ c.requires in
    omega (arith, alive_within c.self.inside.slots.items c.self.inside.places.items c.self.inside.last c.args.entity alive, c.self.invariant.paired, c.self.inside.places.ok.0)

pub invariant_of-self : goal.invariant_of-self
invariant_of-self g c =
    let alive : is_alive (meaning c.self.inside.slots.items c.self.inside.places.items c.self.inside.last) c.args.entity ≡ true = ap (λ w. is_alive w c.args.entity) c.self.view_is ∙ c.requires in
    let i = c.args.entity.index in
    IsSound-place c.self.inside.slots.items c.self.inside.places.items c.self.inside.free c.self.inside.last c.self.invariant i (slot_at c.self.inside.slots.items i) refl (alive_is_live c.self.inside.slots.items c.self.inside.places.items c.self.inside.last c.args.entity _ refl alive) (alive_within c.self.inside.slots.items c.self.inside.places.items c.self.inside.last c.args.entity alive) c.new.result

pub returns-clause-placed : goal.returns-clause-placed
returns-clause-placed g c =
    let alive : is_alive (meaning c.self.inside.slots.items c.self.inside.places.items c.self.inside.last) c.args.entity ≡ true = ap (λ w. is_alive w c.args.entity) c.self.view_is ∙ c.requires in
    let within = alive_within c.self.inside.slots.items c.self.inside.places.items c.self.inside.last c.args.entity alive in
    rw (← c.new.ensures, ← c.self.view_is) (meaning-placed c.self.inside.slots.items c.self.inside.places.items _ c.self.inside.last c.args.entity.index c.new.result (Changes-set None c.self.inside.places.items c.args.entity.index (Some c.new.result) (omega (arith, within, c.self.invariant.paired))))

pub returns-clause-well_formed : goal.returns-clause-well_formed
returns-clause-well_formed g c = IsWellFormed-sound c.self.inside.slots.items _ c.self.inside.free c.self.inside.last (invariant_of-self g c)
