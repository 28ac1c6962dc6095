-- A live entity's slot is vacant or retired.
use Rattle.std.proofs.Common.{refl, sym, ◌∙◌, ap, arith, subst, ◌≡◌, true}
use Rattle.entity_index.specs.Entities.{is_alive}
use Rattle.entity_index.specs.Slots.{meaning, IsSound}
use Rattle.entity_index.proofs.Readings.{alive_within}
use Rattle.entity_index.proofs.Soundness.{IsWellFormed-sound}
use Rattle.entity_index.proofs.DeletedIndexes.{deleted_fits, deleted_room, deleted_means, deleted_sound, retired_sound}
use Rattle.entity_index.proofs.index.SlotIndex.delete.Goals as goal
use Rattle.entity_index.proofs.index.SlotIndex.delete.Goals.{then-slot-lt-GENERATIONS, else-slot-lt-GENERATIONS}

pub index_mut-requires : goal.index_mut-requires
index_mut-requires g c =
    let alive : is_alive (meaning c.self.inside.slots.items c.self.inside.places.items c.self.inside.last) c.args.entity ≡ true = ap (λ w. is_alive w c.args.entity) c.self.view_is ∙ sym c.is_alive.ensures.answer ∙ c.if-not-is_alive.false in
    omega (arith, alive_within c.self.inside.slots.items c.self.inside.places.items c.self.inside.last c.args.entity alive, c.self.invariant.paired, c.self.inside.places.ok.0)

pub index_mut-slot-requires : goal.index_mut-slot-requires
index_mut-slot-requires g c =
    let alive : is_alive (meaning c.self.inside.slots.items c.self.inside.places.items c.self.inside.last) c.args.entity ≡ true = ap (λ w. is_alive w c.args.entity) c.self.view_is ∙ sym c.is_alive.ensures.answer ∙ c.if-not-is_alive.false in
    omega (arith, alive_within c.self.inside.slots.items c.self.inside.places.items c.self.inside.last c.args.entity alive, c.self.inside.slots.ok.0)

pub overflow_add-slot : goal.overflow_add-slot
overflow_add-slot g c =
    let alive : is_alive (meaning c.self.inside.slots.items c.self.inside.places.items c.self.inside.last) c.args.entity ≡ true = ap (λ w. is_alive w c.args.entity) c.self.view_is ∙ sym c.is_alive.ensures.answer ∙ c.if-not-is_alive.false in
    omega (arith, deleted_fits c.self.inside.slots.items c.self.inside.places.items c.self.inside.free c.self.inside.last c.self.invariant c.args.entity alive c.index_mut-slot.result.now c.index_mut-slot.ensures.value)

pub unwrap-requires : goal.unwrap-requires
unwrap-requires g c =
    let alive : is_alive (meaning c.self.inside.slots.items c.self.inside.places.items c.self.inside.last) c.args.entity ≡ true = ap (λ w. is_alive w c.args.entity) c.self.view_is ∙ sym c.is_alive.ensures.answer ∙ c.if-not-is_alive.false in
    c.push.ensures.succeeds (deleted_room c.self.inside.slots.items c.self.inside.places.items c.self.inside.free c.self.inside.last c.self.invariant c.args.entity alive c.index_mut-slot.result.now c.index_mut-slot.ensures.value)

pub invariant_of-self : goal.invariant_of-self
invariant_of-self g c =
    let alive : is_alive (meaning c.self.inside.slots.items c.self.inside.places.items c.self.inside.last) c.args.entity ≡ true = ap (λ w. is_alive w c.args.entity) c.self.view_is ∙ sym c.is_alive.ensures.answer ∙ c.if-not-is_alive.false in
    elim c.if-slot-lt-GENERATIONS.branch [
      | then-slot-lt-GENERATIONS w ↦ subst (λ i. IsSound i.slots.items i.places.items i.free i.last) (sym w.self-inside-is) (deleted_sound c.self.inside.slots.items c.self.inside.places.items c.self.inside.free c.self.inside.last c.self.invariant c.args.entity alive c.index_mut-slot.result.now c.index_mut-slot.ensures.value c.if-entity-lt-FIRST_INDEX.false w.push.new.self _ refl w.if-slot-lt-GENERATIONS.true
          (rw w.unwrap.ensures at w.push.ensures.permutation) (rw w.unwrap.ensures at w.push.ensures.heap_order) (rw w.unwrap.ensures at w.push.ensures.len) w.push.ensures.capacity)
      | else-slot-lt-GENERATIONS w ↦ subst (λ i. IsSound i.slots.items i.places.items i.free i.last) (sym w.self-inside-is) (retired_sound c.self.inside.slots.items c.self.inside.places.items c.self.inside.free c.self.inside.last c.self.invariant c.args.entity alive c.index_mut-slot.result.now c.index_mut-slot.ensures.value c.if-entity-lt-FIRST_INDEX.false w.if-slot-lt-GENERATIONS.false)
    ]

pub returns-clause-deleted : goal.returns-clause-deleted
returns-clause-deleted g c =
    let alive : is_alive (meaning c.self.inside.slots.items c.self.inside.places.items c.self.inside.last) c.args.entity ≡ true = ap (λ w. is_alive w c.args.entity) c.self.view_is ∙ sym c.is_alive.ensures.answer ∙ c.if-not-is_alive.false in
    let means = deleted_means c.self.inside.slots.items c.self.inside.places.items c.self.inside.free c.self.inside.last c.self.invariant c.args.entity alive c.index_mut-slot.result.now c.index_mut-slot.ensures.value in
    rw (← c.self.view_is) (elim c.if-slot-lt-GENERATIONS.branch [
      | then-slot-lt-GENERATIONS w ↦ ap (λ i. meaning i.slots.items i.places.items i.last) w.self-inside-is ∙ means
      | else-slot-lt-GENERATIONS w ↦ ap (λ i. meaning i.slots.items i.places.items i.last) w.self-inside-is ∙ means
    ])

pub returns-clause-well_formed : goal.returns-clause-well_formed
returns-clause-well_formed g c = IsWellFormed-sound _ _ c.if-slot-lt-GENERATIONS.self-inside.free c.if-slot-lt-GENERATIONS.self-inside.last (invariant_of-self g c)
