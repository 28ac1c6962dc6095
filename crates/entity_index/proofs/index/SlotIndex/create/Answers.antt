-- The least index that waits lives again, or the next fresh one gets a slot.
use Rattle.std.proofs.Common.{refl, sym, ◌∙◌, ap, arith, subst, ◌≤◌, ◌++◌, ◌∷◌, [], None}
use Rattle.ecs_id.specs.declared.EntityId.{EntityId}
use Rattle.ecs_model.specs.World.{first_index}
use Rattle.entity_index.specs.Entities.{next_entity, IsWellFormed}
use Rattle.entity_index.specs.Slots.{meaning}
use Rattle.entity_index.proofs.CreatedIndexes.{popped_fits, popped_next, popped_born, popped_sound, fresh_next, fresh_none, fresh_born, fresh_well, refused_well, no_place_after, full_is_none, ok_is_some, memory_is_some}
use Rattle.entity_index.proofs.NextLaws.{IsNext-from_next, full_where_none}
use Rattle.entity_index.proofs.Soundness.{IsWellFormed-sound}
use Rattle.entity_index.proofs.index.SlotIndex.create.Goals as goal

pub overflow_cast-generation : goal.overflow_cast-generation
overflow_cast-generation g c = omega (arith, popped_fits c.self.inside.slots.items c.self.inside.places.items c.self.inside.free c.pop.new.self c.self.inside.last c.self.invariant c.in-Some.field-0 c.in-Some.ensures.permutation c.in-Some.ensures.heap_order c.index_mut-slot.result.now c.index_mut-slot.ensures.value)

pub invariant_of-self : goal.invariant_of-self
invariant_of-self g c = popped_sound c.self.inside.slots.items c.self.inside.places.items c.self.inside.free c.pop.new.self c.self.inside.last c.self.invariant c.in-Some.field-0 c.in-Some.ensures.permutation c.in-Some.ensures.heap_order c.index_mut-slot.result.now c.index_mut-slot.ensures.value c.in-Some.ensures.len c.in-Some.ensures.capacity

pub returns-in-Some-clause-next : goal.returns-in-Some-clause-next
returns-in-Some-clause-next g c = rw (← c.self.view_is) (popped_next c.self.inside.slots.items c.self.inside.places.items c.self.inside.free c.pop.new.self c.self.inside.last c.self.invariant c.in-Some.field-0 c.in-Some.ensures.permutation c.in-Some.ensures.heap_order c.index_mut-slot.result.now c.index_mut-slot.ensures.value)

pub returns-in-Some-clause-smallest : goal.returns-in-Some-clause-smallest
returns-in-Some-clause-smallest g c = IsNext-from_next c.args.self.now (subst (λ w. first_index ≤ w.last) c.self.view_is c.self.invariant.least) _ (returns-in-Some-clause-next g c)

pub returns-in-Some-clause-born : goal.returns-in-Some-clause-born
returns-in-Some-clause-born g c = rw (← c.self.view_is) (popped_born c.self.inside.slots.items c.self.inside.places.items c.self.inside.free c.pop.new.self c.self.inside.last c.self.invariant c.in-Some.field-0 c.in-Some.ensures.permutation c.in-Some.ensures.heap_order c.index_mut-slot.result.now c.index_mut-slot.ensures.value)

pub returns-in-Some-clause-no_place : goal.returns-in-Some-clause-no_place
returns-in-Some-clause-no_place g c =
    let e : EntityId = record { index = c.in-Some.field-0.0; generation = c.index_mut-slot.result.now.deletions } in
    no_place_after c.args.self.now _ e (returns-in-Some-clause-born g c) (subst IsWellFormed c.self.view_is (IsWellFormed-sound c.self.inside.slots.items c.self.inside.places.items c.self.inside.free c.self.inside.last c.self.invariant)) (returns-in-Some-clause-smallest g c)

pub returns-in-Some-clause-full : goal.returns-in-Some-clause-full
returns-in-Some-clause-full g c = rw (← c.self.view_is) (ok_is_some (next_entity (meaning c.self.inside.slots.items c.self.inside.places.items c.self.inside.last)) _ _ (popped_next c.self.inside.slots.items c.self.inside.places.items c.self.inside.free c.pop.new.self c.self.inside.last c.self.invariant c.in-Some.field-0 c.in-Some.ensures.permutation c.in-Some.ensures.heap_order c.index_mut-slot.result.now c.index_mut-slot.ensures.value) _ refl)

pub returns-in-Some-clause-none_left : goal.returns-in-Some-clause-none_left
returns-in-Some-clause-none_left g c = full_where_none c.args.self.now (subst (λ w. first_index ≤ w.last) c.self.view_is c.self.invariant.least) (returns-in-Some-clause-full g c)

pub returns-in-Some-clause-well_formed : goal.returns-in-Some-clause-well_formed
returns-in-Some-clause-well_formed g c = IsWellFormed-sound _ c.self.inside.places.items c.pop.new.self c.self.inside.last (invariant_of-self g c)

pub returns-then-self-index-clause-full : goal.returns-then-self-index-clause-full
returns-then-self-index-clause-full g c = rw (← c.self.view_is) (full_is_none (next_entity (meaning c.self.inside.slots.items c.self.inside.places.items c.self.inside.last)) (fresh_none c.self.inside.slots.items c.self.inside.places.items c.self.inside.free c.self.inside.last c.self.invariant c.in_default.ensures.none c.len-used.result (sym c.self.inside.slots.ok.0 ∙ sym c.len-used.ensures) c.if-self-index.true) _ refl)

pub returns-then-self-index-clause-none_left : goal.returns-then-self-index-clause-none_left
returns-then-self-index-clause-none_left g c = full_where_none c.args.self.now (subst (λ w. first_index ≤ w.last) c.self.view_is c.self.invariant.least) (returns-then-self-index-clause-full g c)

pub returns-then-self-index-clause-well_formed : goal.returns-then-self-index-clause-well_formed
returns-then-self-index-clause-well_formed g c = IsWellFormed-sound c.self.inside.slots.items c.self.inside.places.items c.self.inside.free c.self.inside.last c.self.invariant

pub returns-in_err-reserve-clause-full : goal.returns-in_err-reserve-clause-full
returns-in_err-reserve-clause-full g c = rw (← c.self.view_is) (memory_is_some (next_entity (meaning c.self.inside.slots.items c.self.inside.places.items c.self.inside.last)) _ (fresh_next c.self.inside.slots.items c.self.inside.places.items c.self.inside.free c.self.inside.last c.self.invariant c.in_default.ensures.none c.len-used.result (sym c.self.inside.slots.ok.0 ∙ sym c.len-used.ensures) c.if-self-index.false) c.from_residual.result c.from_residual.ensures.1)

pub returns-in_err-reserve-clause-none_left : goal.returns-in_err-reserve-clause-none_left
returns-in_err-reserve-clause-none_left g c = full_where_none c.args.self.now (subst (λ w. first_index ≤ w.last) c.self.view_is c.self.invariant.least) (returns-in_err-reserve-clause-full g c)

pub returns-in_err-reserve-clause-well_formed : goal.returns-in_err-reserve-clause-well_formed
returns-in_err-reserve-clause-well_formed g c = IsWellFormed-sound c.self.inside.slots.items c.self.inside.places.items c.self.inside.free c.self.inside.last c.self.invariant

pub returns-in_err-make_room-clause-full : goal.returns-in_err-make_room-clause-full
returns-in_err-make_room-clause-full g c = rw (← c.self.view_is) (memory_is_some (next_entity (meaning c.self.inside.slots.items c.self.inside.places.items c.self.inside.last)) _ (fresh_next c.self.inside.slots.items c.self.inside.places.items c.self.inside.free c.self.inside.last c.self.invariant c.in_default.ensures.none c.len-used.result (sym c.self.inside.slots.ok.0 ∙ sym c.len-used.ensures) c.if-self-index.false) c.from_residual-in_err-make_room.result c.from_residual-in_err-make_room.ensures.1)

pub returns-in_err-make_room-clause-none_left : goal.returns-in_err-make_room-clause-none_left
returns-in_err-make_room-clause-none_left g c = full_where_none c.args.self.now (subst (λ w. first_index ≤ w.last) c.self.view_is c.self.invariant.least) (returns-in_err-make_room-clause-full g c)

pub returns-in_err-make_room-clause-well_formed : goal.returns-in_err-make_room-clause-well_formed
returns-in_err-make_room-clause-well_formed g c = refused_well c.self.inside.slots.items c.self.inside.slots.items c.self.inside.places.items _ c.self.inside.free c.self.inside.last c.self.invariant refl c.in_err-make_room.ensures.items

pub returns-in_err-push-clause-full : goal.returns-in_err-push-clause-full
returns-in_err-push-clause-full g c = rw (← c.self.view_is) (memory_is_some (next_entity (meaning c.self.inside.slots.items c.self.inside.places.items c.self.inside.last)) _ (fresh_next c.self.inside.slots.items c.self.inside.places.items c.self.inside.free c.self.inside.last c.self.invariant c.in_default.ensures.none c.len-used.result (sym c.self.inside.slots.ok.0 ∙ sym c.len-used.ensures) c.if-self-index.false) c.from_residual-in_err-push.result c.from_residual-in_err-push.ensures.1)

pub returns-in_err-push-clause-none_left : goal.returns-in_err-push-clause-none_left
returns-in_err-push-clause-none_left g c = full_where_none c.args.self.now (subst (λ w. first_index ≤ w.last) c.self.view_is c.self.invariant.least) (returns-in_err-push-clause-full g c)

pub returns-in_err-push-clause-well_formed : goal.returns-in_err-push-clause-well_formed
returns-in_err-push-clause-well_formed g c = refused_well c.self.inside.slots.items _ c.self.inside.places.items _ c.self.inside.free c.self.inside.last c.self.invariant c.in_err-push.ensures.items c.in_ok-make_room.ensures.items

pub returns-clause-next : goal.returns-clause-next
returns-clause-next g c = rw (← c.self.view_is) (fresh_next c.self.inside.slots.items c.self.inside.places.items c.self.inside.free c.self.inside.last c.self.invariant c.in_default.ensures.none c.len-used.result (sym c.self.inside.slots.ok.0 ∙ sym c.len-used.ensures) c.if-self-index.false)

pub returns-clause-smallest : goal.returns-clause-smallest
returns-clause-smallest g c = IsNext-from_next c.args.self.now (subst (λ w. first_index ≤ w.last) c.self.view_is c.self.invariant.least) _ (returns-clause-next g c)

pub returns-clause-born : goal.returns-clause-born
returns-clause-born g c = rw (← c.self.view_is) (fresh_born c.self.inside.slots.items c.self.inside.places.items c.self.inside.free c.self.inside.last c.self.invariant c.in_default.ensures.none c.len-used.result (sym c.self.inside.slots.ok.0 ∙ sym c.len-used.ensures) c.push.new.list.items c.push_reserved.new.self.items c.in_ok-push.ensures.items (c.push_reserved.ensures.items ∙ ap (λ ps. ps ++ None ∷ []) c.in_ok-make_room.ensures.items))

pub returns-clause-no_place : goal.returns-clause-no_place
returns-clause-no_place g c =
    let e : EntityId = record { index = c.len-used.result; generation = 0 } in
    no_place_after c.args.self.now _ e (returns-clause-born g c) (subst IsWellFormed c.self.view_is (IsWellFormed-sound c.self.inside.slots.items c.self.inside.places.items c.self.inside.free c.self.inside.last c.self.invariant)) (returns-clause-smallest g c)

pub returns-clause-full : goal.returns-clause-full
returns-clause-full g c = rw (← c.self.view_is) (ok_is_some (next_entity (meaning c.self.inside.slots.items c.self.inside.places.items c.self.inside.last)) _ _ (fresh_next c.self.inside.slots.items c.self.inside.places.items c.self.inside.free c.self.inside.last c.self.invariant c.in_default.ensures.none c.len-used.result (sym c.self.inside.slots.ok.0 ∙ sym c.len-used.ensures) c.if-self-index.false) _ refl)

pub returns-clause-none_left : goal.returns-clause-none_left
returns-clause-none_left g c = full_where_none c.args.self.now (subst (λ w. first_index ≤ w.last) c.self.view_is c.self.invariant.least) (returns-clause-full g c)

pub returns-clause-well_formed : goal.returns-clause-well_formed
returns-clause-well_formed g c = fresh_well c.self.inside.slots.items c.self.inside.places.items c.self.inside.free c.self.inside.last c.self.invariant c.in_default.ensures.none c.len-used.result (sym c.self.inside.slots.ok.0 ∙ sym c.len-used.ensures) c.reserve.new.self c.if-self-index.false (c.in_ok-reserve.ensures.items ∙ c.in_default.ensures.unchanged.0) (c.in_ok-reserve.ensures.len ∙ c.in_default.ensures.unchanged.1) (omega (arith, c.in_ok-reserve.ensures.ok)) c.push.new.list.items c.push_reserved.new.self.items c.in_ok-push.ensures.items (c.push_reserved.ensures.items ∙ ap (λ ps. ps ++ None ∷ []) c.in_ok-make_room.ensures.items)
