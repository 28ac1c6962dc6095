-- The least index that waits, or the next fresh one.
use Rattle.std.proofs.Common.{refl, sym, ◌∙◌, ap, arith, subst, ◌≡◌, true, length, ℕ, ◌≤◌, Some}
use Rattle.std.proofs.lemmas.List.{get_or_default}
use Rattle.entity_index.specs.Slots.{unused, slot_at, is_free_slot}
use Rattle.std.specs.Option.{MatchOption}
use Rattle.ecs_model.specs.World.{first_index}
use Rattle.entity_index.specs.Entities.{IsFull, IsNext}
use Rattle.entity_index.proofs.NextLaws.{next_entity-tells}
use Rattle.entity_index.proofs.NextEntity.{next-least, next-fresh, next-none, top_waits, none_waits, none_waits_below, length_of_none}
use Rattle.ecs_id.specs.declared.EntityId.{EntityId}
use Rattle.entity_index.proofs.WaitingIndexes.{waiting_parts, free_is_dead}
use Rattle.entity_index.proofs.index.SlotIndex.upcoming.Goals as goal

pub index-requires : goal.index-requires
index-requires g c =
    let slots = c.self.inside.slots.items in
    let x = c.in-Some.field-0.now in
    let has = c.self.invariant.members in
    let waits = top_waits slots c.self.inside.free.data.items has x (omega (arith, c.in-Some.ensures.variant.0 refl, c.self.inside.free.data.ok.0)) c.in-Some.ensures.lookup in
    omega (arith, (waiting_parts slots x.0 waits).1, c.self.inside.slots.ok.0)

pub overflow_cast-generation : goal.overflow_cast-generation
overflow_cast-generation g c =
    let slots = c.self.inside.slots.items in
    let x = c.in-Some.field-0.now in
    let has = c.self.invariant.members in
    let waits = top_waits slots c.self.inside.free.data.items has x (omega (arith, c.in-Some.ensures.variant.0 refl, c.self.inside.free.data.ok.0)) c.in-Some.ensures.lookup in
    let parts = waiting_parts slots x.0 waits in
    let at : slot_at slots x.0 ≡ c.index.result.now = sym (c.index.ensures ∙ get_or_default slots x.0 c.index.result.now unused parts.1) in
    let free : is_free_slot c.index.result.now ≡ true = ap is_free_slot (sym at) ∙ parts.2 in
    omega (arith, (free_is_dead c.index.result.now free).1)

pub returns-in-Some-clause-next : goal.returns-in-Some-clause-next
returns-in-Some-clause-next g c =
    let slots = c.self.inside.slots.items in
    let x = c.in-Some.field-0.now in
    let has = c.self.invariant.members in
    let waits = top_waits slots c.self.inside.free.data.items has x (omega (arith, c.in-Some.ensures.variant.0 refl, c.self.inside.free.data.ok.0)) c.in-Some.ensures.lookup in
    let parts = waiting_parts slots x.0 waits in
    let at : slot_at slots x.0 ≡ c.index.result.now = sym (c.index.ensures ∙ get_or_default slots x.0 c.index.result.now unused parts.1) in
    let least = none_waits_below slots c.self.inside.free.data.items has x (c.in-Some.ensures.greatest c.self.invariant.ordered) in
    rw (← c.self.view_is) (sym (next-least slots c.self.inside.places.items c.self.inside.last c.self.invariant.least c.self.invariant.first c.self.invariant.within x.0 c.index.result.now at waits least))

pub returns-then-self-index-clause-next : goal.returns-then-self-index-clause-next
returns-then-self-index-clause-next g c =
    let slots = c.self.inside.slots.items in
    let items = c.self.inside.free.data.items in
    let none = none_waits slots items c.self.invariant.members (length_of_none (length items) c.self.inside.free.data.len (sym c.self.inside.free.data.ok.0) c.in_default.ensures.variant.1) in
    rw (← c.self.view_is) (sym (next-none slots c.self.inside.places.items c.self.inside.last c.self.invariant.least c.self.invariant.first c.self.invariant.within none (omega (arith, c.len-index.ensures, c.self.inside.slots.ok.0))))

pub returns-clause-next : goal.returns-clause-next
returns-clause-next g c =
    let slots = c.self.inside.slots.items in
    let items = c.self.inside.free.data.items in
    let none = none_waits slots items c.self.invariant.members (length_of_none (length items) c.self.inside.free.data.len (sym c.self.inside.free.data.ok.0) c.in_default.ensures.variant.1) in
    let len : length slots ≡ c.len-index.result = sym c.self.inside.slots.ok.0 ∙ sym c.len-index.ensures in
    let room : length slots ≤ c.self.inside.last = omega (arith, len) in
    let entity : ℕ → EntityId = λ n. record { index = n; generation = 0 } in
    rw (← c.self.view_is) (ap (λ n. Some (entity n)) (sym len) ∙ sym (next-fresh slots c.self.inside.places.items c.self.inside.last c.self.invariant.least c.self.invariant.first c.self.invariant.within none room))

pub returns-in-Some-clause-smallest : goal.returns-in-Some-clause-smallest
returns-in-Some-clause-smallest g c = subst (λ o. MatchOption o (IsFull c.args.self.now) (IsNext c.args.self.now)) (sym (returns-in-Some-clause-next g c)) (next_entity-tells c.args.self.now (subst (λ w. first_index ≤ w.last) c.self.view_is c.self.invariant.least))

pub returns-then-self-index-clause-smallest : goal.returns-then-self-index-clause-smallest
returns-then-self-index-clause-smallest g c = subst (λ o. MatchOption o (IsFull c.args.self.now) (IsNext c.args.self.now)) (sym (returns-then-self-index-clause-next g c)) (next_entity-tells c.args.self.now (subst (λ w. first_index ≤ w.last) c.self.view_is c.self.invariant.least))

pub returns-clause-smallest : goal.returns-clause-smallest
returns-clause-smallest g c = subst (λ o. MatchOption o (IsFull c.args.self.now) (IsNext c.args.self.now)) (sym (returns-clause-next g c)) (next_entity-tells c.args.self.now (subst (λ w. first_index ≤ w.last) c.self.view_is c.self.invariant.least))
