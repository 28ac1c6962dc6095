use Rattle.std.proofs.Common.{◌≡◌, List, ◌+◌, ◌<◌, length, ap, sym, subst, ◌∙◌, arith, slice_get}
use Rattle.std.specs.List.{swap_remove}
use Rattle.ecs_id.specs.Id.{Id}
use Rattle.ecs_id.specs.declared.EntityId.{EntityId}
use Rattle.ecs_table.proofs.Soundness.{copied_is, length_without, moved_is, swap_remove_default}
use Rattle.ecs_table.proofs.TableLists.{seen_without, stored_without}
use Rattle.ecs_table.specs.Archetype.{Archetype, IsStored, no_entity, seen, without_row}
use Rattle.ecs_table.proofs.table.Table.remove_row.Goals as goal

pub swap_remove-requires-2 : goal.swap_remove-requires-2
swap_remove-requires-2 g c = subst (λ n. c.args.row < n) (ap (λ (t : Archetype). length t.entities) (sym c.self.view_is) ∙ sym c.self.invariant.rows) c.requires

pub invariant_of-self : goal.invariant_of-self
invariant_of-self g c =
    let a = c.self.inside in let row = c.args.row in
    let lt : row < length a.entities.items = subst (λ (t : Archetype). row < length t.entities) (sym c.self.view_is) c.requires in
    let some : 0 < length a.entities.items = omega arith in
    let gone : c.swap_remove.new.self.items ≡ swap_remove a.entities.items row no_entity = c.swap_remove.ensures.items ∙ swap_remove_default a.entities.items row c.swap_remove.result no_entity some in
    subst (λ (ds : List Id). IsStored a.ids ds c.swap_remove-2.new.self.block c.swap_remove.new.self (a.room + 1)) (sym c.swap_remove-2.ensures.ids)
    (stored_without a.ids a.values.ids a.values.block c.swap_remove-2.new.self.block a.entities c.swap_remove.new.self a.room row lt c.self.invariant c.swap_remove-2.ensures.block gone c.swap_remove.ensures.capacity
    (ap length gone ∙ length_without (seen a.ids a.values.ids a.values.block a.entities.items a.room) row))

pub returns-clause-row : goal.returns-clause-row
returns-clause-row g c =
    let a = c.self.inside in let row = c.args.row in
    let lt : row < length a.entities.items = subst (λ (t : Archetype). row < length t.entities) (sym c.self.view_is) c.requires in
    let some : 0 < length a.entities.items = omega arith in
    let gone : c.swap_remove.new.self.items ≡ swap_remove a.entities.items row no_entity = c.swap_remove.ensures.items ∙ swap_remove_default a.entities.items row c.swap_remove.result no_entity some in
    ap (λ (ds : List Id). seen a.ids ds c.swap_remove-2.new.self.block c.swap_remove.new.self.items (a.room + 1)) c.swap_remove-2.ensures.ids
    ∙ seen_without a.ids a.values.ids a.values.block c.swap_remove-2.new.self.block a.entities.items c.swap_remove.new.self.items a.room row c.swap_remove-2.ensures.block gone ∙ ap (λ (t : Archetype). without_row t row) c.self.view_is

pub returns-clause-moved : goal.returns-clause-moved
returns-clause-moved g c =
    let a = c.self.inside in let es = a.entities.items in let row = c.args.row in
    let lt : row < length es = subst (λ (t : Archetype). row < length t.entities) (sym c.self.view_is) c.requires in
    let some : 0 < length es = omega arith in
    let gone : c.as_slice.result.now ≡ swap_remove es row no_entity = c.as_slice.ensures ∙ c.swap_remove.ensures.items ∙ swap_remove_default es row c.swap_remove.result no_entity some in
    c.copied.ensures ∙ copied_is c.get.result c.as_slice.result.now row c.get.ensures.lookup.0 c.get.ensures.lookup.1 ∙ ap (λ l. slice_get l row) gone
    ∙ ap (λ (l : List EntityId). slice_get (swap_remove l row no_entity) row) (ap (λ (t : Archetype). t.entities) c.self.view_is) ∙ moved_is c.args.self.now row c.requires

pub overflow_add-self : goal.overflow_add-self
overflow_add-self g c =
    let a = c.self.inside in let row = c.args.row in
    let lt : row < length a.entities.items = subst (λ (t : Archetype). row < length t.entities) (sym c.self.view_is) c.requires in
    omega (arith, lt, c.self.invariant.room, c.swap_remove.ensures.capacity, c.swap_remove.ensures.small)
