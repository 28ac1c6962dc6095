use Rattle.std.proofs.Common.{◌≡◌, ◌-◌, ◌<◌, List, ◌++◌, ◌∷◌, [], length, ap, sym, subst, ◌∙◌}
use Rattle.std.proofs.lemmas.List.{length_push}
use Rattle.ecs_table.proofs.TableLists.{seen_row, stored_row}
use Rattle.ecs_id.specs.Id.{Id}
use Rattle.ecs_table.specs.Archetype.{Archetype, IsStored, seen, with_row}
use Rattle.ecs_table.proofs.table.Table.append.Goals as goal

pub invariant_of-self : goal.invariant_of-self
invariant_of-self g c =
    let a = c.self.inside in
    let some : 0 < a.room = subst (λ (t : Archetype). 0 < t.room) (sym c.self.view_is) c.requires in
    let grown : c.push.new.self.items ≡ a.entities.items ++ c.args.entity ∷ [] = c.push.ensures.items in
    subst (λ (ds : List Id). IsStored a.ids ds c.push_zero.new.self.block c.push.new.self (a.room - 1)) (sym c.push_zero.ensures.ids)
    (stored_row a.ids a.values.ids a.values.block c.push_zero.new.self.block a.entities c.push.new.self a.room c.args.entity c.self.invariant some c.push_zero.ensures.block grown c.push.ensures.capacity
    (ap length grown ∙ length_push a.entities.items c.args.entity))

pub returns : goal.returns
returns g c =
    let a = c.self.inside in
    let grown : c.push.new.self.items ≡ a.entities.items ++ c.args.entity ∷ [] = c.push.ensures.items in
    ap (λ (ds : List Id). seen a.ids ds c.push_zero.new.self.block c.push.new.self.items (a.room - 1)) c.push_zero.ensures.ids
    ∙ seen_row a.ids a.values.ids a.values.block c.push_zero.new.self.block a.entities.items c.push.new.self.items a.room c.args.entity c.push_zero.ensures.block grown ∙ ap (λ (t : Archetype). with_row t c.args.entity) c.self.view_is
