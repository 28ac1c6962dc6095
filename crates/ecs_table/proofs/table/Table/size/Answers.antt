use Rattle.std.proofs.Common.{◌≡◌, ◌<◌, ap, sym, subst, ◌∙◌, Some, unwrap_or}
use Rattle.ecs_table.proofs.TableLists.{size_found, stored_paired}
use Rattle.ecs_table.specs.Archetype.{Archetype, byte_size, index_in, seen}
use Rattle.ecs_table.proofs.table.Table.size.Goals as goal

pub size-requires : goal.size-requires
size-requires g c =
    let a = c.self.inside in
    subst (λ n. c.in-Some.column < n) (stored_paired a.ids a.values.ids a.values.block a.entities a.room c.self.invariant) c.in-Some.ensures.within

pub returns-in-Some : goal.returns-in-Some
returns-in-Some g c =
    let a = c.self.inside in let t : Archetype = seen a.ids a.values.ids a.values.block a.entities.items a.room in let k = c.in-Some.column in
    let found : index_in a.values.ids c.args.id ≡ Some k = sym c.find.ensures.index ∙ c.in-Some.is in
    c.size.ensures ∙ sym (ap (λ o. unwrap_or o 0) (size_found t k c.args.id found)) ∙ ap (λ (u : Archetype). byte_size u c.args.id) c.self.view_is
