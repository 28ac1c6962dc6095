use Rattle.std.proofs.Common.{◌≡◌, ◌<◌, ap, sym, subst, ◌∙◌, Some}
use Rattle.ecs_table.proofs.TableLists.{column_found, stored_paired}
use Rattle.ecs_table.specs.Archetype.{Archetype, column_of, index_in, seen}
use Rattle.ecs_table.proofs.table.Table.column.Goals as goal

pub column-requires : goal.column-requires
column-requires g c =
    let a = c.self.inside in
    subst (λ n. c.in-Some.index < n) (stored_paired a.ids a.values.ids a.values.block a.entities a.room c.self.invariant) c.in-Some.ensures.within

pub returns-in-Some : goal.returns-in-Some
returns-in-Some g c =
    let a = c.self.inside in let t : Archetype = seen a.ids a.values.ids a.values.block a.entities.items a.room in let k = c.in-Some.index in
    let found : index_in a.values.ids c.args.id ≡ Some k = sym c.find.ensures.index ∙ c.in-Some.is in
    sym (ap (λ (u : Archetype). column_of u c.args.id) c.self.view_is) ∙ column_found t k c.args.id found ∙ ap Some (sym c.column.ensures)
