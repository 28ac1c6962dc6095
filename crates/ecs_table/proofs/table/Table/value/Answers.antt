use Rattle.std.proofs.Common.{◌≡◌, ◌<◌, length, ap, sym, subst, ◌∙◌, Some}
use Rattle.ecs_table.proofs.TableLists.{size_found, stored_paired, value_found}
use Rattle.ecs_table.specs.Archetype.{Archetype, index_in}
use Rattle.ecs_table.proofs.table.Table.value.Goals as goal

pub value_in-requires-clause-column : goal.value_in-requires-clause-column
value_in-requires-clause-column g c =
    let a = c.self.inside in
    subst (λ n. c.in-Some.column < n) (stored_paired a.ids a.values.ids a.values.block a.entities a.room c.self.invariant ∙ ap (λ (t : Archetype). length t.columns) c.self.view_is) c.in-Some.ensures.within

pub returns-in-Some-clause-value : goal.returns-in-Some-clause-value
returns-in-Some-clause-value g c =
    let t : Archetype = c.args.self.now in let k = c.in-Some.column in
    let found : index_in t.data_ids c.args.id ≡ Some k = ap (λ (u : Archetype). index_in u.data_ids c.args.id) (sym c.self.view_is) ∙ sym c.find.ensures.index ∙ c.in-Some.is in
    value_found t c.args.row k c.args.id found ∙ c.value_in.ensures.value

pub returns-in-Some-clause-size : goal.returns-in-Some-clause-size
returns-in-Some-clause-size g c =
    let t : Archetype = c.args.self.now in let k = c.in-Some.column in
    let found : index_in t.data_ids c.args.id ≡ Some k = ap (λ (u : Archetype). index_in u.data_ids c.args.id) (sym c.self.view_is) ∙ sym c.find.ensures.index ∙ c.in-Some.is in
    size_found t k c.args.id found ∙ ap Some (sym c.value_in.ensures.size)
