use Rattle.std.proofs.Common.{◌≡◌, ℕ, ◌<◌, length, IfSome, Option, Some, ap, sym, subst, ◌∙◌}
use Rattle.ecs_table.proofs.TableLists.{stored_paired, value_found}
use Rattle.ecs_table.specs.Archetype.{Archetype, index_in}
use Rattle.ecs_table.proofs.table.Table.value_from.Goals as goal

pub value_in-requires-clause-column : goal.value_in-requires-clause-column
value_in-requires-clause-column g c =
    let a = c.self.inside in let within : c.in-Some.column < length a.values.ids = subst (λ (o : Option ℕ). IfSome o (λ k. k < length a.values.ids)) c.in-Some.is c.find_from-next.ensures.within in
    subst (λ n. c.in-Some.column < n) (stored_paired a.ids a.values.ids a.values.block a.entities a.room c.self.invariant ∙ ap (λ (t : Archetype). length t.columns) c.self.view_is) within

pub returns-in-Some : goal.returns-in-Some
returns-in-Some g c =
    let t : Archetype = c.args.self.now in let k = c.in-Some.column in
    let found : index_in t.data_ids c.args.id ≡ Some k = ap (λ (u : Archetype). index_in u.data_ids c.args.id) (sym c.self.view_is) ∙ sym c.find_from-next.ensures.index ∙ c.in-Some.is in
    value_found t c.args.row k c.args.id found ∙ c.value_in.ensures.value
