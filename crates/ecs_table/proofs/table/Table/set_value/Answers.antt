use Rattle.std.proofs.Common.{◌≡◌, ◌<◌, List, length, ap, sym, subst, ◌∙◌, Some}
use Rattle.std.proofs.lemmas.Option.{same_Some}
use Rattle.ecs_id.specs.Id.{Id}
use Rattle.raw_column.specs.Contents.{Contents, column_at}
use Rattle.ecs_table.proofs.TableLists.{size_found, stored_item, stored_paired}
use Rattle.ecs_table.specs.Archetype.{Archetype, IsStored, index_in, seen, size_of, with_item_in, with_value}
use Rattle.ecs_table.proofs.table.Table.set_value.Goals as goal

pub set-requires-clause-column : goal.set-requires-clause-column
set-requires-clause-column g c =
    let a = c.self.inside in
    subst (λ n. c.in-Some.column < n) (stored_paired a.ids a.values.ids a.values.block a.entities a.room c.self.invariant) c.in-Some.ensures.within

pub set-requires-clause-row : goal.set-requires-clause-row
set-requires-clause-row g c = subst (λ n. c.args.row < n) (ap (λ (t : Archetype). length t.entities) (sym c.self.view_is) ∙ sym c.self.invariant.rows) c.requires.row

pub set-requires-clause-size : goal.set-requires-clause-size
set-requires-clause-size g c =
    let a = c.self.inside in let t = seen a.ids a.values.ids a.values.block a.entities.items a.room in let k = c.in-Some.column in
    let found : index_in a.values.ids c.args.id ≡ Some k = sym c.find.ensures.index ∙ c.in-Some.is in
    same_Some (length c.args.value.now) (column_at a.values.block k).size (sym c.requires.size ∙ ap (λ (u : Archetype). size_of u c.args.id) (sym c.self.view_is) ∙ size_found t k c.args.id found)

pub invariant_of-self : goal.invariant_of-self
invariant_of-self g c =
    let a = c.self.inside in let t = seen a.ids a.values.ids a.values.block a.entities.items a.room in let k = c.in-Some.column in
    let lt : k < length a.values.block.columns = subst (λ n. k < n) (stored_paired a.ids a.values.ids a.values.block a.entities a.room c.self.invariant) c.in-Some.ensures.within in
    let row : c.args.row < length a.entities.items = subst (λ n. c.args.row < n) (ap (λ (u : Archetype). length u.entities) (sym c.self.view_is)) c.requires.row in
    let found : index_in a.values.ids c.args.id ≡ Some k = sym c.find.ensures.index ∙ c.in-Some.is in
    let long : length c.args.value.now ≡ (column_at a.values.block k).size = same_Some (length c.args.value.now) (column_at a.values.block k).size (sym c.requires.size ∙ ap (λ (u : Archetype). size_of u c.args.id) (sym c.self.view_is) ∙ size_found t k c.args.id found) in
    subst (λ (ds : List Id). IsStored a.ids ds c.set.new.self.block a.entities a.room) (sym c.set.ensures.ids)
    (stored_item a.ids a.values.ids a.values.block c.set.new.self.block a.entities a.room k c.args.row c.args.value.now c.self.invariant lt row long c.set.ensures.block)

pub returns-in-Some : goal.returns-in-Some
returns-in-Some g c =
    let a = c.self.inside in let k = c.in-Some.column in let row = c.args.row in let bytes = c.args.value.now in
    let found : index_in a.values.ids c.args.id ≡ Some k = sym c.find.ensures.index ∙ c.in-Some.is in
    ap (λ (ds : List Id). seen a.ids ds c.set.new.self.block a.entities.items a.room) c.set.ensures.ids
    ∙ ap (λ (v : Contents). seen a.ids a.values.ids v a.entities.items a.room) c.set.ensures.block
    ∙ ap (λ o. let t = seen a.ids a.values.ids a.values.block a.entities.items a.room in record t { columns = with_item_in o t.columns row bytes }) (sym found)
    ∙ ap (λ (t : Archetype). with_value t row c.args.id bytes) c.self.view_is
