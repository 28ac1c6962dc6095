use Rattle.std.proofs.Common.{◌≡◌, ◌*◌, ◌<◌, List, IfSome, length, ap, sym, subst, ◌∙◌, Some}
use Rattle.ecs_id.specs.Id.{Id}
use Rattle.raw_column.specs.Contents.{Contents, column_at}
use Rattle.ecs_table.proofs.TableLists.{size_found, stored_paired}
use Rattle.ecs_table.proofs.WholeColumns.{seen_bytes, stored_bytes}
use Rattle.ecs_table.specs.Archetype.{Archetype, IsStored, index_in, seen, size_of, with_column}
use Rattle.ecs_table.proofs.table.Table.set_column.Goals as goal

pub set_column-requires-clause-column : goal.set_column-requires-clause-column
set_column-requires-clause-column g c =
    let a = c.self.inside in
    subst (λ n. c.in-Some.column < n) (stored_paired a.ids a.values.ids a.values.block a.entities a.room c.self.invariant) c.in-Some.ensures.within

pub set_column-requires-clause-size : goal.set_column-requires-clause-size
set_column-requires-clause-size g c =
    let a = c.self.inside in let t : Archetype = seen a.ids a.values.ids a.values.block a.entities.items a.room in let k = c.in-Some.column in
    let found : index_in a.values.ids c.args.id ≡ Some k = sym c.find.ensures.index ∙ c.in-Some.is in
    let there = subst (λ (u : Archetype). IfSome (size_of u c.args.id) (λ n. length c.args.bytes.now ≡ length u.entities * n)) (sym c.self.view_is) c.requires in
    let long : length c.args.bytes.now ≡ length a.entities.items * (column_at a.values.block k).size = subst (λ o. IfSome o (λ n. length c.args.bytes.now ≡ length a.entities.items * n)) (size_found t k c.args.id found) there in
    long ∙ ap (λ n. n * (column_at a.values.block k).size) (sym c.self.invariant.rows)

pub invariant_of-self : goal.invariant_of-self
invariant_of-self g c =
    let a = c.self.inside in let t : Archetype = seen a.ids a.values.ids a.values.block a.entities.items a.room in let k = c.in-Some.column in
    let lt : k < length a.values.block.columns = subst (λ n. k < n) (stored_paired a.ids a.values.ids a.values.block a.entities a.room c.self.invariant) c.in-Some.ensures.within in
    let found : index_in a.values.ids c.args.id ≡ Some k = sym c.find.ensures.index ∙ c.in-Some.is in
    let there = subst (λ (u : Archetype). IfSome (size_of u c.args.id) (λ n. length c.args.bytes.now ≡ length u.entities * n)) (sym c.self.view_is) c.requires in
    let long : length c.args.bytes.now ≡ length a.entities.items * (column_at a.values.block k).size = subst (λ o. IfSome o (λ n. length c.args.bytes.now ≡ length a.entities.items * n)) (size_found t k c.args.id found) there in
    subst (λ (ds : List Id). IsStored a.ids ds c.set_column.new.self.block a.entities a.room) (sym c.set_column.ensures.ids)
    (stored_bytes a.ids a.values.ids a.values.block c.set_column.new.self.block a.entities a.room k c.args.bytes.now c.self.invariant lt long c.set_column.ensures.block)

pub returns-in-Some : goal.returns-in-Some
returns-in-Some g c =
    let a = c.self.inside in let k = c.in-Some.column in
    let found : index_in a.values.ids c.args.id ≡ Some k = sym c.find.ensures.index ∙ c.in-Some.is in
    ap (λ (ds : List Id). seen a.ids ds c.set_column.new.self.block a.entities.items a.room) c.set_column.ensures.ids
    ∙ ap (λ (v : Contents). seen a.ids a.values.ids v a.entities.items a.room) c.set_column.ensures.block
    ∙ seen_bytes a.ids a.values.ids a.values.block a.entities a.room k c.args.id c.args.bytes.now c.self.invariant found
    ∙ ap (λ (t : Archetype). with_column t c.args.id c.args.bytes.now) c.self.view_is
