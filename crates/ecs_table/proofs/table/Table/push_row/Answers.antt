use Rattle.std.proofs.Common.{◌≡◌, ℕ, ◌+◌, ◌-◌, ◌<◌, List, ◌++◌, ◌∷◌, [], length, map, ap, sym, subst, ◌∙◌, slice_index_or, arith}
use Rattle.std.proofs.lemmas.List.{get_or_default, length-map, length_push}
use Rattle.std.specs.List.{zip}
use Rattle.ecs_id.specs.Id.{Id}
use Rattle.ecs_id.specs.declared.EntityId.{EntityId}
use Rattle.raw_column.specs.Contents.{Contents, with_zero, with_zeros}
use Rattle.raw_column.specs.Places.{Values}
use Rattle.ecs_table.proofs.ColumnLemmas.{replaced_zeros}
use Rattle.ecs_table.proofs.TableLists.{seen_moved, stored_moved, stored_paired}
use Rattle.ecs_table.proofs.Rows.{value_kept, value_zeros}
use Rattle.ecs_table.specs.Archetype.{Archetype, IsSound, IsStored, entity_at, no_entity, replaced, seen, value_of, with_last, with_moved}
use Rattle.ecs_table.proofs.table.Table.push_row.Goals as goal

pub copy_row-requires-clause-paired : goal.copy_row-requires-clause-paired
copy_row-requires-clause-paired g c =
    let a = c.self.inside in
    ap length c.push_zero.ensures.ids ∙ stored_paired a.ids a.values.ids a.values.block a.entities a.room c.self.invariant
    ∙ sym (ap (λ (v : Contents). length v.columns) c.push_zero.ensures.block ∙ length-map a.values.block.columns with_zero)

pub invariant_of-self : goal.invariant_of-self
invariant_of-self g c =
    let a = c.self.inside in let old : Contents = a.values.block in let s = c.args.source.now in let row = c.args.row in let ds = a.values.ids in let h = c.self.invariant in
    let zeros : c.push_zero.new.self.block ≡ with_zeros old = c.push_zero.ensures.block in let new : Contents = c.copy_row.new.self.block in
    let last : c.push_zero.new.self.block.len - 1 ≡ old.len = let e : c.push_zero.new.self.block.len ≡ old.len + 1 = ap (λ (v : Contents). v.len) zeros in omega arith in
    let long : (k : ℕ) (d : Values) → k < length old.columns → length (slice_index_or old.columns k d).items ≡ old.len = λ k d lt. (h.sound.shaped k d lt).rows ∙ sym h.rows in
    let columns : new.columns ≡ map (λ p. with_last (value_of s row p.0) p.1) (zip ds old.columns) =
    ap (λ (v : Contents). v.columns) c.copy_row.ensures.block
    ∙ (λ j. map (λ p. replaced (last j) (value_of s row p.0) p.1) (zip (c.push_zero.ensures.ids j) (zeros j).columns))
    ∙ replaced_zeros (value_of s row) old.len ds old.columns long in
    let same_ids : c.copy_row.new.self.ids ≡ ds = c.copy_row.ensures.ids ∙ c.push_zero.ensures.ids in
    let len : new.len ≡ old.len + 1 = ap (λ (v : Contents). v.len) c.copy_row.ensures.block ∙ ap (λ (v : Contents). v.len) zeros in
    let room : new.room ≡ old.room - 1 = ap (λ (v : Contents). v.room) c.copy_row.ensures.block ∙ ap (λ (v : Contents). v.room) zeros in
    let source = c.source.inside.entities.items in let entity : EntityId = c.at.result in
    let lt : row < length source = subst (λ (t : Archetype). row < length t.entities) (sym c.source.view_is) c.requires.row in
    let same : entity ≡ entity_at s row = c.at.ensures ∙ get_or_default source row entity no_entity lt ∙ ap (λ (t : Archetype). slice_index_or t.entities row no_entity) c.source.view_is in
    let pushed : c.push.new.self.items ≡ a.entities.items ++ entity ∷ [] = c.push.ensures.items in
    let grown : c.push.new.self.items ≡ a.entities.items ++ entity_at s row ∷ [] = pushed ∙ ap (λ x. a.entities.items ++ x ∷ []) same in
    let some : 0 < a.room = subst (λ (t : Archetype). 0 < t.room) (sym c.self.view_is) c.requires.room in
    subst (λ (l : List Id). IsStored a.ids l new c.push.new.self (a.room - 1)) (sym same_ids)
    (stored_moved s row a.ids ds old new a.entities c.push.new.self a.room h some columns len room grown c.push.ensures.capacity (ap length grown ∙ length_push a.entities.items (entity_at s row)))

pub returns-clause-came : goal.returns-clause-came
returns-clause-came g c =
    let a = c.self.inside in let old : Contents = a.values.block in let s = c.args.source.now in let row = c.args.row in let ds = a.values.ids in let h = c.self.invariant in
    let zeros : c.push_zero.new.self.block ≡ with_zeros old = c.push_zero.ensures.block in let new : Contents = c.copy_row.new.self.block in
    let last : c.push_zero.new.self.block.len - 1 ≡ old.len = let e : c.push_zero.new.self.block.len ≡ old.len + 1 = ap (λ (v : Contents). v.len) zeros in omega arith in
    let long : (k : ℕ) (d : Values) → k < length old.columns → length (slice_index_or old.columns k d).items ≡ old.len = λ k d lt. (h.sound.shaped k d lt).rows ∙ sym h.rows in
    let columns : new.columns ≡ map (λ p. with_last (value_of s row p.0) p.1) (zip ds old.columns) =
    ap (λ (v : Contents). v.columns) c.copy_row.ensures.block
    ∙ (λ j. map (λ p. replaced (last j) (value_of s row p.0) p.1) (zip (c.push_zero.ensures.ids j) (zeros j).columns))
    ∙ replaced_zeros (value_of s row) old.len ds old.columns long in
    let same_ids : c.copy_row.new.self.ids ≡ ds = c.copy_row.ensures.ids ∙ c.push_zero.ensures.ids in
    let source = c.source.inside.entities.items in let entity : EntityId = c.at.result in
    let lt : row < length source = subst (λ (t : Archetype). row < length t.entities) (sym c.source.view_is) c.requires.row in
    let same : entity ≡ entity_at s row = c.at.ensures ∙ get_or_default source row entity no_entity lt ∙ ap (λ (t : Archetype). slice_index_or t.entities row no_entity) c.source.view_is in
    let pushed : c.push.new.self.items ≡ a.entities.items ++ entity ∷ [] = c.push.ensures.items in
    let grown : c.push.new.self.items ≡ a.entities.items ++ entity_at s row ∷ [] = pushed ∙ ap (λ x. a.entities.items ++ x ∷ []) same in
    ap (λ (l : List Id). seen a.ids l new c.push.new.self.items (a.room - 1)) same_ids
    ∙ seen_moved s row a.ids ds old new a.entities.items c.push.new.self.items a.room columns grown ∙ ap (λ (t : Archetype). with_moved t s row) c.self.view_is

pub returns-clause-kept : goal.returns-clause-kept
returns-clause-kept g c i n bytes sized e =
    let t : Archetype = c.args.self.now in let s : Archetype = c.args.source.now in
    ap (λ (u : Archetype). value_of u (length t.entities) i) (returns-clause-came g c)
    ∙ value_kept t s c.args.row i n bytes c.requires.row (subst IsSound c.source.view_is c.source.invariant.sound) (subst IsSound c.self.view_is c.self.invariant.sound) c.requires.sizes sized e

pub returns-clause-zeros : goal.returns-clause-zeros
returns-clause-zeros g c i e =
    let t : Archetype = c.args.self.now in let s : Archetype = c.args.source.now in
    ap (λ (u : Archetype). value_of u (length t.entities) i) (returns-clause-came g c) ∙ value_zeros t s c.args.row i (subst IsSound c.self.view_is c.self.invariant.sound) e
