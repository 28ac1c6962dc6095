use Rattle.std.proofs.Common.{◌≡◌, ◌<◌, Some, length, sym, ap, subst, ◌∙◌}
use Rattle.ecs_table.specs.Archetype.{Archetype, size_of, with_value}
use Rattle.ecs_table.proofs.Rows.{shape_of_set, size_from_shape, sound_with_value}
use Rattle.table_store.specs.declared.store.TableSlot.{TableSlot}
use Rattle.table_store.specs.Store.{shape_of, table_at}
use Rattle.table_store.proofs.Changes.{contains, shape_here, lent_here, with_rows, written, written_kept, written_one_row, written_shapes, written_stored}
use Rattle.table_store.proofs.Marks.{marked_same}
use Rattle.table_store.proofs.Turns.{turns_written}
use Rattle.table_store.proofs.RowCalls.{ids_rise, row_set, sound_here}
use Rattle.table_store.proofs.store.TableStore.set_value.Goals as goal

pub index_mut-requires : goal.index_mut-requires
index_mut-requires g c = let t = with_rows (table_at c.args.self.now c.args.key) c.args.row c.requires.there in contains c.self.inside.tables c.self.inside.last c.args.self.now c.self.view_is c.args.key t.0 t.1

pub set_value-requires-clause-row : goal.set_value-requires-clause-row
set_value-requires-clause-row g c = let t = with_rows (table_at c.args.self.now c.args.key) c.args.row c.requires.there in
    subst (λ (v : Archetype). c.args.row < length v.entities) (sym (lent_here c.self.inside.tables c.self.inside.last c.args.self.now c.self.view_is c.args.key t.0 t.1 c.index_mut.result.now c.index_mut.ensures.value c.deref_mut.result.now c.deref_mut.ensures.value)) t.2

pub set_value-requires-clause-size : goal.set_value-requires-clause-size
set_value-requires-clause-size g c = let t = with_rows (table_at c.args.self.now c.args.key) c.args.row c.requires.there in
    let sized = size_from_shape t.0 c.args.id (length c.args.value.now) c.requires.data (c.requires.size (shape_of t.0) (shape_here c.args.self.now c.args.key t.0 t.1)) in
    subst (λ (v : Archetype). size_of v c.args.id ≡ Some (length c.args.value.now)) (sym (lent_here c.self.inside.tables c.self.inside.last c.args.self.now c.self.view_is c.args.key t.0 t.1 c.index_mut.result.now c.index_mut.ensures.value c.deref_mut.result.now c.deref_mut.ensures.value)) sized

pub invariant_of-self : goal.invariant_of-self
invariant_of-self g c = let t = with_rows (table_at c.args.self.now c.args.key) c.args.row c.requires.there in let x = c.index_mut.result.now in
    let sized = size_from_shape t.0 c.args.id (length c.args.value.now) c.requires.data (c.requires.size (shape_of t.0) (shape_here c.args.self.now c.args.key t.0 t.1)) in
    let sound = sound_here c.self.inside.tables c.self.inside.last c.args.self.now c.self.view_is c.args.key t.0 t.1 x c.index_mut.ensures.value c.self.inside.by_ids c.self.inside.by_serial c.self.invariant.0 in (
      written_kept c.self.inside.tables c.self.inside.last c.args.self.now c.self.view_is c.args.key t.0 t.1 x c.index_mut.ensures.value c.deref_mut.result.now c.deref_mut.ensures.value c.set_value.new.self (λ v. with_value v c.args.row c.args.id c.args.value.now) c.set_value.ensures c.self.inside.by_ids c.self.inside.by_serial c.self.invariant.0
          (shape_of_set t.0 c.args.row c.args.id c.args.value.now sound) (sound_with_value t.0 c.args.row c.args.id c.args.value.now t.2 sized sound),
      marked_same c.self.inside.tables c.args.key.slot c.index_mut.result.now c.index_mut.ensures.value c.self.inside.marks.filled c.self.invariant.1 _
          (ap (λ (v : Archetype). v.entities) c.set_value.ensures ∙ ap (λ (v : TableSlot _). v.table.entities) c.deref_mut.ensures.value),
      turns_written c.self.inside.tables c.args.key.slot c.index_mut.result.now c.index_mut.ensures.value c.self.inside.marks.in_turn c.self.invariant.2 _ (ap (λ (v : TableSlot _). v.serial) c.deref_mut.ensures.value),
    )

pub returns-clause-tables : goal.returns-clause-tables
returns-clause-tables g c = let t = with_rows (table_at c.args.self.now c.args.key) c.args.row c.requires.there in
    written c.self.inside.tables c.self.inside.last c.args.self.now c.self.view_is c.args.key t.0 t.1 c.index_mut.result.now c.index_mut.ensures.value c.deref_mut.result.now c.deref_mut.ensures.value c.set_value.new.self (λ v. with_value v c.args.row c.args.id c.args.value.now) c.set_value.ensures

pub returns-clause-shapes : goal.returns-clause-shapes
returns-clause-shapes g c = let t = with_rows (table_at c.args.self.now c.args.key) c.args.row c.requires.there in let x = c.index_mut.result.now in
    let sound = sound_here c.self.inside.tables c.self.inside.last c.args.self.now c.self.view_is c.args.key t.0 t.1 x c.index_mut.ensures.value c.self.inside.by_ids c.self.inside.by_serial c.self.invariant.0 in
    written_shapes c.self.inside.tables c.self.inside.last c.args.self.now c.self.view_is c.args.key t.0 t.1 x c.index_mut.ensures.value c.deref_mut.result.now c.deref_mut.ensures.value c.set_value.new.self (λ v. with_value v c.args.row c.args.id c.args.value.now) c.set_value.ensures (shape_of_set t.0 c.args.row c.args.id c.args.value.now sound)

pub returns-clause-rows : goal.returns-clause-rows
returns-clause-rows g c = let t = with_rows (table_at c.args.self.now c.args.key) c.args.row c.requires.there in let x = c.index_mut.result.now in
    let sized = size_from_shape t.0 c.args.id (length c.args.value.now) c.requires.data (c.requires.size (shape_of t.0) (shape_here c.args.self.now c.args.key t.0 t.1)) in
    let sound = sound_here c.self.inside.tables c.self.inside.last c.args.self.now c.self.view_is c.args.key t.0 t.1 x c.index_mut.ensures.value c.self.inside.by_ids c.self.inside.by_serial c.self.invariant.0 in
    let ascend = ids_rise c.self.inside.tables c.self.inside.last c.args.self.now c.self.view_is c.args.key t.0 t.1 c.self.inside.by_ids c.self.inside.by_serial c.self.invariant.0 in
    λ v is. written_one_row c.self.inside.tables c.self.inside.last c.args.self.now c.self.view_is c.args.key t.0 t.1 x c.index_mut.ensures.value c.deref_mut.result.now c.deref_mut.ensures.value c.set_value.new.self (λ u. with_value u c.args.row c.args.id c.args.value.now) c.set_value.ensures c.args.row _
    (row_set c.args.self.now c.args.key t.0 t.1 c.args.row t.2 c.args.id c.args.value.now sound sized (c.requires.size (shape_of t.0) (shape_here c.args.self.now c.args.key t.0 t.1)) ascend v is)

pub returns-clause-whole : goal.returns-clause-whole
returns-clause-whole g c = let t = with_rows (table_at c.args.self.now c.args.key) c.args.row c.requires.there in let x = c.index_mut.result.now in
    let sized = size_from_shape t.0 c.args.id (length c.args.value.now) c.requires.data (c.requires.size (shape_of t.0) (shape_here c.args.self.now c.args.key t.0 t.1)) in
    let sound = sound_here c.self.inside.tables c.self.inside.last c.args.self.now c.self.view_is c.args.key t.0 t.1 x c.index_mut.ensures.value c.self.inside.by_ids c.self.inside.by_serial c.self.invariant.0 in
    written_stored c.self.inside.tables c.self.inside.last c.args.self.now c.self.view_is c.args.key t.0 t.1 x c.index_mut.ensures.value c.deref_mut.result.now c.deref_mut.ensures.value c.set_value.new.self (λ v. with_value v c.args.row c.args.id c.args.value.now) c.set_value.ensures c.self.inside.by_ids c.self.inside.by_serial c.self.invariant.0
    (shape_of_set t.0 c.args.row c.args.id c.args.value.now sound) (sound_with_value t.0 c.args.row c.args.id c.args.value.now t.2 sized sound)
