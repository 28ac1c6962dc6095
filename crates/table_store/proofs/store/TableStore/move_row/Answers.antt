use Rattle.std.proofs.Common.{arith}
use Rattle.std.proofs.Common.{◌≡◌, ℕ, ◌<◌, ◌≤◌, ◌+◌, None, Some, List, false, length, slice_index_or, slice_set, nat_lt, not, sym, ap, subst, ◌∙◌}
use Rattle.slab.specs.Slab.{Updates, with_value}
use Rattle.ecs_id.specs.declared.EntityId.{EntityId}
use Rattle.ecs_table.specs.Archetype.{Archetype, HaveEqualSizes, moved_into}
use Rattle.table_store.specs.declared.slot_marks.SlotMarks.{SlotMarks}
use Rattle.table_store.specs.declared.store.TableSlot.{TableSlot}
use Rattle.table_store.specs.Store.{table_at}
use Rattle.table_store.specs.Rows.{moved_rows, row_at}
use Rattle.table_store.proofs.Changes.{contains, rows_here, with_room, with_rows}
use Rattle.table_store.proofs.RowCalls.{filled_is}
use Rattle.table_store.proofs.Slots.{one_some}
use Rattle.table_store.proofs.Marks.{marked_as, not_empty}
use Rattle.table_store.proofs.RowMoves.{moved_kept, moved_marked, moved_row, moved_shapes, moved_stored, moved_tables, moved_turns, moved_within, source_filled, source_within, target_filled, sizes_equal, source_is, still_room, target_is, target_there, vacant_there}
use Rattle.table_store.proofs.Turns.{turns_as}
use Rattle.table_store.proofs.store.TableStore.move_row.Goals as goal

pub remove-source-requires : goal.remove-source-requires
remove-source-requires g c = let t = with_rows (table_at c.args.self.now c.args.from) c.args.row c.requires.there in contains c.self.inside.tables c.self.inside.last c.args.self.now c.self.view_is c.args.from t.0 t.1

pub index_mut-requires : goal.index_mut-requires
index_mut-requires g c =
    let f = with_rows (table_at c.args.self.now c.args.from) c.args.row c.requires.there in let t = with_room (table_at c.args.self.now c.args.to) c.requires.room in
    target_there c.self.inside.tables c.remove-source.new.self c.remove-source.new.self c.self.inside.last c.args.self.now c.self.view_is c.self.inside.by_ids c.self.inside.by_serial c.self.invariant.0 c.args.from c.args.to c.requires.apart f.0 t.0 f.1 t.1 c.args.row f.2 c.remove-source.result c.remove-source.ensures.value c.remove-source.ensures.updates

pub move_to-moved-requires-clause-row : goal.move_to-moved-requires-clause-row
move_to-moved-requires-clause-row g c =
    let f = with_rows (table_at c.args.self.now c.args.from) c.args.row c.requires.there in let t = with_room (table_at c.args.self.now c.args.to) c.requires.room in
    subst (λ (v : Archetype). c.args.row < length v.entities) (sym (ap (λ (v : TableSlot _). v.table) c.deref_mut-2.ensures.value ∙ source_is c.self.inside.tables c.remove-source.new.self c.remove-source.new.self c.self.inside.last c.args.self.now c.self.view_is c.self.inside.by_ids c.self.inside.by_serial c.self.invariant.0 c.args.from c.args.to c.requires.apart f.0 t.0 f.1 t.1 c.args.row f.2 c.remove-source.result c.remove-source.ensures.value c.remove-source.ensures.updates)) f.2

pub move_to-moved-requires-clause-room : goal.move_to-moved-requires-clause-room
move_to-moved-requires-clause-room g c =
    let f = with_rows (table_at c.args.self.now c.args.from) c.args.row c.requires.there in let t = with_room (table_at c.args.self.now c.args.to) c.requires.room in
    subst (λ (v : Archetype). 0 < v.room) (sym (ap (λ (v : TableSlot _). v.table) c.deref_mut.ensures.value ∙ target_is c.self.inside.tables c.remove-source.new.self c.remove-source.new.self c.self.inside.last c.args.self.now c.self.view_is c.self.inside.by_ids c.self.inside.by_serial c.self.invariant.0 c.args.from c.args.to c.requires.apart f.0 t.0 f.1 t.1 c.args.row f.2 c.remove-source.result c.remove-source.ensures.value c.remove-source.ensures.updates c.index_mut.result.now c.index_mut.ensures.value)) t.2

pub move_to-moved-requires-clause-sizes : goal.move_to-moved-requires-clause-sizes
move_to-moved-requires-clause-sizes g c =
    let f = with_rows (table_at c.args.self.now c.args.from) c.args.row c.requires.there in let t = with_room (table_at c.args.self.now c.args.to) c.requires.room in
    subst (λ (v : TableSlot _). HaveEqualSizes v.table c.deref_mut.result.now.table) (sym c.deref_mut-2.ensures.value) (subst (λ (v : TableSlot _). HaveEqualSizes c.remove-source.result.value.table v.table) (sym c.deref_mut.ensures.value) (sizes_equal c.self.inside.tables c.remove-source.new.self c.remove-source.new.self c.self.inside.last c.args.self.now c.self.view_is c.self.inside.by_ids c.self.inside.by_serial c.self.invariant.0 c.args.from c.args.to c.requires.apart f.0 t.0 f.1 t.1 c.args.row f.2 c.remove-source.result c.remove-source.ensures.value c.remove-source.ensures.updates c.index_mut.result.now c.index_mut.ensures.value))

pub insert_reserved-requires : goal.insert_reserved-requires
insert_reserved-requires g c =
    subst (λ n. n + 1 ≤ c.remove-source.new.self.capacity) (sym (still_room c.remove-source.new.self c.args.to.slot c.index_mut.result.now _ c.index_mut.ensures.value)) c.remove-source.ensures.room

pub fill-requires-clause-within : goal.fill-requires-clause-within
fill-requires-clause-within g c =
    let f = with_rows (table_at c.args.self.now c.args.from) c.args.row c.requires.there in let t = with_room (table_at c.args.self.now c.args.to) c.requires.room in
    (moved_within c.self.inside.tables c.remove-source.new.self c.remove-source.new.self c.self.inside.last c.args.self.now c.self.view_is c.self.inside.by_ids c.self.inside.by_serial c.self.invariant.0 c.args.from c.args.to c.requires.apart f.0 t.0 f.1 t.1 c.args.row f.2 c.remove-source.result c.remove-source.ensures.value c.remove-source.ensures.updates c.index_mut.result.now c.index_mut.ensures.value c.self.inside.marks.filled c.self.invariant.1).1

pub fill-requires-clause-filled : goal.fill-requires-clause-filled
fill-requires-clause-filled g c =
    let f = with_rows (table_at c.args.self.now c.args.from) c.args.row c.requires.there in let t = with_room (table_at c.args.self.now c.args.to) c.requires.room in
    λ more. target_filled c.self.inside.tables c.remove-source.new.self c.remove-source.new.self c.self.inside.last c.args.self.now c.self.view_is c.self.inside.by_ids c.self.inside.by_serial c.self.invariant.0 c.args.from c.args.to c.requires.apart f.0 t.0 f.1 t.1 c.args.row f.2 c.remove-source.result c.remove-source.ensures.value c.remove-source.ensures.updates c.index_mut.result.now c.index_mut.ensures.value c.self.inside.marks.filled c.self.invariant.1 c.move_to-moved.result.0
    (c.move_to-moved.ensures.row ∙ ap (λ (v : TableSlot _). length v.table.entities) c.deref_mut.ensures.value) more

pub take_row-requires-clause-within : goal.take_row-requires-clause-within
take_row-requires-clause-within g c =
    let f = with_rows (table_at c.args.self.now c.args.from) c.args.row c.requires.there in let t = with_room (table_at c.args.self.now c.args.to) c.requires.room in
    subst (λ (m : SlotMarks _). c.args.from.slot < length m.filled) (sym c.fill.ensures) (source_within c.self.inside.tables c.remove-source.new.self c.remove-source.new.self c.self.inside.last c.args.self.now c.self.view_is c.self.inside.by_ids c.self.inside.by_serial c.self.invariant.0 c.args.from c.args.to c.requires.apart f.0 t.0 f.1 t.1 c.args.row f.2 c.remove-source.result c.remove-source.ensures.value c.remove-source.ensures.updates c.index_mut.result.now c.index_mut.ensures.value c.self.inside.marks.filled c.self.invariant.1)

pub take_row-requires-clause-filled : goal.take_row-requires-clause-filled
take_row-requires-clause-filled g c =
    let f = with_rows (table_at c.args.self.now c.args.from) c.args.row c.requires.there in let t = with_room (table_at c.args.self.now c.args.to) c.requires.room in
    ap (λ (m : SlotMarks _). slice_index_or m.filled c.args.from.slot false) c.fill.ensures ∙ source_filled c.self.inside.tables c.remove-source.new.self c.remove-source.new.self c.self.inside.last c.args.self.now c.self.view_is c.self.inside.by_ids c.self.inside.by_serial c.self.invariant.0 c.args.from c.args.to c.requires.apart f.0 t.0 f.1 t.1 c.args.row f.2 c.remove-source.result c.remove-source.ensures.value c.remove-source.ensures.updates c.index_mut.result.now c.index_mut.ensures.value c.self.inside.marks.filled c.self.invariant.1

pub invariant_of-self : goal.invariant_of-self
invariant_of-self g c =
    let f = with_rows (table_at c.args.self.now c.args.from) c.args.row c.requires.there in let t = with_room (table_at c.args.self.now c.args.to) c.requires.room in
    let u = subst (λ n. Updates (with_value c.remove-source.new.self c.args.to.slot (record c.index_mut.result.now { value = record c.deref_mut.result.now { table = c.move_to-moved.new.target } })) c.insert_reserved.new.self n (Some (record c.remove-source.result { value = record c.deref_mut-2.result.now { table = c.move_to-moved.new.self } })))
    (c.insert_reserved.ensures.key ∙ c.remove-source.ensures.key_is_next) c.insert_reserved.ensures.updates in (
      moved_kept c.self.inside.tables c.remove-source.new.self c.insert_reserved.new.self c.self.inside.last c.args.self.now c.self.view_is c.self.inside.by_ids c.self.inside.by_serial c.self.invariant.0 c.args.from c.args.to c.requires.apart f.0 t.0 f.1 t.1 c.args.row f.2 c.remove-source.result c.remove-source.ensures.value c.remove-source.ensures.updates c.index_mut.result.now c.index_mut.ensures.value c.deref_mut-2.result.now c.deref_mut.result.now c.deref_mut-2.ensures.value c.deref_mut.ensures.value c.move_to-moved.new.self c.move_to-moved.new.target c.move_to-moved.ensures.left c.move_to-moved.ensures.came u,
      marked_as _ _ _ (ap (λ (m : SlotMarks _). m.filled) c.take_row.ensures ∙ ap (λ (m : SlotMarks _). slice_set m.filled c.args.from.slot (not c.is_empty-stays_filled.result)) c.fill.ensures) (
          moved_marked c.self.inside.tables c.remove-source.new.self c.insert_reserved.new.self c.self.inside.last c.args.self.now c.self.view_is c.self.inside.by_ids c.self.inside.by_serial c.self.invariant.0 c.args.from c.args.to c.requires.apart f.0 t.0 f.1 t.1 c.args.row f.2 c.remove-source.result c.remove-source.ensures.value c.remove-source.ensures.updates c.index_mut.result.now c.index_mut.ensures.value c.deref_mut-2.result.now c.deref_mut.result.now c.deref_mut-2.ensures.value c.deref_mut.ensures.value c.move_to-moved.new.self c.move_to-moved.new.target c.move_to-moved.ensures.left c.move_to-moved.ensures.came u
          c.self.inside.marks.filled c.self.invariant.1 _ (ap not c.is_empty-stays_filled.ensures ∙ not_empty (length c.rows.result.now) ∙ ap (λ (es : List EntityId). nat_lt 0 (length es)) c.rows.ensures.value ∙ ap (λ (v : TableSlot _). nat_lt 0 (length v.table.entities)) c.deref.ensures)),
      turns_as _ _ _ (ap (λ (m : SlotMarks _). m.in_turn) c.take_row.ensures ∙ ap (λ (m : SlotMarks _). m.in_turn) c.fill.ensures) (
          moved_turns c.self.inside.tables c.remove-source.new.self c.insert_reserved.new.self c.self.inside.last c.args.self.now c.self.view_is c.self.inside.by_ids c.self.inside.by_serial c.self.invariant.0 c.args.from c.args.to c.requires.apart f.0 t.0 f.1 t.1 c.args.row f.2 c.remove-source.result c.remove-source.ensures.value c.remove-source.ensures.updates c.index_mut.result.now c.index_mut.ensures.value c.deref_mut-2.result.now c.deref_mut.result.now c.deref_mut-2.ensures.value c.deref_mut.ensures.value c.move_to-moved.new.self c.move_to-moved.new.target c.move_to-moved.ensures.left c.move_to-moved.ensures.came u c.self.inside.marks.in_turn c.self.invariant.2),
    )

pub returns-clause-row : goal.returns-clause-row
returns-clause-row g c =
    let f = with_rows (table_at c.args.self.now c.args.from) c.args.row c.requires.there in let t = with_room (table_at c.args.self.now c.args.to) c.requires.room in
    let n : c.move_to-moved.result.0 ≡ length t.0.entities = c.move_to-moved.ensures.row ∙ ap (λ (v : Archetype). length v.entities) (ap (λ (v : TableSlot _). v.table) c.deref_mut.ensures.value ∙ target_is c.self.inside.tables c.remove-source.new.self c.remove-source.new.self c.self.inside.last c.args.self.now c.self.view_is c.self.inside.by_ids c.self.inside.by_serial c.self.invariant.0 c.args.from c.args.to c.requires.apart f.0 t.0 f.1 t.1 c.args.row f.2 c.remove-source.result c.remove-source.ensures.value c.remove-source.ensures.updates c.index_mut.result.now c.index_mut.ensures.value) in
    n ∙ sym (rows_here c.args.self.now c.args.to t.0 t.1)

pub returns-clause-tables : goal.returns-clause-tables
returns-clause-tables g c =
    let f = with_rows (table_at c.args.self.now c.args.from) c.args.row c.requires.there in let t = with_room (table_at c.args.self.now c.args.to) c.requires.room in
    let u = subst (λ n. Updates (with_value c.remove-source.new.self c.args.to.slot (record c.index_mut.result.now { value = record c.deref_mut.result.now { table = c.move_to-moved.new.target } })) c.insert_reserved.new.self n (Some (record c.remove-source.result { value = record c.deref_mut-2.result.now { table = c.move_to-moved.new.self } })))
    (c.insert_reserved.ensures.key ∙ c.remove-source.ensures.key_is_next) c.insert_reserved.ensures.updates in
    λ s at q. moved_tables c.self.inside.tables c.remove-source.new.self c.insert_reserved.new.self c.self.inside.last c.args.self.now c.self.view_is c.self.inside.by_ids c.self.inside.by_serial c.self.invariant.0 c.args.from c.args.to c.requires.apart f.0 t.0 f.1 t.1 c.args.row f.2 c.remove-source.result c.remove-source.ensures.value c.remove-source.ensures.updates c.index_mut.result.now c.index_mut.ensures.value c.deref_mut-2.result.now c.deref_mut.result.now c.deref_mut-2.ensures.value c.deref_mut.ensures.value c.move_to-moved.new.self c.move_to-moved.new.target c.move_to-moved.ensures.left c.move_to-moved.ensures.came u q ∙ ap (λ v. Rattle.table_store.specs.Store.moved_at c.args.self.now c.args.from c.args.to v c.args.row q) (one_some f.0 s (sym f.1 ∙ at))

pub returns-clause-shapes : goal.returns-clause-shapes
returns-clause-shapes g c =
    let f = with_rows (table_at c.args.self.now c.args.from) c.args.row c.requires.there in let t = with_room (table_at c.args.self.now c.args.to) c.requires.room in
    let u = subst (λ n. Updates (with_value c.remove-source.new.self c.args.to.slot (record c.index_mut.result.now { value = record c.deref_mut.result.now { table = c.move_to-moved.new.target } })) c.insert_reserved.new.self n (Some (record c.remove-source.result { value = record c.deref_mut-2.result.now { table = c.move_to-moved.new.self } })))
    (c.insert_reserved.ensures.key ∙ c.remove-source.ensures.key_is_next) c.insert_reserved.ensures.updates in
    moved_shapes c.self.inside.tables c.remove-source.new.self c.insert_reserved.new.self c.self.inside.last c.args.self.now c.self.view_is c.self.inside.by_ids c.self.inside.by_serial c.self.invariant.0 c.args.from c.args.to c.requires.apart f.0 t.0 f.1 t.1 c.args.row f.2 c.remove-source.result c.remove-source.ensures.value c.remove-source.ensures.updates c.index_mut.result.now c.index_mut.ensures.value c.deref_mut-2.result.now c.deref_mut.result.now c.deref_mut-2.ensures.value c.deref_mut.ensures.value c.move_to-moved.new.self c.move_to-moved.new.target c.move_to-moved.ensures.left c.move_to-moved.ensures.came u

pub returns-clause-vacant : goal.returns-clause-vacant
returns-clause-vacant g c =
    let f = with_rows (table_at c.args.self.now c.args.from) c.args.row c.requires.there in let t = with_room (table_at c.args.self.now c.args.to) c.requires.room in
    let u = subst (λ n. Updates (with_value c.remove-source.new.self c.args.to.slot (record c.index_mut.result.now { value = record c.deref_mut.result.now { table = c.move_to-moved.new.target } })) c.insert_reserved.new.self n (Some (record c.remove-source.result { value = record c.deref_mut-2.result.now { table = c.move_to-moved.new.self } })))
    (c.insert_reserved.ensures.key ∙ c.remove-source.ensures.key_is_next) c.insert_reserved.ensures.updates in
    let n : c.move_to-moved.result.0 ≡ length t.0.entities = c.move_to-moved.ensures.row ∙ ap (λ (v : Archetype). length v.entities) (ap (λ (v : TableSlot _). v.table) c.deref_mut.ensures.value ∙ target_is c.self.inside.tables c.remove-source.new.self c.remove-source.new.self c.self.inside.last c.args.self.now c.self.view_is c.self.inside.by_ids c.self.inside.by_serial c.self.invariant.0 c.args.from c.args.to c.requires.apart f.0 t.0 f.1 t.1 c.args.row f.2 c.remove-source.result c.remove-source.ensures.value c.remove-source.ensures.updates c.index_mut.result.now c.index_mut.ensures.value) in
    subst (λ (m : ℕ). row_at c.args.self.now (record { table = c.args.to; row = m }) ≡ None) (sym n) (vacant_there c.self.inside.tables c.remove-source.new.self c.insert_reserved.new.self c.self.inside.last c.args.self.now c.self.view_is c.self.inside.by_ids c.self.inside.by_serial c.self.invariant.0 c.args.from c.args.to c.requires.apart f.0 t.0 f.1 t.1 c.args.row f.2 c.remove-source.result c.remove-source.ensures.value c.remove-source.ensures.updates c.index_mut.result.now c.index_mut.ensures.value c.deref_mut-2.result.now c.deref_mut.result.now c.deref_mut-2.ensures.value c.deref_mut.ensures.value c.move_to-moved.new.self c.move_to-moved.new.target c.move_to-moved.ensures.left c.move_to-moved.ensures.came u)

pub returns-clause-rows : goal.returns-clause-rows
returns-clause-rows g c =
    let f = with_rows (table_at c.args.self.now c.args.from) c.args.row c.requires.there in let t = with_room (table_at c.args.self.now c.args.to) c.requires.room in
    let u = subst (λ n. Updates (with_value c.remove-source.new.self c.args.to.slot (record c.index_mut.result.now { value = record c.deref_mut.result.now { table = c.move_to-moved.new.target } })) c.insert_reserved.new.self n (Some (record c.remove-source.result { value = record c.deref_mut-2.result.now { table = c.move_to-moved.new.self } })))
    (c.insert_reserved.ensures.key ∙ c.remove-source.ensures.key_is_next) c.insert_reserved.ensures.updates in
    let n : c.move_to-moved.result.0 ≡ length t.0.entities = c.move_to-moved.ensures.row ∙ ap (λ (v : Archetype). length v.entities) (ap (λ (v : TableSlot _). v.table) c.deref_mut.ensures.value ∙ target_is c.self.inside.tables c.remove-source.new.self c.remove-source.new.self c.self.inside.last c.args.self.now c.self.view_is c.self.inside.by_ids c.self.inside.by_serial c.self.invariant.0 c.args.from c.args.to c.requires.apart f.0 t.0 f.1 t.1 c.args.row f.2 c.remove-source.result c.remove-source.ensures.value c.remove-source.ensures.updates c.index_mut.result.now c.index_mut.ensures.value) in
    λ v h is shape p. moved_row c.self.inside.tables c.remove-source.new.self c.insert_reserved.new.self c.self.inside.last c.args.self.now c.self.view_is c.self.inside.by_ids c.self.inside.by_serial c.self.invariant.0 c.args.from c.args.to c.requires.apart f.0 t.0 f.1 t.1 c.args.row f.2 c.remove-source.result c.remove-source.ensures.value c.remove-source.ensures.updates c.index_mut.result.now c.index_mut.ensures.value c.deref_mut-2.result.now c.deref_mut.result.now c.deref_mut-2.ensures.value c.deref_mut.ensures.value c.move_to-moved.new.self c.move_to-moved.new.target c.move_to-moved.ensures.left c.move_to-moved.ensures.came u v h is shape p
    ∙ ap (λ (m : ℕ). moved_rows c.args.self.now (record { table = c.args.from; row = c.args.row }) v (record { table = c.args.to; row = m }) h p) (sym n)

pub returns-clause-filled : goal.returns-clause-filled
returns-clause-filled g c =
    let f = with_rows (table_at c.args.self.now c.args.from) c.args.row c.requires.there in let t = with_room (table_at c.args.self.now c.args.to) c.requires.room in
    c.move_to-moved.ensures.moved ∙ ap (λ v. moved_into v c.args.row) (ap (λ (v : TableSlot _). v.table) c.deref_mut-2.ensures.value ∙ source_is c.self.inside.tables c.remove-source.new.self c.remove-source.new.self c.self.inside.last c.args.self.now c.self.view_is c.self.inside.by_ids c.self.inside.by_serial c.self.invariant.0 c.args.from c.args.to c.requires.apart f.0 t.0 f.1 t.1 c.args.row f.2 c.remove-source.result c.remove-source.ensures.value c.remove-source.ensures.updates) ∙ filled_is c.args.self.now c.args.from f.0 f.1 c.args.row f.2

pub returns-clause-whole : goal.returns-clause-whole
returns-clause-whole g c =
    let f = with_rows (table_at c.args.self.now c.args.from) c.args.row c.requires.there in let t = with_room (table_at c.args.self.now c.args.to) c.requires.room in
    let u = subst (λ n. Updates (with_value c.remove-source.new.self c.args.to.slot (record c.index_mut.result.now { value = record c.deref_mut.result.now { table = c.move_to-moved.new.target } })) c.insert_reserved.new.self n (Some (record c.remove-source.result { value = record c.deref_mut-2.result.now { table = c.move_to-moved.new.self } })))
    (c.insert_reserved.ensures.key ∙ c.remove-source.ensures.key_is_next) c.insert_reserved.ensures.updates in
    moved_stored c.self.inside.tables c.remove-source.new.self c.insert_reserved.new.self c.self.inside.last c.args.self.now c.self.view_is c.self.inside.by_ids c.self.inside.by_serial c.self.invariant.0 c.args.from c.args.to c.requires.apart f.0 t.0 f.1 t.1 c.args.row f.2 c.remove-source.result c.remove-source.ensures.value c.remove-source.ensures.updates c.index_mut.result.now c.index_mut.ensures.value c.deref_mut-2.result.now c.deref_mut.result.now c.deref_mut-2.ensures.value c.deref_mut.ensures.value c.move_to-moved.new.self c.move_to-moved.new.target c.move_to-moved.ensures.left c.move_to-moved.ensures.came u

pub overflow_cast-from : goal.overflow_cast-from
overflow_cast-from g c = grind arith

pub overflow_cast-to : goal.overflow_cast-to
overflow_cast-to g c = grind arith

pub returns-clause-last : goal.returns-clause-last
returns-clause-last g c = grind arith
