use Rattle.std.proofs.Common.{◌<◌, ◌-◌, ◌==◌, Some, cond, length, nat_lt, true, sym, ap, subst, ◌∙◌, arith}
use Rattle.ecs_table.specs.Archetype.{Archetype, IsSound, with_row}
use Rattle.ecs_table.proofs.Soundness.{sound_with_row}
use Rattle.ecs_table.proofs.Rows.{shape_of_appended, row_of_appended, row_past}
use Rattle.table_store.specs.declared.store.TableSlot.{TableSlot}
use Rattle.table_store.specs.declared.slot_marks.SlotMarks.{SlotMarks}
use Rattle.table_store.specs.Store.{table_at, shape_of}
use Rattle.table_store.specs.Rows.{row_of, zero_cells}
use Rattle.table_store.proofs.Slots.{one_some}
use Rattle.table_store.proofs.Changes.{contains, with_room, lent_here, rows_here, room_here, row_here, shape_here, written, written_shapes, written_kept, written_one_row, written_room, written_stored}
use Rattle.table_store.proofs.Marks.{filled_already, marked_as, marked_written, not_first, pushed_fills, slot_within}
use Rattle.table_store.proofs.Turns.{turns_as, turns_written}
use Rattle.table_store.proofs.store.TableStore.append.Goals as goal

pub index_mut-requires : goal.index_mut-requires
index_mut-requires g c = let t = with_room (table_at c.args.self.now c.args.key) c.requires.room in contains c.self.inside.tables c.self.inside.last c.args.self.now c.self.view_is c.args.key t.0 t.1

pub append-requires : goal.append-requires
append-requires g c = let t = with_room (table_at c.args.self.now c.args.key) c.requires.room in
    subst (λ (v : Archetype). 0 < v.room) (sym (lent_here c.self.inside.tables c.self.inside.last c.args.self.now c.self.view_is c.args.key t.0 t.1 c.index_mut.result.now c.index_mut.ensures.value c.deref_mut.result.now c.deref_mut.ensures.value)) t.2

pub fill-requires-clause-within : goal.fill-requires-clause-within
fill-requires-clause-within g c = slot_within c.self.inside.tables c.args.key.slot c.index_mut.result.now c.index_mut.ensures.value c.self.inside.marks.filled c.self.invariant.1

pub fill-requires-clause-filled : goal.fill-requires-clause-filled
fill-requires-clause-filled g c = λ more.
    filled_already c.self.inside.tables c.args.key.slot c.index_mut.result.now c.index_mut.ensures.value c.self.inside.marks.filled c.self.invariant.1
    (not_first _ _ (ap length c.rows-row.ensures.value ∙ ap (λ (v : TableSlot _). length v.table.entities) c.deref_mut.ensures.value) more)

pub invariant_of-self : goal.invariant_of-self
invariant_of-self g c = let t = with_room (table_at c.args.self.now c.args.key) c.requires.room in
    let here = lent_here c.self.inside.tables c.self.inside.last c.args.self.now c.self.view_is c.args.key t.0 t.1 c.index_mut.result.now c.index_mut.ensures.value c.deref_mut.result.now c.deref_mut.ensures.value in
    let sound = subst IsSound here c.rows-row.ensures.sound in (
      written_kept c.self.inside.tables c.self.inside.last c.args.self.now c.self.view_is c.args.key t.0 t.1 c.index_mut.result.now c.index_mut.ensures.value c.deref_mut.result.now c.deref_mut.ensures.value c.append.new.self (λ v. with_row v c.args.entity) c.append.ensures c.self.inside.by_ids c.self.inside.by_serial c.self.invariant.0 (shape_of_appended t.0 c.args.entity) (sound_with_row t.0 c.args.entity sound),
      marked_as _ _ _ (ap (λ (m : SlotMarks _). m.filled) c.fill.ensures) (
          marked_written c.self.inside.tables c.args.key.slot c.index_mut.result.now c.index_mut.ensures.value c.self.inside.marks.filled c.self.invariant.1 _ true
          (pushed_fills c.deref_mut.result.now.table.entities c.args.entity ∙ ap (λ (v : Archetype). nat_lt 0 (length v.entities)) (sym c.append.ensures))),
      turns_as _ _ _ (ap (λ (m : SlotMarks _). m.in_turn) c.fill.ensures) (
          turns_written c.self.inside.tables c.args.key.slot c.index_mut.result.now c.index_mut.ensures.value c.self.inside.marks.in_turn c.self.invariant.2 _ (ap (λ (v : TableSlot _). v.serial) c.deref_mut.ensures.value)),
    )

pub returns-clause-row : goal.returns-clause-row
returns-clause-row g c = let t = with_room (table_at c.args.self.now c.args.key) c.requires.room in
    let here = lent_here c.self.inside.tables c.self.inside.last c.args.self.now c.self.view_is c.args.key t.0 t.1 c.index_mut.result.now c.index_mut.ensures.value c.deref_mut.result.now c.deref_mut.ensures.value in
    let sound = subst IsSound here c.rows-row.ensures.sound in
    ap length c.rows-row.ensures.value ∙ ap (λ (v : Archetype). length v.entities) here ∙ sym (rows_here c.args.self.now c.args.key t.0 t.1)

pub returns-clause-tables : goal.returns-clause-tables
returns-clause-tables g c = let t = with_room (table_at c.args.self.now c.args.key) c.requires.room in written c.self.inside.tables c.self.inside.last c.args.self.now c.self.view_is c.args.key t.0 t.1 c.index_mut.result.now c.index_mut.ensures.value c.deref_mut.result.now c.deref_mut.ensures.value c.append.new.self (λ v. with_row v c.args.entity) c.append.ensures

pub returns-clause-shapes : goal.returns-clause-shapes
returns-clause-shapes g c = let t = with_room (table_at c.args.self.now c.args.key) c.requires.room in written_shapes c.self.inside.tables c.self.inside.last c.args.self.now c.self.view_is c.args.key t.0 t.1 c.index_mut.result.now c.index_mut.ensures.value c.deref_mut.result.now c.deref_mut.ensures.value c.append.new.self (λ v. with_row v c.args.entity) c.append.ensures (shape_of_appended t.0 c.args.entity)

pub returns-clause-vacant : goal.returns-clause-vacant
returns-clause-vacant g c = let t = with_room (table_at c.args.self.now c.args.key) c.requires.room in
    let here = lent_here c.self.inside.tables c.self.inside.last c.args.self.now c.self.view_is c.args.key t.0 t.1 c.index_mut.result.now c.index_mut.ensures.value c.deref_mut.result.now c.deref_mut.ensures.value in
    let sound = subst IsSound here c.rows-row.ensures.sound in
    let n = ap length c.rows-row.ensures.value ∙ ap (λ (v : Archetype). length v.entities) here in
    row_here c.args.self.now c.args.key t.0 t.1 (length c.rows-row.result.now) ∙ row_past t.0 (length c.rows-row.result.now) (omega (arith, n))

pub returns-clause-rows : goal.returns-clause-rows
returns-clause-rows g c = let t = with_room (table_at c.args.self.now c.args.key) c.requires.room in
    let here = lent_here c.self.inside.tables c.self.inside.last c.args.self.now c.self.view_is c.args.key t.0 t.1 c.index_mut.result.now c.index_mut.ensures.value c.deref_mut.result.now c.deref_mut.ensures.value in
    let sound = subst IsSound here c.rows-row.ensures.sound in
    let n = ap length c.rows-row.ensures.value ∙ ap (λ (v : Archetype). length v.entities) here in
    λ f is. written_one_row c.self.inside.tables c.self.inside.last c.args.self.now c.self.view_is c.args.key t.0 t.1 c.index_mut.result.now c.index_mut.ensures.value c.deref_mut.result.now c.deref_mut.ensures.value c.append.new.self (λ v. with_row v c.args.entity) c.append.ensures (length c.rows-row.result.now) (c.args.entity, zero_cells f)
    (λ m. row_of_appended t.0 c.args.entity m sound ∙ (λ i. cond (m == sym n i) (Some (c.args.entity, zero_cells (one_some (shape_of t.0) f (sym (shape_here c.args.self.now c.args.key t.0 t.1) ∙ is) i))) (row_of t.0 m)))

pub returns-clause-left : goal.returns-clause-left
returns-clause-left g c = let t = with_room (table_at c.args.self.now c.args.key) c.requires.room in written_room c.self.inside.tables c.self.inside.last c.args.self.now c.self.view_is c.args.key t.0 t.1 c.index_mut.result.now c.index_mut.ensures.value c.deref_mut.result.now c.deref_mut.ensures.value c.append.new.self (λ v. with_row v c.args.entity) c.append.ensures ∙ ap (λ n. n - 1) (sym (room_here c.args.self.now c.args.key t.0 t.1))

pub returns-clause-whole : goal.returns-clause-whole
returns-clause-whole g c = let t = with_room (table_at c.args.self.now c.args.key) c.requires.room in
    let here = lent_here c.self.inside.tables c.self.inside.last c.args.self.now c.self.view_is c.args.key t.0 t.1 c.index_mut.result.now c.index_mut.ensures.value c.deref_mut.result.now c.deref_mut.ensures.value in
    let sound = subst IsSound here c.rows-row.ensures.sound in
    written_stored c.self.inside.tables c.self.inside.last c.args.self.now c.self.view_is c.args.key t.0 t.1 c.index_mut.result.now c.index_mut.ensures.value c.deref_mut.result.now c.deref_mut.ensures.value c.append.new.self (λ v. with_row v c.args.entity) c.append.ensures c.self.inside.by_ids c.self.inside.by_serial c.self.invariant.0 (shape_of_appended t.0 c.args.entity) (sound_with_row t.0 c.args.entity sound)
