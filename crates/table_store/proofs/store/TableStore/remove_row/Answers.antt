use Rattle.std.proofs.Common.{arith, ◌<◌, List, length, ◌-◌, nat_lt, sym, ap, subst, ◌∙◌}
use Rattle.ecs_id.specs.declared.EntityId.{EntityId}
use Rattle.ecs_table.specs.Archetype.{Archetype, without_row}
use Rattle.ecs_table.proofs.Soundness.{length_without, sound_without_row}
use Rattle.ecs_table.proofs.Rows.{shape_of_removed}
use Rattle.table_store.specs.declared.store.TableSlot.{TableSlot}
use Rattle.table_store.specs.declared.slot_marks.SlotMarks.{SlotMarks}
use Rattle.table_store.specs.Store.{table_at}
use Rattle.table_store.proofs.Changes.{contains, with_rows, lent_here, table_here, written, written_row, written_shapes, written_kept, written_stored}
use Rattle.table_store.proofs.Marks.{filled_already, marked_as, marked_written, one_less, slot_within}
use Rattle.table_store.proofs.Turns.{turns_as, turns_written}
use Rattle.table_store.proofs.RowCalls.{filled_is, removed_is, sound_here}
use Rattle.table_store.proofs.store.TableStore.remove_row.Goals as goal

pub index_mut-requires : goal.index_mut-requires
index_mut-requires g c = let t = with_rows (table_at c.args.self.now c.args.key) c.args.row c.requires.there in contains c.self.inside.tables c.self.inside.last c.args.self.now c.self.view_is c.args.key t.0 t.1

pub remove_row-requires : goal.remove_row-requires
remove_row-requires g c = let t = with_rows (table_at c.args.self.now c.args.key) c.args.row c.requires.there in
    subst (λ (v : Archetype). c.args.row < length v.entities) (sym (lent_here c.self.inside.tables c.self.inside.last c.args.self.now c.self.view_is c.args.key t.0 t.1 c.index_mut.result.now c.index_mut.ensures.value c.deref_mut.result.now c.deref_mut.ensures.value)) t.2

pub take_row-requires-clause-within : goal.take_row-requires-clause-within
take_row-requires-clause-within g c = slot_within c.self.inside.tables c.args.key.slot c.index_mut.result.now c.index_mut.ensures.value c.self.inside.marks.filled c.self.invariant.1

pub take_row-requires-clause-filled : goal.take_row-requires-clause-filled
take_row-requires-clause-filled g c = let t = with_rows (table_at c.args.self.now c.args.key) c.args.row c.requires.there in
    filled_already c.self.inside.tables c.args.key.slot c.index_mut.result.now c.index_mut.ensures.value c.self.inside.marks.filled c.self.invariant.1
    (subst (λ (v : Archetype). 0 < length v.entities) (sym (table_here c.self.inside.tables c.self.inside.last c.args.self.now c.self.view_is c.args.key t.0 t.1 c.index_mut.result.now c.index_mut.ensures.value)) (omega (arith, t.2)))

pub invariant_of-self : goal.invariant_of-self
invariant_of-self g c = let t = with_rows (table_at c.args.self.now c.args.key) c.args.row c.requires.there in
    let sound = sound_here c.self.inside.tables c.self.inside.last c.args.self.now c.self.view_is c.args.key t.0 t.1 c.index_mut.result.now c.index_mut.ensures.value c.self.inside.by_ids c.self.inside.by_serial c.self.invariant.0 in (
      written_kept c.self.inside.tables c.self.inside.last c.args.self.now c.self.view_is c.args.key t.0 t.1 c.index_mut.result.now c.index_mut.ensures.value c.deref_mut.result.now c.deref_mut.ensures.value c.remove_row.new.self (λ v. without_row v c.args.row) c.remove_row.ensures.row c.self.inside.by_ids c.self.inside.by_serial c.self.invariant.0 (shape_of_removed t.0 c.args.row) (sound_without_row t.0 c.args.row t.2 sound),
      marked_as _ _ _ (ap (λ (m : SlotMarks _). m.filled) c.take_row.ensures) (
          marked_written c.self.inside.tables c.args.key.slot c.index_mut.result.now c.index_mut.ensures.value c.self.inside.marks.filled c.self.invariant.1 _ _
          (one_less (length c.rows.result.now) ∙ ap (λ (es : List EntityId). nat_lt 0 (length es - 1)) c.rows.ensures.value ∙ ap (nat_lt 0) (sym (length_without c.deref_mut.result.now.table c.args.row))
          ∙ ap (λ (v : Archetype). nat_lt 0 (length v.entities)) (sym c.remove_row.ensures.row))),
      turns_as _ _ _ (ap (λ (m : SlotMarks _). m.in_turn) c.take_row.ensures) (
          turns_written c.self.inside.tables c.args.key.slot c.index_mut.result.now c.index_mut.ensures.value c.self.inside.marks.in_turn c.self.invariant.2 _ (ap (λ (v : TableSlot _). v.serial) c.deref_mut.ensures.value)),
    )

pub returns-clause-tables : goal.returns-clause-tables
returns-clause-tables g c = let t = with_rows (table_at c.args.self.now c.args.key) c.args.row c.requires.there in written c.self.inside.tables c.self.inside.last c.args.self.now c.self.view_is c.args.key t.0 t.1 c.index_mut.result.now c.index_mut.ensures.value c.deref_mut.result.now c.deref_mut.ensures.value c.remove_row.new.self (λ v. without_row v c.args.row) c.remove_row.ensures.row

pub returns-clause-shapes : goal.returns-clause-shapes
returns-clause-shapes g c = let t = with_rows (table_at c.args.self.now c.args.key) c.args.row c.requires.there in written_shapes c.self.inside.tables c.self.inside.last c.args.self.now c.self.view_is c.args.key t.0 t.1 c.index_mut.result.now c.index_mut.ensures.value c.deref_mut.result.now c.deref_mut.ensures.value c.remove_row.new.self (λ v. without_row v c.args.row) c.remove_row.ensures.row (shape_of_removed t.0 c.args.row)

pub returns-clause-rows : goal.returns-clause-rows
returns-clause-rows g c = let t = with_rows (table_at c.args.self.now c.args.key) c.args.row c.requires.there in
    let sound = sound_here c.self.inside.tables c.self.inside.last c.args.self.now c.self.view_is c.args.key t.0 t.1 c.index_mut.result.now c.index_mut.ensures.value c.self.inside.by_ids c.self.inside.by_serial c.self.invariant.0 in
    removed_is c.args.self.now c.args.key t.0 t.1 c.args.row t.2 sound _ (written_row c.self.inside.tables c.self.inside.last c.args.self.now c.self.view_is c.args.key t.0 t.1 c.index_mut.result.now c.index_mut.ensures.value c.deref_mut.result.now c.deref_mut.ensures.value c.remove_row.new.self (λ v. without_row v c.args.row) c.remove_row.ensures.row)

pub returns-clause-filled : goal.returns-clause-filled
returns-clause-filled g c = let t = with_rows (table_at c.args.self.now c.args.key) c.args.row c.requires.there in
    c.remove_row.ensures.moved ∙ ap (λ v. Rattle.ecs_table.specs.Archetype.moved_into v c.args.row) (lent_here c.self.inside.tables c.self.inside.last c.args.self.now c.self.view_is c.args.key t.0 t.1 c.index_mut.result.now c.index_mut.ensures.value c.deref_mut.result.now c.deref_mut.ensures.value)
    ∙ filled_is c.args.self.now c.args.key t.0 t.1 c.args.row t.2

pub returns-clause-whole : goal.returns-clause-whole
returns-clause-whole g c = let t = with_rows (table_at c.args.self.now c.args.key) c.args.row c.requires.there in
    let sound = sound_here c.self.inside.tables c.self.inside.last c.args.self.now c.self.view_is c.args.key t.0 t.1 c.index_mut.result.now c.index_mut.ensures.value c.self.inside.by_ids c.self.inside.by_serial c.self.invariant.0 in
    written_stored c.self.inside.tables c.self.inside.last c.args.self.now c.self.view_is c.args.key t.0 t.1 c.index_mut.result.now c.index_mut.ensures.value c.deref_mut.result.now c.deref_mut.ensures.value c.remove_row.new.self (λ v. without_row v c.args.row) c.remove_row.ensures.row c.self.inside.by_ids c.self.inside.by_serial c.self.invariant.0 (shape_of_removed t.0 c.args.row) (sound_without_row t.0 c.args.row t.2 sound)
