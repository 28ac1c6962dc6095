use Rattle.std.proofs.Common.{◌≡◌, IfSome, ◌*◌, length, sym, ap, subst, ◌∙◌}
use Rattle.std.proofs.lemmas.Option.{same_Some}
use Rattle.ecs_table.specs.Archetype.{Archetype, size_of, with_column}
use Rattle.ecs_table.proofs.WholeColumns.{shape_of_column, sound_with_column}
use Rattle.table_store.specs.declared.store.TableSlot.{TableSlot}
use Rattle.table_store.specs.Rows.{row_at, with_column_at}
use Rattle.table_store.proofs.Changes.{contains, lent_here, written, written_kept, written_shapes, written_stored}
use Rattle.table_store.proofs.Marks.{marked_same}
use Rattle.table_store.proofs.Turns.{turns_written}
use Rattle.table_store.proofs.RowCalls.{ids_rise, sound_here}
use Rattle.table_store.proofs.WholeColumns.{rows_set, sized_for, table_of_values, written_column}
use Rattle.table_store.proofs.store.TableStore.set_column.Goals as goal

pub index_mut-requires : goal.index_mut-requires
index_mut-requires g c =
    let t = table_of_values c.args.self.now c.args.key c.args.id c.args.bytes.now c.requires in
    contains c.self.inside.tables c.self.inside.last c.args.self.now c.self.view_is c.args.key t.0 t.1

pub set_column-requires : goal.set_column-requires
set_column-requires g c =
    let t = table_of_values c.args.self.now c.args.key c.args.id c.args.bytes.now c.requires in
    let sized = sized_for t.0 c.args.id t.2 c.args.bytes.now t.5 t.6 in
    subst (λ (v : Archetype). IfSome (size_of v c.args.id) (λ n. length c.args.bytes.now ≡ length v.entities * n))
    (sym (lent_here c.self.inside.tables c.self.inside.last c.args.self.now c.self.view_is c.args.key t.0 t.1 c.index_mut.result.now c.index_mut.ensures.value c.deref_mut.result.now c.deref_mut.ensures.value)) sized

pub invariant_of-self : goal.invariant_of-self
invariant_of-self g c =
    let t = table_of_values c.args.self.now c.args.key c.args.id c.args.bytes.now c.requires in
    let x = c.index_mut.result.now in
    let sized = sized_for t.0 c.args.id t.2 c.args.bytes.now t.5 t.6 in
    let sound = sound_here c.self.inside.tables c.self.inside.last c.args.self.now c.self.view_is c.args.key t.0 t.1 x c.index_mut.ensures.value c.self.inside.by_ids c.self.inside.by_serial c.self.invariant.0 in (
      written_kept c.self.inside.tables c.self.inside.last c.args.self.now c.self.view_is c.args.key t.0 t.1 x c.index_mut.ensures.value c.deref_mut.result.now c.deref_mut.ensures.value c.set_column.new.self (λ v. with_column v c.args.id c.args.bytes.now) c.set_column.ensures c.self.inside.by_ids c.self.inside.by_serial c.self.invariant.0
          (shape_of_column t.0 c.args.id c.args.bytes.now sound) (sound_with_column t.0 c.args.id c.args.bytes.now sized sound),
      marked_same c.self.inside.tables c.args.key.slot c.index_mut.result.now c.index_mut.ensures.value c.self.inside.marks.filled c.self.invariant.1 _
          (ap (λ (v : Archetype). v.entities) c.set_column.ensures ∙ ap (λ (v : TableSlot _). v.table.entities) c.deref_mut.ensures.value),
      turns_written c.self.inside.tables c.args.key.slot c.index_mut.result.now c.index_mut.ensures.value c.self.inside.marks.in_turn c.self.invariant.2 _ (ap (λ (v : TableSlot _). v.serial) c.deref_mut.ensures.value),
    )

pub returns-clause-tables : goal.returns-clause-tables
returns-clause-tables g c =
    let t = table_of_values c.args.self.now c.args.key c.args.id c.args.bytes.now c.requires in
    let x = c.index_mut.result.now in
    written c.self.inside.tables c.self.inside.last c.args.self.now c.self.view_is c.args.key t.0 t.1 x c.index_mut.ensures.value c.deref_mut.result.now c.deref_mut.ensures.value c.set_column.new.self (λ v. with_column v c.args.id c.args.bytes.now) c.set_column.ensures

pub returns-clause-shapes : goal.returns-clause-shapes
returns-clause-shapes g c =
    let t = table_of_values c.args.self.now c.args.key c.args.id c.args.bytes.now c.requires in
    let x = c.index_mut.result.now in
    let sound = sound_here c.self.inside.tables c.self.inside.last c.args.self.now c.self.view_is c.args.key t.0 t.1 x c.index_mut.ensures.value c.self.inside.by_ids c.self.inside.by_serial c.self.invariant.0 in
    written_shapes c.self.inside.tables c.self.inside.last c.args.self.now c.self.view_is c.args.key t.0 t.1 x c.index_mut.ensures.value c.deref_mut.result.now c.deref_mut.ensures.value c.set_column.new.self (λ v. with_column v c.args.id c.args.bytes.now) c.set_column.ensures (shape_of_column t.0 c.args.id c.args.bytes.now sound)

pub returns-clause-rows : goal.returns-clause-rows
returns-clause-rows g c =
    let t = table_of_values c.args.self.now c.args.key c.args.id c.args.bytes.now c.requires in
    let x = c.index_mut.result.now in
    let sound = sound_here c.self.inside.tables c.self.inside.last c.args.self.now c.self.view_is c.args.key t.0 t.1 x c.index_mut.ensures.value c.self.inside.by_ids c.self.inside.by_serial c.self.invariant.0 in
    let ascend = ids_rise c.self.inside.tables c.self.inside.last c.args.self.now c.self.view_is c.args.key t.0 t.1 c.self.inside.by_ids c.self.inside.by_serial c.self.invariant.0 in
    λ n size. let same = same_Some t.2 n (sym t.3 ∙ size) in
    λ p. written_column c.self.inside.tables c.self.inside.last c.args.self.now c.self.view_is c.args.key t.0 t.1 x c.index_mut.ensures.value c.deref_mut.result.now c.deref_mut.ensures.value c.set_column.new.self (λ v. with_column v c.args.id c.args.bytes.now) c.set_column.ensures c.args.id t.2 c.args.bytes.now (rows_set t.0 c.args.id t.2 c.args.bytes.now sound t.5 t.4 ascend) p
    ∙ ap (λ m. with_column_at (row_at c.args.self.now) c.args.key c.args.id m c.args.bytes.now p) same

pub returns-clause-whole : goal.returns-clause-whole
returns-clause-whole g c =
    let t = table_of_values c.args.self.now c.args.key c.args.id c.args.bytes.now c.requires in
    let x = c.index_mut.result.now in
    let sized = sized_for t.0 c.args.id t.2 c.args.bytes.now t.5 t.6 in
    let sound = sound_here c.self.inside.tables c.self.inside.last c.args.self.now c.self.view_is c.args.key t.0 t.1 x c.index_mut.ensures.value c.self.inside.by_ids c.self.inside.by_serial c.self.invariant.0 in
    written_stored c.self.inside.tables c.self.inside.last c.args.self.now c.self.view_is c.args.key t.0 t.1 x c.index_mut.ensures.value c.deref_mut.result.now c.deref_mut.ensures.value c.set_column.new.self (λ v. with_column v c.args.id c.args.bytes.now) c.set_column.ensures c.self.inside.by_ids c.self.inside.by_serial c.self.invariant.0
    (shape_of_column t.0 c.args.id c.args.bytes.now sound) (sound_with_column t.0 c.args.id c.args.bytes.now sized sound)
