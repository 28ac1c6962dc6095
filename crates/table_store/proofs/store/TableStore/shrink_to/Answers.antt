use Rattle.std.proofs.Common.{min, ap, ◌∙◌, refl}
use Rattle.ecs_table.specs.Archetype.{Archetype}
use Rattle.ecs_table.proofs.Soundness.{sound_with_room}
use Rattle.table_store.specs.declared.store.TableSlot.{TableSlot}
use Rattle.table_store.specs.Store.{table_at}
use Rattle.table_store.proofs.Changes.{contains, there, written, written_kept, written_same_rows, written_shapes, written_stored}
use Rattle.table_store.proofs.Marks.{marked_same}
use Rattle.table_store.proofs.Turns.{turns_written}
use Rattle.table_store.proofs.RowCalls.{sound_here}
use Rattle.table_store.proofs.store.TableStore.shrink_to.Goals as goal

pub index_mut-requires : goal.index_mut-requires
index_mut-requires g c = let t = there (table_at c.args.self.now c.args.key) c.requires.stands in contains c.self.inside.tables c.self.inside.last c.args.self.now c.self.view_is c.args.key t.0 t.1

pub invariant_of-self : goal.invariant_of-self
invariant_of-self g c = let t = there (table_at c.args.self.now c.args.key) c.requires.stands in
    let x = c.index_mut.result.now in
    let sound = sound_here c.self.inside.tables c.self.inside.last c.args.self.now c.self.view_is c.args.key t.0 t.1 x c.index_mut.ensures.value c.self.inside.by_ids c.self.inside.by_serial c.self.invariant.0 in (
      written_kept c.self.inside.tables c.self.inside.last c.args.self.now c.self.view_is c.args.key t.0 t.1 x c.index_mut.ensures.value c.deref_mut.result.now c.deref_mut.ensures.value c.shrink_to.new.self (λ v. record v { room = min v.room c.args.room })
          c.shrink_to.ensures c.self.inside.by_ids c.self.inside.by_serial c.self.invariant.0 refl (sound_with_room t.0 (min t.0.room c.args.room) sound),
      marked_same c.self.inside.tables c.args.key.slot c.index_mut.result.now c.index_mut.ensures.value c.self.inside.marks.filled c.self.invariant.1 _
          (ap (λ (v : Archetype). v.entities) c.shrink_to.ensures ∙ ap (λ (v : TableSlot _). v.table.entities) c.deref_mut.ensures.value),
      turns_written c.self.inside.tables c.args.key.slot c.index_mut.result.now c.index_mut.ensures.value c.self.inside.marks.in_turn c.self.invariant.2 _ (ap (λ (v : TableSlot _). v.serial) c.deref_mut.ensures.value),
    )

pub returns-clause-tables : goal.returns-clause-tables
returns-clause-tables g c = let t = there (table_at c.args.self.now c.args.key) c.requires.stands in
    written c.self.inside.tables c.self.inside.last c.args.self.now c.self.view_is c.args.key t.0 t.1 c.index_mut.result.now c.index_mut.ensures.value c.deref_mut.result.now c.deref_mut.ensures.value c.shrink_to.new.self (λ v. record v { room = min v.room c.args.room }) c.shrink_to.ensures

pub returns-clause-shapes : goal.returns-clause-shapes
returns-clause-shapes g c = let t = there (table_at c.args.self.now c.args.key) c.requires.stands in
    written_shapes c.self.inside.tables c.self.inside.last c.args.self.now c.self.view_is c.args.key t.0 t.1 c.index_mut.result.now c.index_mut.ensures.value c.deref_mut.result.now c.deref_mut.ensures.value c.shrink_to.new.self (λ v. record v { room = min v.room c.args.room }) c.shrink_to.ensures refl

pub returns-clause-rows : goal.returns-clause-rows
returns-clause-rows g c = let t = there (table_at c.args.self.now c.args.key) c.requires.stands in
    written_same_rows c.self.inside.tables c.self.inside.last c.args.self.now c.self.view_is c.args.key t.0 t.1 c.index_mut.result.now c.index_mut.ensures.value c.deref_mut.result.now c.deref_mut.ensures.value c.shrink_to.new.self (λ v. record v { room = min v.room c.args.room }) c.shrink_to.ensures (λ r. refl)

pub returns-clause-whole : goal.returns-clause-whole
returns-clause-whole g c = let t = there (table_at c.args.self.now c.args.key) c.requires.stands in
    let x = c.index_mut.result.now in
    let sound = sound_here c.self.inside.tables c.self.inside.last c.args.self.now c.self.view_is c.args.key t.0 t.1 x c.index_mut.ensures.value c.self.inside.by_ids c.self.inside.by_serial c.self.invariant.0 in
    written_stored c.self.inside.tables c.self.inside.last c.args.self.now c.self.view_is c.args.key t.0 t.1 x c.index_mut.ensures.value c.deref_mut.result.now c.deref_mut.ensures.value c.shrink_to.new.self (λ v. record v { room = min v.room c.args.room })
    c.shrink_to.ensures c.self.inside.by_ids c.self.inside.by_serial c.self.invariant.0 refl (sound_with_room t.0 (min t.0.room c.args.room) sound)
