use Rattle.std.proofs.Common.{◌≤◌, max, sym, ap, subst, ◌∙◌, refl}
use Rattle.ecs_table.specs.Archetype.{Archetype}
use Rattle.ecs_table.proofs.Soundness.{sound_with_room}
use Rattle.table_store.specs.declared.store.TableSlot.{TableSlot}
use Rattle.table_store.specs.Store.{table_at}
use Rattle.table_store.proofs.Changes.{contains, there, room_here, lent_here, written, written_kept, written_same, written_same_rows, written_shapes, written_stored}
use Rattle.table_store.proofs.Marks.{marked_same}
use Rattle.table_store.proofs.Turns.{turns_written}
use Rattle.table_store.proofs.RowCalls.{if_err, if_ok, same_but_room, sound_here}
use Rattle.table_store.proofs.store.TableStore.reserve.Goals as goal

pub index_mut-requires : goal.index_mut-requires
index_mut-requires g c = let t = there (table_at c.args.self.now c.args.key) c.requires.stands in contains c.self.inside.tables c.self.inside.last c.args.self.now c.self.view_is c.args.key t.0 t.1

pub invariant_of-self : goal.invariant_of-self
invariant_of-self g c = let t = there (table_at c.args.self.now c.args.key) c.requires.stands in
    let x = c.index_mut.result.now in let n = c.reserve.new.self.room in
    let sound = sound_here c.self.inside.tables c.self.inside.last c.args.self.now c.self.view_is c.args.key t.0 t.1 x c.index_mut.ensures.value c.self.inside.by_ids c.self.inside.by_serial c.self.invariant.0 in (
      written_kept c.self.inside.tables c.self.inside.last c.args.self.now c.self.view_is c.args.key t.0 t.1 x c.index_mut.ensures.value c.deref_mut.result.now c.deref_mut.ensures.value c.reserve.new.self (λ v. record v { room = n })
          (same_but_room c.reserve.result c.deref_mut.result.now.table c.reserve.new.self _ c.reserve.ensures.ok c.reserve.ensures.err) c.self.inside.by_ids c.self.inside.by_serial c.self.invariant.0 refl (sound_with_room t.0 n sound),
      marked_same c.self.inside.tables c.args.key.slot c.index_mut.result.now c.index_mut.ensures.value c.self.inside.marks.filled c.self.invariant.1 _
          (ap (λ (v : Archetype). v.entities) (same_but_room c.reserve.result c.deref_mut.result.now.table c.reserve.new.self _ c.reserve.ensures.ok c.reserve.ensures.err) ∙ ap (λ (v : TableSlot _). v.table.entities) c.deref_mut.ensures.value),
      turns_written c.self.inside.tables c.args.key.slot c.index_mut.result.now c.index_mut.ensures.value c.self.inside.marks.in_turn c.self.invariant.2 _ (ap (λ (v : TableSlot _). v.serial) c.deref_mut.ensures.value),
    )

pub returns-clause-tables : goal.returns-clause-tables
returns-clause-tables g c = let t = there (table_at c.args.self.now c.args.key) c.requires.stands in
    if_ok c.reserve.result _ _ (λ made. written c.self.inside.tables c.self.inside.last c.args.self.now c.self.view_is c.args.key t.0 t.1 c.index_mut.result.now c.index_mut.ensures.value c.deref_mut.result.now c.deref_mut.ensures.value c.reserve.new.self (λ v. record v { room = max v.room c.args.additional }) made) c.reserve.ensures.ok

pub returns-clause-shapes : goal.returns-clause-shapes
returns-clause-shapes g c = let t = there (table_at c.args.self.now c.args.key) c.requires.stands in
    let x = c.index_mut.result.now in let n = c.reserve.new.self.room in
    written_shapes c.self.inside.tables c.self.inside.last c.args.self.now c.self.view_is c.args.key t.0 t.1 x c.index_mut.ensures.value c.deref_mut.result.now c.deref_mut.ensures.value c.reserve.new.self (λ v. record v { room = n })
    (same_but_room c.reserve.result c.deref_mut.result.now.table c.reserve.new.self _ c.reserve.ensures.ok c.reserve.ensures.err) refl

pub returns-clause-rows : goal.returns-clause-rows
returns-clause-rows g c = let t = there (table_at c.args.self.now c.args.key) c.requires.stands in
    let x = c.index_mut.result.now in let n = c.reserve.new.self.room in
    written_same_rows c.self.inside.tables c.self.inside.last c.args.self.now c.self.view_is c.args.key t.0 t.1 x c.index_mut.ensures.value c.deref_mut.result.now c.deref_mut.ensures.value c.reserve.new.self (λ v. record v { room = n })
    (same_but_room c.reserve.result c.deref_mut.result.now.table c.reserve.new.self _ c.reserve.ensures.ok c.reserve.ensures.err) (λ r. refl)

pub returns-clause-succeeds : goal.returns-clause-succeeds
returns-clause-succeeds g c = let t = there (table_at c.args.self.now c.args.key) c.requires.stands in
    λ fits. c.reserve.ensures.succeeds (subst (λ n. c.args.additional ≤ n) (room_here c.args.self.now c.args.key t.0 t.1 ∙ ap (λ (v : Archetype). v.room) (sym (lent_here c.self.inside.tables c.self.inside.last c.args.self.now c.self.view_is c.args.key t.0 t.1 c.index_mut.result.now c.index_mut.ensures.value c.deref_mut.result.now c.deref_mut.ensures.value))) fits)

pub returns-clause-err : goal.returns-clause-err
returns-clause-err g c = let t = there (table_at c.args.self.now c.args.key) c.requires.stands in
    if_err c.reserve.result _ _ (λ same. written_same c.self.inside.tables c.self.inside.last c.args.self.now c.self.view_is c.args.key t.0 t.1 c.index_mut.result.now c.index_mut.ensures.value c.deref_mut.result.now c.deref_mut.ensures.value c.reserve.new.self (λ v. v) same same) c.reserve.ensures.err

pub returns-clause-whole : goal.returns-clause-whole
returns-clause-whole g c = let t = there (table_at c.args.self.now c.args.key) c.requires.stands in
    let x = c.index_mut.result.now in let n = c.reserve.new.self.room in
    let sound = sound_here c.self.inside.tables c.self.inside.last c.args.self.now c.self.view_is c.args.key t.0 t.1 x c.index_mut.ensures.value c.self.inside.by_ids c.self.inside.by_serial c.self.invariant.0 in
    written_stored c.self.inside.tables c.self.inside.last c.args.self.now c.self.view_is c.args.key t.0 t.1 x c.index_mut.ensures.value c.deref_mut.result.now c.deref_mut.ensures.value c.reserve.new.self (λ v. record v { room = n })
    (same_but_room c.reserve.result c.deref_mut.result.now.table c.reserve.new.self _ c.reserve.ensures.ok c.reserve.ensures.err) c.self.inside.by_ids c.self.inside.by_serial c.self.invariant.0 refl (sound_with_room t.0 n sound)
