use Rattle.std.proofs.Common.{ap, ◌∙◌}
use Rattle.table_store.specs.declared.store.TableSlot.{TableSlot}
use Rattle.table_store.specs.Store.{shape_of, table_at}
use Rattle.table_store.proofs.Changes.{there, contains}
use Rattle.table_store.proofs.Marks.{marked_same}
use Rattle.table_store.proofs.Turns.{turns_written}
use Rattle.table_store.proofs.Steps.{shape_there, edge_kept, same_view}
use Rattle.table_store.proofs.store.TableStore.keep_edge.Goals as goal

pub index_mut-requires : goal.index_mut-requires
index_mut-requires g c = let t = there (table_at c.args.self.now c.args.key) c.requires.stands in contains c.self.inside.tables c.self.inside.last c.args.self.now c.self.view_is c.args.key t.0 t.1

pub invariant_of-self : goal.invariant_of-self
invariant_of-self g c = (
  edge_kept c.self.inside.tables c.self.inside.by_ids c.self.inside.by_serial c.self.inside.last c.args.self.now c.self.view_is c.self.invariant.0 c.args.key c.requires.stands c.index_mut.result.now c.index_mut.ensures.value c.deref_mut.result.now c.write_edge.new.slot c.deref_mut.ensures.value c.args.id c.args.to c.args.added c.write_edge.ensures.slot
      (c.requires.leads (shape_of c.index_mut.result.now.value.table) (shape_there c.self.inside.tables c.self.inside.by_ids c.self.inside.by_serial c.self.inside.last c.args.self.now c.self.view_is c.self.invariant.0 c.args.key c.requires.stands c.index_mut.result.now c.index_mut.ensures.value)) c.write_edge.ensures.more c.write_edge.ensures.less,
  marked_same c.self.inside.tables c.args.key.slot c.index_mut.result.now c.index_mut.ensures.value c.self.inside.marks.filled c.self.invariant.1 _
      (ap (λ (v : TableSlot _). v.table.entities) c.write_edge.ensures.slot ∙ ap (λ (v : TableSlot _). v.table.entities) c.deref_mut.ensures.value),
  turns_written c.self.inside.tables c.args.key.slot c.index_mut.result.now c.index_mut.ensures.value c.self.inside.marks.in_turn c.self.invariant.2 _ (ap (λ (v : TableSlot _). v.serial) c.write_edge.ensures.slot ∙ ap (λ (v : TableSlot _). v.serial) c.deref_mut.ensures.value),
)

pub returns : goal.returns
returns g c = same_view c.self.inside.tables c.self.inside.by_ids c.self.inside.by_serial c.self.inside.last c.args.self.now c.self.view_is c.self.invariant.0 c.args.key c.requires.stands c.index_mut.result.now c.index_mut.ensures.value c.deref_mut.result.now c.write_edge.new.slot c.deref_mut.ensures.value c.args.id c.args.to c.args.added c.write_edge.ensures.slot
    (c.requires.leads (shape_of c.index_mut.result.now.value.table) (shape_there c.self.inside.tables c.self.inside.by_ids c.self.inside.by_serial c.self.inside.last c.args.self.now c.self.view_is c.self.invariant.0 c.args.key c.requires.stands c.index_mut.result.now c.index_mut.ensures.value)) c.write_edge.ensures.more c.write_edge.ensures.less
