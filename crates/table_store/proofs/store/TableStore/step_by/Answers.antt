use Rattle.std.proofs.Common.{ℕ, ◌≤◌, IfSome, IsTrue, Ok, slice_get, refl, sym, ap, subst, ◌∙◌}
use Rattle.std.proofs.lemmas.Result.{err_from_is_err_and}
use Rattle.std.specs.FinMap.{is_sorted}
use Rattle.ecs_id.specs.Id.{id_cmp}
use Rattle.table_store.specs.Store.{Shape, shape_of, table_at}
use Rattle.table_store.specs.declared.store.TableSlot.{TableSlot}
use Rattle.table_store.specs.Kept.{IsPut, stepped}
use Rattle.raw_column.specs.declared.block.Memory.{Memory}
use Rattle.table_store.proofs.Slots.{one_some}
use Rattle.table_store.proofs.Shapes.{HaveSizes}
use Rattle.table_store.proofs.Changes.{there, contains}
use Rattle.table_store.proofs.FoundTables.{is_kept}
use Rattle.table_store.proofs.Steps.{shape_there, sorted_there, sorted_next, small_next, sizes_next, still_there, made_leads, refused_too}
use Rattle.table_store.proofs.store.TableStore.step_by.Goals as goal

pub index-slot-requires : goal.index-slot-requires
index-slot-requires g c = let t = there (table_at c.args.self.now c.args.key) c.requires.stands in contains c.self.inside.tables c.self.inside.last c.args.self.now c.self.view_is c.args.key t.0 t.1

pub next_shape-requires : goal.next_shape-requires
next_shape-requires g c = subst (λ (l : Shape). IsTrue (is_sorted id_cmp l)) (sym (ap (λ (v : TableSlot _). shape_of v.table) c.deref.ensures)) (sorted_there c.self.inside.tables c.self.inside.by_ids c.self.inside.by_serial c.self.inside.last c.args.self.now c.self.view_is c.self.invariant.0 c.args.key c.requires.stands c.index-slot.result.now c.index-slot.ensures)

pub same-self : goal.same-self
same-self g c = refl

pub returns-in_err-next_shape : goal.returns-in_err-next_shape
returns-in_err-next_shape g c = λ f at. rw (err_from_is_err_and c.from_residual.result c.from_residual.ensures.1).1 (is_kept c.self.inside.tables c.self.inside.by_ids c.self.inside.by_serial c.self.inside.last c.args.self.now c.self.view_is c.self.invariant.0 (stepped f c.args.id c.args.added) _)

pub same-self-2 : goal.same-self-2
same-self-2 g c = refl

pub find_or_make-requires-clause-ascend : goal.find_or_make-requires-clause-ascend
find_or_make-requires-clause-ascend g c = subst (λ (l : Shape). IsTrue (is_sorted id_cmp l)) (sym (c.as_slice.ensures.value ∙ c.in_ok-next_shape.ensures ∙ ap (λ (l : Shape). stepped l c.args.id c.args.added) (ap (λ (v : TableSlot _). shape_of v.table) c.deref.ensures))) (sorted_next c.self.inside.tables c.self.inside.by_ids c.self.inside.by_serial c.self.inside.last c.args.self.now c.self.view_is c.self.invariant.0 c.args.key c.requires.stands c.index-slot.result.now c.index-slot.ensures c.args.id c.args.added)

pub find_or_make-requires-clause-small : goal.find_or_make-requires-clause-small
find_or_make-requires-clause-small g c = subst (λ (l : Shape). (j : ℕ) → IfSome (slice_get l j) (λ c. c.1 ≤ 64)) (sym (c.as_slice.ensures.value ∙ c.in_ok-next_shape.ensures ∙ ap (λ (l : Shape). stepped l c.args.id c.args.added) (ap (λ (v : TableSlot _). shape_of v.table) c.deref.ensures))) (small_next c.self.inside.tables c.self.inside.by_ids c.self.inside.by_serial c.self.inside.last c.args.self.now c.self.view_is c.self.invariant.0 c.args.key c.requires.stands c.index-slot.result.now c.index-slot.ensures c.args.id c.args.added c.requires.small)

pub find_or_make-requires-clause-sizes : goal.find_or_make-requires-clause-sizes
find_or_make-requires-clause-sizes g c = subst (λ (l : Shape). HaveSizes c.args.self.now l) (sym (c.as_slice.ensures.value ∙ c.in_ok-next_shape.ensures ∙ ap (λ (l : Shape). stepped l c.args.id c.args.added) (ap (λ (v : TableSlot _). shape_of v.table) c.deref.ensures))) (sizes_next c.self.inside.tables c.self.inside.by_ids c.self.inside.by_serial c.self.inside.last c.args.self.now c.self.view_is c.self.invariant.0 c.args.key c.requires.stands c.index-slot.result.now c.index-slot.ensures c.args.id c.args.added c.requires.sizes)

pub keep_edge-requires-clause-stands : goal.keep_edge-requires-clause-stands
keep_edge-requires-clause-stands g c = still_there c.args.self.now c.find_or_make.new.self _ c.in_ok-to.to c.in_ok-to.ensures.ok c.args.key c.requires.stands

pub keep_edge-requires-clause-leads : goal.keep_edge-requires-clause-leads
keep_edge-requires-clause-leads g c =
    let put = subst (λ (l : Shape). IsPut {E = Memory} c.args.self.now l (Ok c.in_ok-to.to) c.find_or_make.new.self) (c.as_slice.ensures.value ∙ c.in_ok-next_shape.ensures ∙ ap (λ (l : Shape). stepped l c.args.id c.args.added) (ap (λ (v : TableSlot _). shape_of v.table) c.deref.ensures)) c.in_ok-to.ensures in
    made_leads c.args.self.now c.find_or_make.new.self (shape_of c.index-slot.result.now.value.table) c.args.id c.args.added c.in_ok-to.to put.ok c.args.key (shape_there c.self.inside.tables c.self.inside.by_ids c.self.inside.by_serial c.self.inside.last c.args.self.now c.self.view_is c.self.invariant.0 c.args.key c.requires.stands c.index-slot.result.now c.index-slot.ensures)

pub returns : goal.returns
returns g c = λ f at.
    let put = subst (λ (l : Shape). IsPut {E = Memory} c.args.self.now l (Ok c.in_ok-to.to) c.find_or_make.new.self) (c.as_slice.ensures.value ∙ c.in_ok-next_shape.ensures ∙ ap (λ (l : Shape). stepped l c.args.id c.args.added) (ap (λ (v : TableSlot _). shape_of v.table) c.deref.ensures)) c.in_ok-to.ensures in
    subst (λ (z : Shape). IsPut {E = Memory} c.args.self.now (stepped z c.args.id c.args.added) (Ok c.in_ok-to.to) c.keep_edge.new.self) (one_some (shape_of c.index-slot.result.now.value.table) f (sym (shape_there c.self.inside.tables c.self.inside.by_ids c.self.inside.by_serial c.self.inside.last c.args.self.now c.self.view_is c.self.invariant.0 c.args.key c.requires.stands c.index-slot.result.now c.index-slot.ensures) ∙ at))
    (subst (λ n. IsPut {E = Memory} c.args.self.now (stepped (shape_of c.index-slot.result.now.value.table) c.args.id c.args.added) (Ok c.in_ok-to.to) n) (sym c.keep_edge.ensures) put)

pub returns-in_err-to : goal.returns-in_err-to
returns-in_err-to g c = λ f at. rw (err_from_is_err_and c.from_residual-in_err-to.result c.from_residual-in_err-to.ensures.1).1 (refused_too c.args.self.now c.find_or_make.new.self _ (stepped f c.args.id c.args.added) _ _ c.in_err-to.ensures)
