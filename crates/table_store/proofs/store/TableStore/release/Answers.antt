use Rattle.std.proofs.Common.{IsSome, ap, sym, subst, ◌∙◌}
use Rattle.table_store.specs.declared.slot_marks.SlotMarks.{SlotMarks}
use Rattle.table_store.proofs.StoreLemmas.{stored}
use Rattle.table_store.proofs.Marks.{marked_as, marked_released}
use Rattle.table_store.proofs.Slots.{table_at-slots}
use Rattle.table_store.proofs.Turns.{released_room, turns_as, turns_released}
use Rattle.table_store.proofs.ReleasedTables.{not_standing, released, released_empty, released_rows, released_kept, released_stored}
use Rattle.table_store.proofs.store.TableStore.release.Goals as goal

pub returns-then-not-stands-clause-tables : goal.returns-then-not-stands-clause-tables
returns-then-not-stands-clause-tables g c = not_standing c.self.inside.tables c.self.inside.last c.args.self.now c.self.view_is c.args.key (sym c.stands.ensures ∙ c.if-not-stands.true)

pub returns-then-not-stands-clause-whole : goal.returns-then-not-stands-clause-whole
returns-then-not-stands-clause-whole g c = stored c.self.inside.tables c.self.inside.by_ids c.self.inside.by_serial c.self.inside.last c.self.invariant.0 c.args.self.now c.self.view_is

pub forget_turn-requires-clause-room : goal.forget_turn-requires-clause-room
forget_turn-requires-clause-room g c = released_room c.self.inside.tables c.args.key.slot c.remove-slot.result c.remove-slot.ensures.value c.self.inside.marks.in_turn c.self.invariant.2

pub forget_turn-requires-clause-small : goal.forget_turn-requires-clause-small
forget_turn-requires-clause-small g c =
    c.self.invariant.0.store.numbered c.args.key (subst IsSome (sym (table_at-slots c.self.inside.tables c.self.inside.last c.args.key)) (sym c.stands.ensures ∙ c.if-not-stands.false))

pub forget_released-requires : goal.forget_released-requires
forget_released-requires g c = c.self.invariant.0.order.rising

pub invariant_of-self : goal.invariant_of-self
invariant_of-self g c = (
  released_kept c.self.inside.tables c.remove-slot.new.self c.self.inside.by_ids c.remove.new.self c.self.inside.by_serial c.forget_released.new.by_serial c.self.inside.last c.self.invariant.0 c.args.key c.remove-slot.result c.remove-slot.ensures.value (sym c.stands.ensures ∙ c.if-not-stands.false) c.remove-slot.ensures.updates
      c.remove.ensures.others c.remove.ensures.hashing c.forget_released.ensures.few c.forget_released.ensures.kept,
  marked_as _ _ _ (ap (λ (m : SlotMarks _). m.filled) c.forget_turn.ensures) (
      marked_released c.self.inside.tables c.remove-slot.new.self c.args.key.slot c.remove-slot.result c.remove-slot.ensures.value c.remove-slot.ensures.updates
      (released_empty c.self.inside.tables c.remove-slot.new.self c.self.inside.by_ids c.remove.new.self c.self.inside.by_serial c.forget_released.new.by_serial c.self.inside.last c.self.invariant.0 c.args.key c.remove-slot.result c.remove-slot.ensures.value (sym c.stands.ensures ∙ c.if-not-stands.false) c.remove-slot.ensures.updates
      c.args.self.now c.self.view_is c.requires.empty) c.self.inside.marks.filled c.self.invariant.1),
  turns_as _ _ _ (ap (λ (m : SlotMarks _). m.in_turn) c.forget_turn.ensures) (turns_released c.self.inside.tables c.remove-slot.new.self c.args.key.slot c.remove-slot.ensures.updates c.self.inside.marks.in_turn c.self.invariant.2 (released_room c.self.inside.tables c.args.key.slot c.remove-slot.result c.remove-slot.ensures.value c.self.inside.marks.in_turn c.self.invariant.2)),
)

pub returns-clause-tables : goal.returns-clause-tables
returns-clause-tables g c = released c.self.inside.tables c.remove-slot.new.self c.self.inside.by_ids c.remove.new.self c.self.inside.by_serial c.forget_released.new.by_serial c.self.inside.last c.self.invariant.0 c.args.key c.remove-slot.result c.remove-slot.ensures.value (sym c.stands.ensures ∙ c.if-not-stands.false) c.remove-slot.ensures.updates
    c.args.self.now c.self.view_is

pub returns-clause-rows : goal.returns-clause-rows
returns-clause-rows g c = released_rows c.self.inside.tables c.remove-slot.new.self c.self.inside.by_ids c.remove.new.self c.self.inside.by_serial c.forget_released.new.by_serial c.self.inside.last c.self.invariant.0 c.args.key c.remove-slot.result c.remove-slot.ensures.value (sym c.stands.ensures ∙ c.if-not-stands.false) c.remove-slot.ensures.updates
    c.args.self.now c.self.view_is c.requires.empty

pub returns-clause-whole : goal.returns-clause-whole
returns-clause-whole g c = released_stored c.self.inside.tables c.remove-slot.new.self c.self.inside.by_ids c.remove.new.self c.self.inside.by_serial c.forget_released.new.by_serial c.self.inside.last c.self.invariant.0 c.args.key c.remove-slot.result c.remove-slot.ensures.value (sym c.stands.ensures ∙ c.if-not-stands.false) c.remove-slot.ensures.updates
    c.remove.ensures.others c.remove.ensures.hashing c.forget_released.ensures.few c.forget_released.ensures.kept
