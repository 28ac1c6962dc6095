use Rattle.std.proofs.Common.{Some, ◌==◌, ap, sym, ◌∙◌, rules}
use Rattle.table_store.specs.declared.store.TableSlot.{TableSlot}
use Rattle.table_store.proofs.StoreLemmas.{found, of_another, vacant, stored}
use Rattle.table_store.proofs.store.TableStore.get.Goals as goal

pub returns-then-has_serial-clause-table : goal.returns-then-has_serial-clause-table
returns-then-has_serial-clause-table g c = found c.self.inside.tables c.self.inside.last c.args.self.now c.self.view_is c.args.key c.in_ok-slot.slot.now (search rules)
    (ap (λ (d : TableSlot _). d.serial == c.args.key.serial) (sym c.deref.ensures) ∙ sym c.has_serial.ensures ∙ c.if-has_serial.true) ∙ ap (λ (d : TableSlot _). Some d.table) (sym c.deref-then-has_serial.ensures)

pub returns-else-has_serial-clause-table : goal.returns-else-has_serial-clause-table
returns-else-has_serial-clause-table g c = of_another c.self.inside.tables c.self.inside.last c.args.self.now c.self.view_is c.args.key c.in_ok-slot.slot.now (search rules)
    (ap (λ (d : TableSlot _). d.serial == c.args.key.serial) (sym c.deref.ensures) ∙ sym c.has_serial.ensures ∙ c.if-has_serial.false)

pub returns-in_err-slot-clause-table : goal.returns-in_err-slot-clause-table
returns-in_err-slot-clause-table g c = rw c.from_residual.ensures (vacant c.self.inside.tables c.self.inside.last c.args.self.now c.self.view_is c.args.key (search rules))

pub returns-in_err-slot-clause-whole : goal.returns-in_err-slot-clause-whole
returns-in_err-slot-clause-whole g c = stored c.self.inside.tables c.self.inside.by_ids c.self.inside.by_serial c.self.inside.last c.self.invariant.0 c.args.self.now c.self.view_is

pub returns-then-has_serial-clause-whole : goal.returns-then-has_serial-clause-whole
returns-then-has_serial-clause-whole g c = stored c.self.inside.tables c.self.inside.by_ids c.self.inside.by_serial c.self.inside.last c.self.invariant.0 c.args.self.now c.self.view_is

pub returns-else-has_serial-clause-whole : goal.returns-else-has_serial-clause-whole
returns-else-has_serial-clause-whole g c = stored c.self.inside.tables c.self.inside.by_ids c.self.inside.by_serial c.self.inside.last c.self.invariant.0 c.args.self.now c.self.view_is
