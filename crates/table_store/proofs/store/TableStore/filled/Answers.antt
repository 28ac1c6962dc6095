use Rattle.std.proofs.Common.{sym, ◌∙◌}
use Rattle.table_store.proofs.FilledTables.{empty_rows, filled_rows, no_rows, none_to, some_to}
use Rattle.table_store.proofs.StoreLemmas.{stored}
use Rattle.table_store.proofs.store.TableStore.filled.Goals as goal

pub returns-then-is_filled-clause-table : goal.returns-then-is_filled-clause-table
returns-then-is_filled-clause-table g c =
    none_to c.get.result _ _ _ (no_rows c.args.self.now c.args.key) c.get.ensures.table

pub returns-then-is_filled-clause-filled : goal.returns-then-is_filled-clause-filled
returns-then-is_filled-clause-filled g c =
    let mark = sym c.is_filled.ensures ∙ c.if-is_filled.true in
    some_to c.get.result _ _ _ (λ t. filled_rows c.self.inside.tables c.self.inside.last c.args.self.now c.self.view_is c.self.inside.marks.filled c.self.invariant.1 c.args.key mark t.now) c.get.ensures.table

pub returns-else-is_filled-clause-table : goal.returns-else-is_filled-clause-table
returns-else-is_filled-clause-table g c =
    empty_rows c.self.inside.tables c.self.inside.last c.args.self.now c.self.view_is c.self.inside.marks.filled c.self.invariant.1 c.args.key
    (sym c.is_filled.ensures ∙ c.if-is_filled.false)

pub returns-else-is_filled-clause-whole : goal.returns-else-is_filled-clause-whole
returns-else-is_filled-clause-whole g c = stored c.self.inside.tables c.self.inside.by_ids c.self.inside.by_serial c.self.inside.last c.self.invariant.0 c.args.self.now c.self.view_is
