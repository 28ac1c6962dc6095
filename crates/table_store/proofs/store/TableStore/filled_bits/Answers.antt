use Rattle.table_store.proofs.FilledTables.{filled_bit}
use Rattle.table_store.proofs.StoreLemmas.{stored}
use Rattle.table_store.proofs.store.TableStore.filled_bits.Goals as goal

pub returns-clause-filled : goal.returns-clause-filled
returns-clause-filled g c = λ k is low high.
    filled_bit c.self.inside.tables c.self.inside.last c.args.self.now c.self.view_is c.self.inside.marks.filled c.self.invariant.1 k c.filled_bits.result c.args.slot c.filled_bits.ensures is low high

pub returns-clause-whole : goal.returns-clause-whole
returns-clause-whole g c = stored c.self.inside.tables c.self.inside.by_ids c.self.inside.by_serial c.self.inside.last c.self.invariant.0 c.args.self.now c.self.view_is
