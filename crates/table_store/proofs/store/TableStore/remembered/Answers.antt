use Rattle.std.proofs.Common.{subst}
use Rattle.table_store.specs.Kept.{IsOrder}
use Rattle.table_store.proofs.StoreLemmas.{stored}
use Rattle.table_store.proofs.store.TableStore.remembered.Goals as goal

pub returns-clause-listed : goal.returns-clause-listed
returns-clause-listed g c = λ q stands.
    let order = subst (λ w. IsOrder w c.self.inside.by_serial.items) c.self.view_is c.self.invariant.0.order in
    rw c.as_slice.ensures.value (order.has q stands)

pub returns-clause-few : goal.returns-clause-few
returns-clause-few g c =
    let order = subst (λ w. IsOrder w c.self.inside.by_serial.items) c.self.view_is c.self.invariant.0.order in
    rw c.as_slice.ensures.value order.few

pub returns-clause-whole : goal.returns-clause-whole
returns-clause-whole g c = stored c.self.inside.tables c.self.inside.by_ids c.self.inside.by_serial c.self.inside.last c.self.invariant.0 c.args.self.now c.self.view_is
