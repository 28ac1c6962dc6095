use Rattle.std.proofs.Common.{sym, subst}
use Rattle.table_store.specs.Kept.{is_held, IsOrder}
use Rattle.table_store.proofs.TableCounts.{exactly_held}
use Rattle.table_store.proofs.Order.{IsRising, rising_filter}
use Rattle.table_store.proofs.StoreLemmas.{stored}
use Rattle.table_store.proofs.store.TableStore.since.Goals as goal

pub newer-requires : goal.newer-requires
newer-requires g c = rw c.as_slice.ensures.value c.self.invariant.0.order.rising

pub returns-clause-exact : goal.returns-clause-exact
returns-clause-exact g c = λ q.
    exactly_held c.self.inside.tables c.self.inside.last c.args.self.now c.self.view_is c.self.inside.by_serial.items (subst (λ w. IsOrder w c.self.inside.by_serial.items) c.self.view_is c.self.invariant.0.order)
    c.args.serial c.newer.result.now (λ k has. c.newer.ensures.listed k (rw c.as_slice.ensures.value has)) c.newer.ensures.newer c.new.result c.new.ensures q

pub returns-clause-rising : goal.returns-clause-rising
returns-clause-rising g c = subst IsRising (sym c.new.ensures) (rising_filter (is_held c.self.inside.tables) c.newer.result.now c.newer.ensures.rising)

pub returns-clause-whole : goal.returns-clause-whole
returns-clause-whole g c = stored c.self.inside.tables c.self.inside.by_ids c.self.inside.by_serial c.self.inside.last c.self.invariant.0 c.args.self.now c.self.view_is
