use Rattle.table_store.specs.Kept.{store_of}
use Rattle.std.proofs.Common.{refl}
use Rattle.table_store.proofs.EmptyStores.{empty_kept, empty_marked, empty_turns}
use Rattle.table_store.proofs.StoreLemmas.{stored}
use Rattle.table_store.proofs.store.TableStore.new.Goals as goal

pub invariant_of-result : goal.invariant_of-result
invariant_of-result g c = (
  empty_kept c.new.result c.new-3.result c.new-4.result c.new.ensures.empty c.new-4.ensures.items,
  empty_marked c.new.result c.new-3.result c.new-4.result c.new.ensures.empty c.new-4.ensures.items c.new-2.result.filled c.new-2.ensures.filled,
  empty_turns c.new.result c.new-3.result c.new-4.result c.new.ensures.empty c.new-4.ensures.items c.new-2.result.in_turn c.new-2.ensures.in_turn,
)

pub returns-clause-whole : goal.returns-clause-whole
returns-clause-whole g c = stored c.new.result c.new-3.result c.new-4.result 0 (empty_kept c.new.result c.new-3.result c.new-4.result c.new.ensures.empty c.new-4.ensures.items) (store_of c.new.result 0) refl
