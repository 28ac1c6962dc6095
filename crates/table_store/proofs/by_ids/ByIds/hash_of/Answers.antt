use Rattle.table_store.specs.ByIds.{ids_hash}
use Rattle.table_store.proofs.by_ids.ByIds.hash_of.Goals as goal

pub returns : goal.returns
unfolding ids_hash
returns g c = c.hash_one.ensures
