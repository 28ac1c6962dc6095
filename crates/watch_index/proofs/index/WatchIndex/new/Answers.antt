use Rattle.watch_index.proofs.MarkChanges.{none_marked}
use Rattle.watch_index.proofs.index.WatchIndex.new.Goals as goal

pub invariant_of-result : goal.invariant_of-result
invariant_of-result g c = none_marked c.none.result.words c.with_hasher.result.entries c.with_hasher.ensures.empty
