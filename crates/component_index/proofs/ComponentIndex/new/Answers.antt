use Rattle.component_index.proofs.EnteredLemmas.{AreListed-empty, AreMarked-empty}
use Rattle.component_index.proofs.ComponentIndex.new.Goals as goal

pub invariant_of-result : goal.invariant_of-result
invariant_of-result g c = (AreListed-empty c.new.result.tables c.with_hasher.result c.new.ensures c.with_hasher.ensures.empty, AreMarked-empty _ c.new.result.tables c.new.ensures)
