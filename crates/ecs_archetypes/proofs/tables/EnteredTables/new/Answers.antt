-- No table stands, and none is entered.
use Rattle.ecs_archetypes.proofs.EnteredTables.{entered_first}
use Rattle.ecs_archetypes.proofs.tables.EnteredTables.new.Goals as goal

pub invariant_of-result : goal.invariant_of-result
invariant_of-result g c = entered_first c.new-store.result c.new-index.result c.new-store.ensures.empty c.new-index.ensures.empty
