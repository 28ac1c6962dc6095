use Rattle.world_query.proofs.PlannedCounts.{facts_count_alike}
use Rattle.world_query.proofs.laws.facts_count_alike.Goals as goal

pub returns : goal.returns
returns c = facts_count_alike
