use Rattle.world_query.proofs.PlannedCounts.{planned_queries_stay_within}
use Rattle.world_query.proofs.laws.planned_queries_stay_within_their_probes.Goals as goal

pub returns : goal.returns
returns c = planned_queries_stay_within
