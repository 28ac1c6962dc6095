use Rattle.world_query.proofs.Probes.{simple_queries_stay_within}
use Rattle.world_query.proofs.laws.simple_queries_stay_within_their_probes.Goals as goal

pub returns : goal.returns
returns c = simple_queries_stay_within
