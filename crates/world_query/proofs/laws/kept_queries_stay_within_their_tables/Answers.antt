use Rattle.world_query.proofs.Probes.{kept_queries_stay_within}
use Rattle.world_query.proofs.laws.kept_queries_stay_within_their_tables.Goals as goal

pub returns : goal.returns
returns c = kept_queries_stay_within
