use Rattle.world_query.proofs.Chains.{asked_queries_have_terms}
use Rattle.world_query.proofs.laws.asked_queries_have_terms.Goals as goal

pub returns : goal.returns
returns c = asked_queries_have_terms
