use Rattle.query_meaning.proofs.StandingQueries.{steps_keep_queries_current}
use Rattle.query_meaning.proofs.laws.steps_keep_queries_current.Goals as goal

pub returns : goal.returns
returns c = steps_keep_queries_current
