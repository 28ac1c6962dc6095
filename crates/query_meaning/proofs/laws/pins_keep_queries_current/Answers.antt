use Rattle.query_meaning.proofs.StandingQueries.{pins_keep_queries_current}
use Rattle.query_meaning.proofs.laws.pins_keep_queries_current.Goals as goal

pub returns : goal.returns
returns c = pins_keep_queries_current
