use Rattle.query_meaning.proofs.RisingQueries.{checked_queries_go_up_without_cycles}
use Rattle.query_meaning.proofs.laws.checked_queries_go_up_without_cycles.Goals as goal

pub returns : goal.returns
returns c = checked_queries_go_up_without_cycles
