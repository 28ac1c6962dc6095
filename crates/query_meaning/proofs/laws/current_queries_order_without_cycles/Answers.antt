use Rattle.query_meaning.proofs.RisingQueries.{current_queries_order_without_cycles}
use Rattle.query_meaning.proofs.laws.current_queries_order_without_cycles.Goals as goal

pub returns : goal.returns
returns c = current_queries_order_without_cycles
