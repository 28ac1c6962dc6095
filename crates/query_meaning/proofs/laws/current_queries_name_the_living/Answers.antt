use Rattle.query_meaning.proofs.LiveNames.{current_queries_name_the_living}
use Rattle.query_meaning.proofs.laws.current_queries_name_the_living.Goals as goal

pub returns : goal.returns
returns c = current_queries_name_the_living
