use Rattle.query_meaning.proofs.LiveNames.{checked_queries_name_the_living}
use Rattle.query_meaning.proofs.laws.checked_queries_name_the_living.Goals as goal

pub returns : goal.returns
returns c = checked_queries_name_the_living
