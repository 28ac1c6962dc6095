use Rattle.query_meaning.proofs.Locality.{local_by_ids}
use Rattle.query_meaning.proofs.laws.local_queries_ask_an_entity_alone.Goals as goal

pub returns : goal.returns
returns c = local_by_ids
