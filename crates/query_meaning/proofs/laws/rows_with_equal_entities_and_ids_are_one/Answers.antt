use Rattle.query_meaning.proofs.RowIds.{rows_are_their_ids}
use Rattle.query_meaning.proofs.laws.rows_with_equal_entities_and_ids_are_one.Goals as goal

pub returns : goal.returns
returns c = rows_are_their_ids
