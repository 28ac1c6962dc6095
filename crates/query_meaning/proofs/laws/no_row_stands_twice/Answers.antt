use Rattle.query_meaning.proofs.Rows.{rows_are_distinct}
use Rattle.query_meaning.proofs.laws.no_row_stands_twice.Goals as goal

pub returns : goal.returns
returns c = rows_are_distinct
