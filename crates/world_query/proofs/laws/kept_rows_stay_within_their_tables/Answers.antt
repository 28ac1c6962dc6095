use Rattle.world_query.proofs.KeptRows.{kept_rows_stay_within}
use Rattle.world_query.proofs.laws.kept_rows_stay_within_their_tables.Goals as goal

pub returns : goal.returns
returns c = kept_rows_stay_within
