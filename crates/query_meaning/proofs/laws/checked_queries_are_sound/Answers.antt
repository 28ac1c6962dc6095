use Rattle.query_meaning.proofs.CheckedQueries.{checked_queries_are_sound}
use Rattle.query_meaning.proofs.laws.checked_queries_are_sound.Goals as goal

pub returns : goal.returns
returns c = checked_queries_are_sound
