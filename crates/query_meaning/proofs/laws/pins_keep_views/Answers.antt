use Rattle.query_meaning.proofs.StandingQueries.{pins_keep_views}
use Rattle.query_meaning.proofs.laws.pins_keep_views.Goals as goal

pub returns : goal.returns
returns c = pins_keep_views
