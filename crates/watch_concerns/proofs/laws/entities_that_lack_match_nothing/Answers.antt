use Rattle.watch_concerns.proofs.LackedIds.{lacking_match_nothing}
use Rattle.watch_concerns.proofs.laws.entities_that_lack_match_nothing.Goals as goal

pub returns : goal.returns
returns c = lacking_match_nothing
