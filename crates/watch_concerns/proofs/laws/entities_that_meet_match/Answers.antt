use Rattle.watch_concerns.proofs.MetIds.{meeting_match}
use Rattle.watch_concerns.proofs.laws.entities_that_meet_match.Goals as goal

pub returns : goal.returns
returns c = meeting_match
