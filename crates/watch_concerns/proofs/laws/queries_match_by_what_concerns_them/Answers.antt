use Rattle.watch_concerns.proofs.MatchingRows.{match_by_what_concerns}
use Rattle.watch_concerns.proofs.laws.queries_match_by_what_concerns_them.Goals as goal

pub returns : goal.returns
returns c = match_by_what_concerns
