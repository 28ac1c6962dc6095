use Rattle.watch_concerns.proofs.TiedQueries.{match_by_ties}
use Rattle.watch_concerns.proofs.laws.tied_queries_match_by_facts_of_their_targets.Goals as goal

pub returns : goal.returns
returns c = match_by_ties
