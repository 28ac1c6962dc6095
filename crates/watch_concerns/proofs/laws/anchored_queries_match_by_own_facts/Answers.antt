use Rattle.watch_concerns.proofs.OwnFacts.{match_by_own_facts}
use Rattle.watch_concerns.proofs.laws.anchored_queries_match_by_own_facts.Goals as goal

pub returns : goal.returns
returns c = match_by_own_facts
