use Rattle.watch_concerns.proofs.StandingEntities.{match_by_roles}
use Rattle.watch_concerns.proofs.laws.linked_queries_match_by_facts_of_those_who_may_stand.Goals as goal

pub returns : goal.returns
returns c = match_by_roles
