use Rattle.query_meaning.proofs.MentionedEntities.{asked_queries_are_current}
use Rattle.query_meaning.proofs.laws.asked_queries_are_current.Goals as goal

pub returns : goal.returns
returns c = asked_queries_are_current
