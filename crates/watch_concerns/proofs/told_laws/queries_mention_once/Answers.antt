use Rattle.watch_concerns.proofs.DistinctMentions.{queries_mention_once}
use Rattle.watch_concerns.proofs.told_laws.queries_mention_once.Goals as goal

pub returns : goal.returns
returns c = queries_mention_once
