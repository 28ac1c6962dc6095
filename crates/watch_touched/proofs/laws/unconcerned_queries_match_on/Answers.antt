use Rattle.watch_touched.proofs.UnconcernedCommands.{unconcerned_queries_match_on}
use Rattle.watch_touched.proofs.laws.unconcerned_queries_match_on.Goals as goal

pub returns : goal.returns
returns c = unconcerned_queries_match_on
