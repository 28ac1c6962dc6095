use Rattle.watch_touched.proofs.UnconcernedCommands.{queries_matched_before}
use Rattle.watch_touched.proofs.laws.queries_matched_before.Goals as goal

pub returns : goal.returns
returns c = queries_matched_before
