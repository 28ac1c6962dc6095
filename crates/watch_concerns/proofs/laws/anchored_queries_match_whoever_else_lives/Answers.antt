use Rattle.watch_concerns.proofs.AnchoredRows.{match_whoever_else_lives}
use Rattle.watch_concerns.proofs.laws.anchored_queries_match_whoever_else_lives.Goals as goal

pub returns : goal.returns
returns c = match_whoever_else_lives
