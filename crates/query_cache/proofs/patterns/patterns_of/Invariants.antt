use Rattle.query_cache.proofs.PatternWalks.{IsWalking}
use Rattle.query_cache.proofs.patterns.patterns_of.Given as goal

abbrev pub invariant-loop-piece : goal.invariant-loop-piece
invariant-loop-piece g l = IsWalking l.query l.piece-index l.depth l.patterns.items
