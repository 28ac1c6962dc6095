use Rattle.query_parser.proofs.Progress.{HasParsed}
use Rattle.query_parser.proofs.parse.Given as goal

abbrev pub invariant-loop-token : goal.invariant-loop-token
invariant-loop-token g l = HasParsed l.tokens l.parts.items l.token-index l.depth l.state l.draft
