use Rattle.std.proofs.Common.{◌-◌, length}
use Rattle.query_parser.proofs.LexProgress.{HasRead}
use Rattle.query_parser.proofs.lexer.lex.Given as goal

abbrev pub invariant-loop-tokens : goal.invariant-loop-tokens
invariant-loop-tokens g l = HasRead l.text l.tokens.items l.at

abbrev pub decreases-loop-tokens : goal.decreases-loop-tokens
decreases-loop-tokens g l = length l.text - l.at
