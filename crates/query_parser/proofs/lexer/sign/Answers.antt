use Rattle.std.proofs.Common.{◌∙◌, sym}
use Rattle.query_model.specs.Tokens.{marks}
use Rattle.query_model.proofs.TokenSpelling.{at_front, first_passes, front_is_mark}
use Rattle.query_parser.proofs.TokenReads.{name_is_ascii, variable_is_ascii, variable_is_sign}
use Rattle.query_parser.proofs.lexer.sign.Goals as goal

pub returns-then-is_letter-clause-ascii : goal.returns-then-is_letter-clause-ascii
returns-then-is_letter-clause-ascii c = rw c.name_len.ensures.count (name_is_ascii c.args.rest.now)

pub returns-then-rest-eq36-clause-found : goal.returns-then-rest-eq36-clause-found
returns-then-rest-eq36-clause-found c = variable_is_sign c.args.rest.now _ c.in_ok-len.len c.requires c.if-rest-eq36.true c.in_ok-len.ensures.0 c.in_ok-len.ensures.2

pub returns-then-rest-eq36-clause-ascii : goal.returns-then-rest-eq36-clause-ascii
returns-then-rest-eq36-clause-ascii c = variable_is_ascii c.args.rest.now c.in_ok-len.len c.requires c.if-rest-eq36.true c.in_ok-len.ensures.0

pub returns-clause-spells : goal.returns-clause-spells
returns-clause-spells c = rw c.spelling.ensures (front_is_mark c.args.rest.now c.in_ok-mark.mark (first_passes (at_front c.args.rest.now) marks c.in_ok-mark.mark (sym c.mark.ensures ∙ c.in_ok-mark.was)))
