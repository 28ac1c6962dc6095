-- The last token is the end.
use Rattle.std.proofs.Common.{◌∙◌, ap, sym}
use Rattle.std.specs.Option.{option_copied}
use Rattle.query_parser.proofs.Progress.{last_ends}
use Rattle.query_parser.proofs.text_length.Goals as goal

pub returns-in-Some : goal.returns-in-Some
returns-in-Some c = last_ends c.args.tokens.now c.in-Some.end.now (sym (c.last.ensures.value) ∙ ap option_copied c.in-Some.is)
