use Rattle.std.specs.Prelude.{None}
use Rattle.std.proofs.Common.{◌∙◌}
use Rattle.watch_events.proofs.MissedTerms.{by_term, none_match}
use Rattle.watch_events.proofs.hits.any_matches.Goals as goal

pub returns-in-None : goal.returns-in-None
returns-in-None g c = none_match c.args.facts.now ∙ by_term c.args.query.now None c.args.facts.now c.in-None.ensures
