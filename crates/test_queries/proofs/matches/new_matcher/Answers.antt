-- The query is what the text asks.
use Rattle.test_queries.proofs.matches.new_matcher.Goals as goal

pub of-requires : goal.of-requires
of-requires g c = record { asked = (c.args.world.now.state, c.args.text.now, c.in_ok-query.ensures) }
