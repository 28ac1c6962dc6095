use Rattle.query_meaning.proofs.StandingQueries.{steps_keep_pins}
use Rattle.query_meaning.proofs.laws.steps_keep_pins.Goals as goal

pub returns : goal.returns
returns c = steps_keep_pins
