use Rattle.query_meaning.proofs.Worlds.{worlds_have_no_repeats}
use Rattle.query_meaning.proofs.laws.worlds_have_no_repeats.Goals as goal

pub returns : goal.returns
returns c = worlds_have_no_repeats
