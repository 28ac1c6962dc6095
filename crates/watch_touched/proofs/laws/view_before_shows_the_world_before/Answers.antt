use Rattle.watch_touched.proofs.WorldBefore.{shows_world_before}
use Rattle.watch_touched.proofs.laws.view_before_shows_the_world_before.Goals as goal

pub returns : goal.returns
returns c = shows_world_before
