use Rattle.watch_touched.proofs.StayingEntities.{others_than_moving_stay}
use Rattle.watch_touched.proofs.laws.others_than_moving_stay.Goals as goal

pub returns : goal.returns
returns c = others_than_moving_stay
