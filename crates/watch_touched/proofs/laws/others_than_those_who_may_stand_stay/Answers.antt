use Rattle.watch_touched.proofs.StayingRoles.{others_than_roles_stay}
use Rattle.watch_touched.proofs.laws.others_than_those_who_may_stand_stay.Goals as goal

pub returns : goal.returns
returns c = others_than_roles_stay
