-- Where there is no room, nothing is put down.
use Rattle.std.proofs.Common.{ap, ◌∙◌, take}
use Rattle.ecs_print.proofs.Stops.{on_err_anyway, stops_before, stops_same}
use Rattle.world_query.proofs.sheet.Sheet.put_long.Goals as goal

pub returns-in_err-behind-clause-front : goal.returns-in_err-behind-clause-front
returns-in_err-behind-clause-front g c = on_err_anyway _ (stops_before _ _)

pub returns-in_err-reach-clause-front : goal.returns-in_err-reach-clause-front
returns-in_err-reach-clause-front g c =
    on_err_anyway _ (stops_same _ _ _ (ap (take c.self.inside.end) c.in_err-reach.ensures.kept ∙ c.self.view_is))
