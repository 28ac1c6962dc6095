-- The events of who entered come after those of who left.
use Rattle.std.proofs.lemmas.Result.{on_err_weaker}
use Rattle.ecs_print.proofs.Stops.{on_err_anyway, stops_behind, stops_sooner}
use Rattle.watch_events.proofs.rows.tell_moves.Goals as goal

pub returns-in_err-tell_each_left-clause-front : goal.returns-in_err-tell_each_left-clause-front
returns-in_err-tell_each_left-clause-front g c = on_err_anyway _ (stops_sooner _ _ _ _ c.in_err-tell_each_left.ensures.front)

pub returns-clause-front : goal.returns-clause-front
returns-clause-front g c = on_err_weaker c.tell_each_entered.result (stops_behind _ _ _ _ _ c.in_ok-tell_each_left.ensures.told) c.tell_each_entered.ensures.front
