use Rattle.std.proofs.Common.{arith}
use Rattle.ecs_print.proofs.Stops.{on_err_anyway, stops_before}
use Rattle.world_query.proofs.SentTexts.{fault_memory, stops_here}
use Rattle.ecs_observe.proofs.kept.send_unlisted_rows.Goals as goal

-- where memory is refused before a row is written
pub returns-in_err-room-clause-front : goal.returns-in_err-room-clause-front
returns-in_err-room-clause-front g c = on_err_anyway _ (stops_here _ _ _ _ (stops_before _ _))

pub returns-in_err-room-clause-held : goal.returns-in_err-room-clause-held
returns-in_err-room-clause-held g c = fault_memory _ _ _ _ c.from_residual.ensures.1

pub returns-in_err-room-clause-rows : goal.returns-in_err-room-clause-rows
returns-in_err-room-clause-rows g c = grind arith

pub returns-in_err-room-clause-unsent : goal.returns-in_err-room-clause-unsent
returns-in_err-room-clause-unsent g c = grind arith

pub returns-in_err-room-clause-writes : goal.returns-in_err-room-clause-writes
returns-in_err-room-clause-writes g c = grind arith

pub returns-in_err-room-clause-kept : goal.returns-in_err-room-clause-kept
returns-in_err-room-clause-kept g c = grind arith

pub returns-clause-rows : goal.returns-clause-rows
returns-clause-rows g c = c.send_planned_rows.ensures.rows

pub returns-clause-unsent : goal.returns-clause-unsent
returns-clause-unsent g c = c.send_planned_rows.ensures.unsent

pub returns-clause-front : goal.returns-clause-front
returns-clause-front g c = c.send_planned_rows.ensures.front

pub returns-clause-held : goal.returns-clause-held
returns-clause-held g c = c.send_planned_rows.ensures.held

pub returns-clause-writes : goal.returns-clause-writes
returns-clause-writes g c = c.send_planned_rows.ensures.writes

pub returns-clause-kept : goal.returns-clause-kept
returns-clause-kept g c = c.send_planned_rows.ensures.kept
