use Rattle.std.proofs.Common.{Some, ap, arith, sym, ◌∙◌}
use Rattle.std.proofs.lemmas.Grind.{common_steps}
use Rattle.std.proofs.lemmas.Option.{slice_get-get_or}
use Rattle.ecs_model.specs.stored.Watches.{event_text}
use Rattle.ecs_print.proofs.Pieces.{stops_in_item}
use Rattle.ecs_print.proofs.Stops.{on_err_anyway}
use Rattle.ecs_observe.proofs.telling.write_all.Goals as goal

pub loop-event-init : goal.loop-event-init
loop-event-init g c = grind (arith, common_steps)

pub offset_bounds-events-event-index : goal.offset_bounds-events-event-index
offset_bounds-events-event-index g c = grind arith

pub returns-in_err-write_event-clause-front : goal.returns-in_err-write_event-clause-front
returns-in_err-write_event-clause-front g c =
    let events = c.args.events.now in
    let i = c.loop-event.event-index in
    let event = c.event-item.result in
    let here = slice_get-get_or events i event c.loop-event-test.true ∙ ap Some (sym c.event-item.is) in
    on_err_anyway _ (stops_in_item event_text events i event _ c.loop-event.output.items _ c.loop-event-test.true here c.loop-event.invariant c.in_err-write_event.ensures.front)

pub loop-event-preserved : goal.loop-event-preserved
loop-event-preserved g c = grind (arith, common_steps)

pub returns-clause-written : goal.returns-clause-written
returns-clause-written g c = grind (arith, common_steps)
