use Rattle.std.proofs.Common.{◌∙◌}
use Rattle.std.proofs.lemmas.Result.{on_err_weaker}
use Rattle.ecs_print.proofs.Stops.{on_err_anyway, stops_same}
use Rattle.watch_events.proofs.Numbers.{numbers_written, stops_at_first, stops_at_others}
use Rattle.watch_events.proofs.event.write_numbers.Goals as goal

pub returns-clause-written : goal.returns-clause-written
returns-clause-written g c =
    numbers_written c.write_others.result (c.args.out.now).items c.extend_from_slice.new.self.items c.write_integer.new.out.items c.write_others.new.out.items
    c.args.numbers.now c.in-Some.first.now c.in-Some.others.now c.in-Some.ensures.cases.0 c.in_ok-extend_from_slice.ensures.items c.in_ok-write_integer.ensures.written c.write_others.ensures.written

-- where it stops in the midst
pub returns-in_err-extend_from_slice-clause-front : goal.returns-in_err-extend_from_slice-clause-front
returns-in_err-extend_from_slice-clause-front g c = on_err_anyway _ (stops_same _ _ _ c.in_err-extend_from_slice.ensures.items)

pub returns-in_err-write_integer-clause-front : goal.returns-in_err-write_integer-clause-front
returns-in_err-write_integer-clause-front g c =
    on_err_anyway _
    (stops_at_first (c.args.out.now).items _ c.args.numbers.now c.in-Some.first.now c.in-Some.others.now c.in-Some.ensures.cases.0 (c.in_err-write_integer.ensures.refused ∙ c.in_ok-extend_from_slice.ensures.items))

pub returns-clause-front : goal.returns-clause-front
returns-clause-front g c =
    on_err_weaker c.write_others.result
    (stops_at_others (c.args.out.now).items c.write_others.new.out.items c.args.numbers.now c.in-Some.first.now c.in-Some.others.now c.in-Some.ensures.cases.0 c.extend_from_slice.new.self.items c.write_integer.new.out.items
    c.in_ok-extend_from_slice.ensures.items c.in_ok-write_integer.ensures.written)
    c.write_others.ensures.front
