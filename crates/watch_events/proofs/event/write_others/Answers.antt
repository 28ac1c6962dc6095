-- A number that is refused stands after its comma.
use Rattle.std.proofs.Common.{◌∙◌}
use Rattle.std.specs.Prelude.{codes, pos}
use Rattle.std.specs.Fmt.{signed_decimal}
use Rattle.std.proofs.lemmas.Option.{slice_get-get_or}
use Rattle.ecs_print.specs.Values.{behind_comma}
use Rattle.ecs_print.proofs.Pieces.{stops_in_item}
use Rattle.ecs_print.proofs.Stops.{on_err_anyway, stops_one}
use Rattle.watch_events.proofs.Numbers.{stops_before_item}
use Rattle.watch_events.proofs.event.write_others.Goals as goal

pub returns-in_err-extend_from_slice-clause-front : goal.returns-in_err-extend_from_slice-clause-front
returns-in_err-extend_from_slice-clause-front g c =
    on_err_anyway _ (stops_before_item behind_comma c.args.numbers.now c.loop-number.number-index _ _ (c.in_err-extend_from_slice.ensures.items ∙ c.loop-number.invariant))

pub returns-in_err-write_integer-clause-front : goal.returns-in_err-write_integer-clause-front
returns-in_err-write_integer-clause-front g c =
    let numbers = c.args.numbers.now in
    let i = c.loop-number.number-index in
    on_err_anyway _
    (stops_in_item behind_comma numbers i _ _ c.loop-number.out.items _ c.loop-number-test.true (slice_get-get_or numbers i (pos 0) c.loop-number-test.true) c.loop-number.invariant
    (stops_one c.loop-number.out.items _ (codes ",") (signed_decimal _) (c.in_err-write_integer.ensures.refused ∙ c.in_ok-extend_from_slice.ensures.items)))
