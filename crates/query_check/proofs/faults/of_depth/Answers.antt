-- One more part at each turn.
use Rattle.std.proofs.Common.{◌<◌, [], get_or, length, map}
use Rattle.std.proofs.lemmas.List.{get_or-map, length-map}
use Rattle.query_check.specs.Places.{place_of}
use Rattle.query_check.proofs.AbsentElements.{no_part}
use Rattle.query_model.specs.Seen.{seen_part}
use Rattle.query_check.proofs.PartReferences.{part_at}
use Rattle.query_check.proofs.LeastFaults.{depth_judged}
use Rattle.query_check.proofs.faults.of_depth.Goals as goal

pub loop-i-preserved : goal.loop-i-preserved
loop-i-preserved c =
    let parts = c.args.parts.now in
    let i = c.loop-i.i in
    let part = get_or parts i no_part in
    let within : i < length (map seen_part parts) = rw length-map c.loop-i-test.true in
    depth_judged (map seen_part parts) i (seen_part part) _ c.args.found c.loop-i.least _ _ c.loop-i.invariant
    (part_at (map seen_part parts) i (seen_part part) c.args.places.now (place_of []) c.requires.places within (get_or-map seen_part parts i no_part (seen_part part) c.loop-i-test.true))
    c.too_deep.ensures c.add_fault.ensures
