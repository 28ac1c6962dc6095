-- One more part at each turn.
use Rattle.std.proofs.Common.{◌<◌, ◌∙◌, ap, map, get_or, length}
use Rattle.std.proofs.lemmas.List.{get_or-map, length-map}
use Rattle.query_check.proofs.AbsentElements.{no_part}
use Rattle.query_model.specs.Seen.{seen_part}
use Rattle.query_check.proofs.PartPlaces.{all_placed, none_placed, one_more, around_depth, around_outer}
use Rattle.query_check.proofs.PartReferences.{placed-length}
use Rattle.query_check.proofs.places.places.Goals as goal

pub loop-i-init : goal.loop-i-init
loop-i-init g c = rw c.in_ok-places.ensures.items (none_placed (map seen_part c.args.parts.now))

pub place_in-place-requires : goal.place_in-place-requires
place_in-place-requires g c = around_depth (map seen_part c.args.parts.now) c.loop-i.i c.loop-i.places.items c.loop-i.around c.loop-i.invariant

pub place_behind-around-requires : goal.place_behind-around-requires
place_behind-around-requires g c = rw c.as_slice.ensures.value (around_outer (map seen_part c.args.parts.now) c.loop-i.i c.loop-i.places.items c.loop-i.around c.loop-i.invariant)

pub loop-i-preserved : goal.loop-i-preserved
loop-i-preserved g c =
    let parts = c.args.parts.now in
    let i = c.loop-i.i in
    let part = get_or parts i no_part in
    let so_far = c.loop-i.invariant in
    let within : i < length (map seen_part parts) = rw length-map c.loop-i-test.true in
    rw c.in_ok-push.ensures.items
    (one_more (map seen_part parts) i (seen_part part) c.loop-i.places.items c.as_slice.result.now c.loop-i.around c.place_in-place.result c.place_behind-around.result so_far within
    (get_or-map seen_part parts i no_part (seen_part part) c.loop-i-test.true) c.as_slice.ensures.value
    (c.place_in-place.ensures so_far.path so_far.place)
    (c.place_behind-around.ensures so_far.path so_far.place))

pub returns-clause-places : goal.returns-clause-places
returns-clause-places g c =
    all_placed (map seen_part c.args.parts.now) c.loop-i.i c.loop-i.places.items c.loop-i.around c.loop-i.invariant (rw length-map c.loop-i-test.false)

pub returns-clause-length : goal.returns-clause-length
returns-clause-length g c =
    ap length (returns-clause-places g c) ∙ length-map _ _ ∙ placed-length (map seen_part c.args.parts.now) ∙ length-map c.args.parts.now seen_part
