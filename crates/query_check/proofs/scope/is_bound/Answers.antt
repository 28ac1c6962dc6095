-- One more part at each turn.
use Rattle.std.proofs.Common.{◌+◌, ◌<◌, ◌∙◌, [], get_or, length, map, sym}
use Rattle.std.proofs.lemmas.List.{get_or-map, length-map}
use Rattle.query_check.specs.Places.{place_of}
use Rattle.query_model.specs.Seen.{seen_part}
use Rattle.query_check.proofs.AbsentElements.{no_part}
use Rattle.query_check.proofs.PartReferences.{behind_seen, followed_at, none_binds, one_binds, this_binds_not, part_at, both, not_first, not_second}
use Rattle.query_check.proofs.scope.is_bound.Goals as goal
use Rattle.query_check.proofs.scope.is_bound.Goals.{else-places-i-via-then-places-i+else-binds, else-places-i-via-else-places-i}

pub returns-then-binds : goal.returns-then-binds
returns-then-binds c =
    let parts = c.args.parts.now in
    let i = c.loop-i.i in
    let part = seen_part (get_or parts i no_part) in
    let within : i < length (map seen_part parts) = rw length-map c.loop-i-test.true in
    let at = part_at (map seen_part parts) i part c.args.places.now (place_of []) c.requires.places within (get_or-map seen_part parts i no_part part c.loop-i-test.true) in
    let followed = followed_at (map seen_part parts) i part _ _ at (behind_seen seen_part parts (i + 1)) in
    one_binds (map seen_part parts) c.args.name.now c.args.level i c.loop-i.invariant part _ _ followed (both _ _ _ c.if-places-i.true (sym c.if-binds.true ∙ c.binds.ensures))

pub loop-i-preserved : goal.loop-i-preserved
loop-i-preserved c =
    let parts = c.args.parts.now in
    let i = c.loop-i.i in
    let part = seen_part (get_or parts i no_part) in
    let within : i < length (map seen_part parts) = rw length-map c.loop-i-test.true in
    let at = part_at (map seen_part parts) i part c.args.places.now (place_of []) c.requires.places within (get_or-map seen_part parts i no_part part c.loop-i-test.true) in
    let followed = followed_at (map seen_part parts) i part _ _ at (behind_seen seen_part parts (i + 1)) in
    this_binds_not (map seen_part parts) c.args.name.now c.args.level i c.loop-i.invariant part _ _ followed
    (elim c.else-places-i.branch [ else-places-i-via-then-places-i+else-binds w ↦ not_second _ _ _ (sym w.if-binds.false ∙ w.binds.ensures) | else-places-i-via-else-places-i w ↦ not_first _ _ _ w.if-places-i.false ])

pub returns : goal.returns
returns c = none_binds (map seen_part c.args.parts.now) c.args.name.now c.args.level c.loop-i.i c.loop-i.invariant (rw length-map c.loop-i-test.false)
