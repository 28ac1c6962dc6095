-- One more part at each turn.
use Rattle.std.proofs.Common.{◌<◌, ◌∙◌, [], ap, get_or, length, map, sym}
use Rattle.std.proofs.lemmas.List.{get_or-map, length-map}
use Rattle.query_check.specs.Places.{place_of}
use Rattle.query_check.specs.Seen.{seen_cascading}
use Rattle.query_model.specs.Cascades.{cascading_in, cascading_part}
use Rattle.query_model.specs.Levels.{placed_parts}
use Rattle.query_model.specs.Seen.{seen_part}
use Rattle.query_check.proofs.AbsentElements.{no_part}
use Rattle.query_check.proofs.PartReferences.{added, none_left, not_added, one_less, part_at, placed-length}
use Rattle.query_check.proofs.cascades.cascades.Goals as goal
use Rattle.query_check.proofs.cascades.cascades.Goals.{in-Some+in_ok-push, in_default}

pub loop-i-preserved : goal.loop-i-preserved
loop-i-preserved g c =
    let parts = c.args.parts.now in
    let i = c.loop-i.i in
    let part = get_or parts i no_part in
    let ps = map seen_part parts in
    let within : i < length ps = rw length-map c.loop-i-test.true in
    let at = part_at ps i (seen_part part) c.args.places.now (place_of []) c.requires.places within (get_or-map seen_part parts i no_part (seen_part part) c.loop-i-test.true) in
    one_less cascading_part (placed_parts ps) i [] (map seen_cascading c.loop-i.found.items) _ _ ([], seen_part part) c.loop-i.invariant at.within
    (ap (λ p. cascading_in (length (get_or (placed_parts ps) i ([], seen_part part)).0) p) at.part ∙ ap (λ r. cascading_in r.depth (seen_part part)) at.place ∙ sym c.cascading_in.ensures)
    (elim c.match-cascading_in.branch [
      | in-Some+in_ok-push w ↦ added seen_cascading c.cascading_in.result w.in-Some.cascading c.loop-i.found.items _ w.in-Some.is (ap (λ v. v.items) w.found-is ∙ w.in_ok-push.ensures.items)
      | in_default w ↦ not_added seen_cascading c.cascading_in.result c.loop-i.found.items _ w.in_default.is (ap (λ v. v.items) w.found-is)
    ])

pub returns : goal.returns
returns g c =
    let ps = map seen_part c.args.parts.now in
    none_left cascading_part (placed_parts ps) c.loop-i.i [] (map seen_cascading c.loop-i.found.items) c.loop-i.invariant (rw (placed-length ps, length-map) c.loop-i-test.false)
