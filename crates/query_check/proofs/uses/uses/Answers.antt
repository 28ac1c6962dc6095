-- One more part at each turn.
use Rattle.std.proofs.Common.{◌≡◌, ◌<◌, [], ap, arith, get_or, length, map}
use Rattle.std.proofs.lemmas.List.{get_or-map, length-map}
use Rattle.query_check.specs.Places.{place_of}
use Rattle.query_check.specs.Seen.{level_uses_of, seen_use}
use Rattle.query_model.specs.Levels.{placed_parts}
use Rattle.query_check.proofs.AbsentElements.{no_part}
use Rattle.query_model.specs.Seen.{seen_part}
use Rattle.query_check.proofs.PartReferences.{all_left, none_left, part_at, part_used, placed-length}
use Rattle.query_check.proofs.uses.uses.Goals as goal

pub loop-i-init : goal.loop-i-init
loop-i-init g c = record {
  left = rw c.in_ok-uses.ensures.items (all_left level_uses_of (placed_parts (map seen_part c.args.parts.now)) []);
  found = λ k d h. absurd (let none = c.in_ok-uses.ensures.items in let e : length c.in_ok-uses.uses.items ≡ 0 = ap length none in omega arith);
}

pub loop-i-preserved : goal.loop-i-preserved
loop-i-preserved g c =
    let parts = c.args.parts.now in
    let i = c.loop-i.i in
    let part = get_or parts i no_part in
    let within : i < length (map seen_part parts) = rw length-map c.loop-i-test.true in
    record {
      left =
          part_used (map seen_part parts) i (seen_part part) _ [] (map seen_use c.loop-i.uses.items) _ c.loop-i.invariant.left
          (part_at (map seen_part parts) i (seen_part part) c.args.places.now (place_of []) c.requires.places within (get_or-map seen_part parts i no_part (seen_part part) c.loop-i-test.true))
          c.in_ok-add_part.ensures.uses;
      found = c.in_ok-add_part.ensures.found c.loop-i.invariant.found;
    }

pub returns-clause-uses : goal.returns-clause-uses
returns-clause-uses g c =
    let ps = map seen_part c.args.parts.now in
    none_left level_uses_of (placed_parts ps) c.loop-i.i [] (map seen_use c.loop-i.uses.items) c.loop-i.invariant.left (rw (placed-length ps, length-map) c.loop-i-test.false)
