-- One more part at each turn.
use Rattle.std.proofs.Common.{arith}
use Rattle.std.proofs.Common.{◌+◌, ◌<◌, [], get_or, length, map}
use Rattle.std.proofs.lemmas.List.{get_or-map, length-map}
use Rattle.query_check.specs.Places.{place_of}
use Rattle.query_check.specs.Seen.{seen_variable, seen_piece, seen_occurrence}
use Rattle.query_model.specs.Query.{pieces_of}
use Rattle.query_check.proofs.AbsentElements.{no_part}
use Rattle.query_model.specs.Seen.{seen_part}
use Rattle.query_check.proofs.PartReferences.{behind_seen, followed_at, part_at}
use Rattle.query_check.proofs.BuiltPieces.{all_built, part_built}
use Rattle.query_check.proofs.query.pieces.Goals as goal

pub loop-i-preserved : goal.loop-i-preserved
loop-i-preserved g c =
    let parts = c.args.parts.now in
    let scope = c.args.scope.now in
    let i = c.loop-i.i in
    let part = get_or parts i no_part in
    let within : i < length (map seen_part parts) = rw length-map c.loop-i-test.true in
    part_built (pieces_of (g.W.Lookup.known c.args.world.now) (map seen_occurrence scope.found.now) (map seen_variable scope.numbered.now)) (map seen_part parts) i (seen_part part) _ _ scope.places.now [] (map seen_piece c.loop-i.pieces.items) _
    c.requires.places c.loop-i.invariant
    (followed_at (map seen_part parts) i (seen_part part) _ _ (part_at (map seen_part parts) i (seen_part part) scope.places.now (place_of []) c.requires.places within (get_or-map seen_part parts i no_part (seen_part part) c.loop-i-test.true)) (behind_seen seen_part parts (i + 1)))
    c.in_ok-add_pieces.ensures

pub returns : goal.returns
returns g c =
    let ps = map seen_part c.args.parts.now in
    let scope = c.args.scope.now in
    all_built (pieces_of (g.W.Lookup.known c.args.world.now) (map seen_occurrence scope.found.now) (map seen_variable scope.numbered.now)) ps c.loop-i.i (map seen_piece c.loop-i.pieces.items) c.loop-i.invariant
    (rw length-map c.loop-i-test.false)

pub loop-i-init : goal.loop-i-init
loop-i-init g c = grind arith

pub offset_bounds-parts-i : goal.offset_bounds-parts-i
offset_bounds-parts-i g c = grind arith

pub bounds-parts-i : goal.bounds-parts-i
bounds-parts-i g c = grind arith

pub offset_bounds-scope-i : goal.offset_bounds-scope-i
offset_bounds-scope-i g c = grind arith

pub bounds-scope-i : goal.bounds-scope-i
bounds-scope-i g c = grind arith

pub overflow_add-i : goal.overflow_add-i
overflow_add-i g c = grind arith

pub offset_bounds-parts-i-in-loop-i : goal.offset_bounds-parts-i-in-loop-i
offset_bounds-parts-i-in-loop-i g c = grind arith

pub slice_bounds-add_pieces-count : goal.slice_bounds-add_pieces-count
slice_bounds-add_pieces-count g c = grind arith

pub slice_bounds-add_pieces-start : goal.slice_bounds-add_pieces-start
slice_bounds-add_pieces-start g c = grind arith

pub slice_bounds-add_pieces-end : goal.slice_bounds-add_pieces-end
slice_bounds-add_pieces-end g c = grind arith

pub add_pieces-requires-clause-tree : goal.add_pieces-requires-clause-tree
add_pieces-requires-clause-tree g c = grind arith

pub add_pieces-requires-clause-within : goal.add_pieces-requires-clause-within
add_pieces-requires-clause-within g c = grind arith

pub returns-in_err-add_pieces : goal.returns-in_err-add_pieces
returns-in_err-add_pieces g c = grind arith
