use Rattle.std.proofs.Common.{[], map}
use Rattle.query_check.specs.Seen.{seen_variable, seen_piece, seen_occurrence}
use Rattle.query_model.specs.Levels.{placed_parts, with_alternatives}
use Rattle.query_model.specs.Query.{pieces_of_part}
use Rattle.query_model.specs.Seen.{seen_part}
use Rattle.query_check.proofs.PartReferences.{HasLeft}
use Rattle.query_check.proofs.query.pieces.Given as goal

abbrev pub invariant-loop-i : goal.invariant-loop-i
invariant-loop-i g l =
    HasLeft (pieces_of_part (g.W.Lookup.known l.world) (map seen_occurrence l.scope.found.now) (map seen_variable l.scope.numbered.now)) (with_alternatives (placed_parts (map seen_part l.parts))) l.i [] (map seen_piece l.pieces.items)
