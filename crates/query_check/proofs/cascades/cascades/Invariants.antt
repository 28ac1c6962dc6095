use Rattle.std.proofs.Common.{[], map}
use Rattle.query_check.specs.Seen.{seen_cascading}
use Rattle.query_model.specs.Cascades.{cascading_part}
use Rattle.query_model.specs.Levels.{placed_parts}
use Rattle.query_model.specs.Seen.{seen_part}
use Rattle.query_check.proofs.PartReferences.{HasLeft}
use Rattle.query_check.proofs.cascades.cascades.Given as goal

abbrev pub invariant-loop-i : goal.invariant-loop-i
invariant-loop-i g l = HasLeft cascading_part (placed_parts (map seen_part l.parts)) l.i [] (map seen_cascading l.found.items)
