use Rattle.std.proofs.Common.{map}
use Rattle.query_model.specs.Check.{too_deep_part}
use Rattle.query_model.specs.Levels.{placed_parts}
use Rattle.query_model.specs.Seen.{seen_part}
use Rattle.query_check.proofs.LeastFaults.{IsJudging}
use Rattle.query_check.proofs.faults.of_depth.Given as goal

abbrev pub invariant-loop-i : goal.invariant-loop-i
invariant-loop-i l = IsJudging too_deep_part (placed_parts (map seen_part l.parts)) l.i l.fn.found l.least
