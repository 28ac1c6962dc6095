use Rattle.std.proofs.Common.{map}
use Rattle.query_check.specs.Seen.{seen_cascading}
use Rattle.query_model.specs.Check.{cascade_fault}
use Rattle.query_check.proofs.LeastFaults.{IsJudging}
use Rattle.query_check.proofs.faults.of_others.Given as goal

abbrev pub invariant-loop-other : goal.invariant-loop-other
invariant-loop-other l = IsJudging cascade_fault (map seen_cascading l.others) l.other-index l.fn.found l.least
