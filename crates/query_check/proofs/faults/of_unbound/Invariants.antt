use Rattle.std.proofs.Common.{map}
use Rattle.query_model.specs.Check.{unbound}
use Rattle.query_model.specs.Scope.{occurrences}
use Rattle.query_model.specs.Seen.{seen_part}
use Rattle.query_check.proofs.LeastFaults.{IsJudging}
use Rattle.query_check.proofs.faults.of_unbound.Given as goal

abbrev pub invariant-loop-occurrence : goal.invariant-loop-occurrence
invariant-loop-occurrence l = IsJudging (unbound (map seen_part l.parts)) (occurrences (map seen_part l.parts)) l.occurrence-index l.fn.found l.least
