use Rattle.std.proofs.Common.{map}
use Rattle.query_check.specs.Seen.{seen_use}
use Rattle.query_model.specs.Check.{faults_of_use}
use Rattle.query_check.proofs.LeastFaults.{IsJudging}
use Rattle.query_check.proofs.faults.of_uses.Given as goal

abbrev pub invariant-loop-used : goal.invariant-loop-used
invariant-loop-used g l = IsJudging (λ u. faults_of_use (g.W.Lookup.known l.world) u.1) (map seen_use l.uses) l.used-index l.fn.found l.least
