-- One more at each turn.

use Rattle.query_check.specs.Seen.{seen_cascading}
use Rattle.query_model.specs.Check.{cascade_fault}
use Rattle.query_check.proofs.LeastFaults.{one_seen_judged}
use Rattle.query_check.proofs.faults.of_others.Goals as goal

pub loop-other-preserved : goal.loop-other-preserved
loop-other-preserved c =
    one_seen_judged seen_cascading cascade_fault c.args.others.now c.loop-other.other-index c.args.found c.loop-other.least _ _ _ c.loop-other.invariant c.loop-other-test.true c.misplaced.ensures c.add_fault.ensures
