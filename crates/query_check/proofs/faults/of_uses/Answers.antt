-- One more reference at each turn.
use Rattle.std.proofs.Common.{refl}
use Rattle.query_check.specs.Seen.{seen_use}
use Rattle.query_model.specs.Check.{faults_of_use}
use Rattle.query_check.proofs.LeastFaults.{one_seen_judged}
use Rattle.query_check.proofs.faults.of_uses.Goals as goal

pub loop-used-preserved : goal.loop-used-preserved
loop-used-preserved g c =
    one_seen_judged seen_use (λ u. faults_of_use (g.W.Lookup.known c.args.world.now) u.1) c.args.uses.now c.loop-used.used-index c.args.found c.loop-used.least _ _ _ c.loop-used.invariant c.loop-used-test.true refl c.add_use.ensures
