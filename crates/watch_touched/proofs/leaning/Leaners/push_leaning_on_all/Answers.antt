use Rattle.watch_touched.specs.Searches.{leaners_on}
use Rattle.watch_touched.proofs.GrownLists.{given}
use Rattle.watch_touched.proofs.leaning.Leaners.push_leaning_on_all.Goals as goal

pub loop-target-preserved : goal.loop-target-preserved
loop-target-preserved g c =
    given (leaners_on c.args.self.now) c.args.targets.now c.loop-target.target-index c.loop-target-test.true _
    c.args.found.now.items c.loop-target.found.items c.push_leaning.new.found.items c.loop-target.invariant (c.in_ok-push_leaning.ensures c.if-not-branch.false)
