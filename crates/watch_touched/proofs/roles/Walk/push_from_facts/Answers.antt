use Rattle.std.proofs.Common.{subst}
use Rattle.ecs_model.specs.World.{Key}
use Rattle.watch_touched.specs.Leaning.{Adds}
use Rattle.watch_touched.specs.Steps.{found_from}
use Rattle.watch_touched.proofs.GrownLists.{given}
use Rattle.watch_touched.proofs.roles.Walk.push_from_facts.Goals as goal

pub loop-fact-preserved : goal.loop-fact-preserved
loop-fact-preserved g c =
    let next = found_from c.args.self.now.query.now c.args.self.now.world.now.state c.args.self.now.changes.now (c.args.self.now.asked.now.others).items in
    let found = c.loop-fact.moving.items in
    let after = c.push_from_fact.new.moving.items in
    given next c.args.facts.now c.loop-fact.fact-index c.loop-fact-test.true c.fact-item.result c.args.moving.now.items found after c.loop-fact.invariant
    (subst (λ (k : Key). Adds (next k) found after) c.fact-item.is (c.in_ok-push_from_fact.ensures c.if-not-branch.false))
