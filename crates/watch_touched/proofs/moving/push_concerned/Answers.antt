use Rattle.std.proofs.Common.{ap}
use Rattle.ecs_model.specs.World.{Key}
use Rattle.watch_concerns.specs.Concerns.{concerns}
use Rattle.watch_concerns.specs.Others.{concerns_below, concerns_others}
use Rattle.watch_touched.proofs.MovingEntities.{gathered_more}
use Rattle.watch_touched.proofs.moving.push_concerned.Goals as goal

pub loop-fact-preserved : goal.loop-fact-preserved
loop-fact-preserved g c =
    let q = c.args.query.now in
    let ks = c.args.facts.now in
    let at = c.loop-fact.fact-index in
    let k : Key = c.fact-item.result in
    let lt = c.loop-fact-test.true in
    let entity = ap (λ (k : Key). k.0) c.fact-item.is in
    let now = c.in_ok-push_if_concerned.ensures in
    let inv = c.loop-fact.invariant in
    record {
      own = gathered_more (concerns q) ks at k c.args.own.now.items c.loop-fact.own.items c.push_if_concerned.new.own.items (concerns q k.1) k.0 lt inv.own
          (ap (λ (k : Key). concerns q k.1) c.fact-item.is) entity now.own;
      others = gathered_more (concerns_others q) ks at k c.args.targets.now.others.items c.loop-fact.targets.others.items c.push_if_concerned.new.targets.others.items (concerns_others q k.1) k.0 lt inv.others
          (ap (λ (k : Key). concerns_others q k.1) c.fact-item.is) entity now.others;
      below = gathered_more (concerns_below q) ks at k c.args.targets.now.below.items c.loop-fact.targets.below.items c.push_if_concerned.new.targets.below.items (concerns_below q k.1) k.0 lt inv.below
          (ap (λ (k : Key). concerns_below q k.1) c.fact-item.is) entity now.below;
    }
