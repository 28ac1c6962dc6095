use Rattle.ecs_id.specs.declared.EntityId.{EntityId}
use Rattle.watch_touched.proofs.GrownLists.{added}
use Rattle.watch_touched.proofs.leaning.push_each.Goals as goal

pub loop-entity-preserved : goal.loop-entity-preserved
loop-entity-preserved g c =
    added (λ (e : EntityId). e.index) c.args.entities.now c.loop-entity.entity-index c.loop-entity-test.true _ c.args.found.now.items c.loop-entity.found.items c.push_new.new.found.items c.loop-entity.invariant c.in_ok-push_new.ensures
