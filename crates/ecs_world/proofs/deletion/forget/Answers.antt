use Rattle.std.proofs.Common.{take, subst, sym}
use Rattle.std.proofs.lemmas.List.{take_all, take_more}
use Rattle.ecs_world.proofs.DeathLists.{AreForgotten, forgotten_more, forgotten_none}
use Rattle.ecs_world.proofs.deletion.forget.Goals as goal

pub loop-entity-init : goal.loop-entity-init
loop-entity-init g c = forgotten_none c.args.names.now c.args.schemas.now.entries

pub loop-entity-preserved : goal.loop-entity-preserved
loop-entity-preserved g c =
    subst (AreForgotten c.args.names.now c.unbind.new.self c.args.schemas.now.entries c.remove.new.self.entries) (sym (take_more c.args.dead.now c.loop-entity.entity-index _ c.loop-entity-test.true))
    (forgotten_more c.args.names.now c.loop-entity.names c.unbind.new.self c.args.schemas.now.entries c.loop-entity.schemas.entries c.remove.new.self.entries
    (take c.loop-entity.entity-index c.args.dead.now) _ c.loop-entity.invariant c.unbind.ensures.freed c.unbind.ensures.others c.remove.ensures.entries)

pub returns-clause-names : goal.returns-clause-names
returns-clause-names g c =
    (subst (AreForgotten c.args.names.now c.loop-entity.names c.args.schemas.now.entries c.loop-entity.schemas.entries) (take_all c.loop-entity.entity-index c.args.dead.now c.loop-entity-test.false) c.loop-entity.invariant).names

pub returns-clause-schemas : goal.returns-clause-schemas
returns-clause-schemas g c =
    (subst (AreForgotten c.args.names.now c.loop-entity.names c.args.schemas.now.entries c.loop-entity.schemas.entries) (take_all c.loop-entity.entity-index c.args.dead.now c.loop-entity-test.false) c.loop-entity.invariant).schemas
