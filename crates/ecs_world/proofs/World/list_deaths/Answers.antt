use Rattle.std.proofs.Common.{arith}
use Rattle.std.proofs.lemmas.Grind.{common_steps}
use Rattle.std.proofs.Common.{sym, ◌∙◌, ◌++◌, [], ◌∷◌}
use Rattle.ecs_world.proofs.DeathLists.{deaths_more, pushed}
use Rattle.ecs_world.proofs.World.list_deaths.Goals as goal

pub loop-entity-preserved : goal.loop-entity-preserved
loop-entity-preserved g c =
    pushed c.push.result c.loop-entity.died.items c.push.new.self.items c.in_ok-death.death (sym c.is_err.ensures.value ∙ c.if-is_err.false) c.push.ensures.items
    ∙ (λ k. c.loop-entity.invariant k ++ c.in_ok-death.ensures k ∷ [])
    ∙ sym (deaths_more c.args.self.now.state c.args.dead.now c.loop-entity.entity-index _ c.loop-entity-test.true)

pub loop-entity-init : goal.loop-entity-init
loop-entity-init g c = grind arith

pub offset_bounds-dead-entity-index : goal.offset_bounds-dead-entity-index
offset_bounds-dead-entity-index g c = grind arith

pub returns-in_err-death : goal.returns-in_err-death
returns-in_err-death g c = grind arith

pub returns : goal.returns
returns g c = grind (arith, common_steps)
