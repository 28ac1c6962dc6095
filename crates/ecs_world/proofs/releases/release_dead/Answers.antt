-- What mentions one of the dead goes, death by death.
use Rattle.std.proofs.Common.{get_or, refl, ◌∙◌, arith}
use Rattle.ecs_world.proofs.ReleasedTables.{entities_each, left_dead, left_next, mentions_entity, unheld_at}
use Rattle.ecs_world.proofs.releases.release_dead.Goals as goal

pub release_mentions-requires : goal.release_mentions-requires
release_mentions-requires g c = record {
  unheld = unheld_at mentions_entity c.args.dead.now c.args.archetypes.now c.loop-entity.entity-index _ _ c.loop-entity.archetypes (omega arith) refl c.loop-entity.invariant
      (λ e i gone. c.requires.unheld e i (entities_each c.args.dead.now i ∙ gone));
  whole = c.loop-entity.invariant.whole;
}

pub loop-entity-preserved : goal.loop-entity-preserved
loop-entity-preserved g c =
    left_next mentions_entity c.args.dead.now c.args.archetypes.now c.loop-entity.entity-index _ (get_or c.args.dead.now c.loop-entity.entity-index _) c.loop-entity.archetypes c.release_mentions.new.archetypes (omega arith) refl
    c.loop-entity.invariant c.release_mentions.ensures

pub returns : goal.returns
returns g c = left_dead c.args.dead.now c.args.archetypes.now c.loop-entity.archetypes c.loop-entity.entity-index (omega arith) c.loop-entity.invariant
