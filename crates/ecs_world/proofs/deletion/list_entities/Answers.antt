use Rattle.std.proofs.Common.{◌↔◌, sym, ap, subst, ◌∙◌, ◌++◌, [], ◌∷◌, Some}
use Rattle.std.proofs.lemmas.List.{take_all}
use Rattle.std.proofs.lemmas.List.Filters.{dedup_is}
use Rattle.std.specs.List.{Contains}
use Rattle.std.specs.Prelude.{filter_map}
use Rattle.ecs_archetypes.specs.Holdings.{entity_at}
use Rattle.ecs_archetypes.specs.Housing.{holdings_of}
use Rattle.ecs_world.proofs.DeathLists.{listed_more, listed_same}
use Rattle.ecs_world.proofs.OrderedEntities.{in_order, same_entities}
use Rattle.ecs_world.proofs.deletion.list_entities.Goals as goal
use Rattle.ecs_world.proofs.deletion.list_entities.Goals.{in-Some+in_ok-push, in_default}

pub loop-index-preserved : goal.loop-index-preserved
loop-index-preserved g c = elim c.match-at.branch [
  | in-Some+in_ok-push w ↦
      ap (λ v. v.items) w.entities-is
      ∙ w.in_ok-push.ensures.items
      ∙ ap (λ es. es ++ w.in-Some.entity ∷ []) c.loop-index.invariant
      ∙ sym (listed_more (entity_at (holdings_of c.args.archetypes.now)) c.args.indexes.now c.loop-index.index-index _ c.loop-index-test.true (Some w.in-Some.entity) w.in-Some.ensures)
  | in_default w ↦
      ap (λ v. v.items) w.entities-is ∙ c.loop-index.invariant
      ∙ sym (listed_same (entity_at (holdings_of c.args.archetypes.now)) c.args.indexes.now c.loop-index.index-index _ c.loop-index-test.true (sym w.in_default.is ∙ c.at.ensures))
]

pub returns-clause-ascend : goal.returns-clause-ascend
returns-clause-ascend g c = in_order c.loop-index.entities.items _ _ (dedup_is _ _ _ c.dedup.ensures.filtered) c.sort_unstable.ensures.sorted

pub returns-clause-same : goal.returns-clause-same
returns-clause-same g c = λ e.
    subst (λ es. Contains c.dedup.new.self.items e ↔ Contains es e) (c.loop-index.invariant ∙ ap (filter_map (entity_at (holdings_of c.args.archetypes.now))) (take_all c.loop-index.index-index c.args.indexes.now c.loop-index-test.false))
    (same_entities _ _ _ (dedup_is _ _ _ c.dedup.ensures.filtered) c.sort_unstable.ensures.permutation e)
