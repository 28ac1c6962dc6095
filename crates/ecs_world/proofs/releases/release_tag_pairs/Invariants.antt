use Rattle.ecs_world.proofs.ReleasedTables.{IsLeftTo, tags_with}
use Rattle.ecs_world.proofs.releases.release_tag_pairs.Given as goal

abbrev pub invariant-loop-fact : goal.invariant-loop-fact
invariant-loop-fact g l = IsLeftTo tags_with l.came l.initial.archetypes l.fact-index l.archetypes
