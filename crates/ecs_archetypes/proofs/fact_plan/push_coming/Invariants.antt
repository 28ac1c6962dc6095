use Rattle.std.proofs.Common.{◌≡◌, ◌++◌, take}
use Rattle.ecs_archetypes.specs.FactChanges.{ids_coming}
use Rattle.ecs_archetypes.proofs.fact_plan.push_coming.Given as goal

abbrev pub invariant-loop-fact : goal.invariant-loop-fact
invariant-loop-fact g l = record { so_far : l.ids.items ≡ l.initial.ids.items ++ ids_coming (take l.fact-index l.came) }
