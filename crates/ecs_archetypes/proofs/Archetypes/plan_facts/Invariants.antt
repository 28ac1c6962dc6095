use Rattle.std.proofs.Common.{◌+◌, length}
use Rattle.ecs_archetypes.proofs.FactPlanning.{ArePlannedFacts}
use Rattle.ecs_archetypes.proofs.Archetypes.plan_facts.Given as goal

abbrev pub invariant-loop-entity : goal.invariant-loop-entity
invariant-loop-entity g l = ArePlannedFacts l.initial.self l.fn.came l.fn.went l.self l.plan.moves l.came l.went

abbrev pub decreases-loop-entity : goal.decreases-loop-entity
decreases-loop-entity g l = length l.came + length l.went
