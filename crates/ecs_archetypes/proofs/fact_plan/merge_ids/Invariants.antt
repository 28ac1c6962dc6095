use Rattle.std.proofs.Common.{◌+◌, ◌-◌, length}
use Rattle.ecs_archetypes.proofs.MergedIds.{IsMerging}
use Rattle.ecs_archetypes.proofs.fact_plan.merge_ids.Given as goal

abbrev pub invariant-loop-place : goal.invariant-loop-place
invariant-loop-place g l = IsMerging l.fn.facts l.fn.came l.fn.went l.facts l.came l.went l.place l.ids.items

abbrev pub decreases-loop-place : goal.decreases-loop-place
decreases-loop-place g l = length l.came + length l.went + (length l.facts - l.place)
