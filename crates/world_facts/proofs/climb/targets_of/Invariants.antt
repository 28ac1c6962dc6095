use Rattle.std.proofs.Common.{◌≡◌, length}
use Rattle.ecs_model.specs.Links.{targets_in}
use Rattle.world_facts.proofs.climb.targets_of.Given as goal

abbrev pub invariant-loop-id : goal.invariant-loop-id
invariant-loop-id l = targets_in l.ids l.relationship ≡ targets_in l.rest l.relationship

abbrev pub decreases-loop-id : goal.decreases-loop-id
decreases-loop-id l = length l.rest
