use Rattle.std.proofs.Common.{take}
use Rattle.ecs_model.specs.Links.{targets_in}
use Rattle.rel_travel.specs.Words.{AreNoted}
use Rattle.rel_travel.proofs.depths.first_unknown.Given as goal

abbrev pub invariant-loop-place : goal.invariant-loop-place
invariant-loop-place l = AreNoted l.known (targets_in (take l.place l.ids) l.relationship)
