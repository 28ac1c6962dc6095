use Rattle.std.proofs.Common.{◌≡◌, length}
use Rattle.std.specs.List.{list_any}
use Rattle.id_pattern.specs.Patterns.{matches}
use Rattle.ecs_model.specs.Links.{targets_in}
use Rattle.world_facts.proofs.climb.targets_without.Given as goal

abbrev pub invariant-loop-id : goal.invariant-loop-id
invariant-loop-id l = record {
  targets : targets_in l.ids l.relationship ≡ targets_in l.rest l.relationship;
  any : list_any (matches l.pattern) l.ids ≡ list_any (matches l.pattern) l.rest;
}

abbrev pub decreases-loop-id : goal.decreases-loop-id
decreases-loop-id l = length l.rest
