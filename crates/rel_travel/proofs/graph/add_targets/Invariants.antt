use Rattle.std.proofs.Common.{◌≡◌, take}
use Rattle.rel_travel.specs.Coming.{with_finds}
use Rattle.ecs_model.specs.Links.{targets_in}
use Rattle.rel_travel.proofs.graph.add_targets.Given as goal

abbrev pub invariant-loop-id : goal.invariant-loop-id
invariant-loop-id g l = record {
  size : l.found.size ≡ l.initial.found.size;
  items : l.found.items ≡ with_finds l.initial.found.items (targets_in (take l.id-index l.ids) l.relationship);
}
