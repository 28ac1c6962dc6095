use Rattle.std.proofs.Common.{◌≡◌, false, take}
use Rattle.std.specs.List.{list_any}
use Rattle.rel_travel.proofs.ForbiddenDeletions.{one_forbids}
use Rattle.rel_travel.proofs.forbidding.has_forbidder.Given as goal

abbrev pub invariant-loop-entity : goal.invariant-loop-entity
invariant-loop-entity g l = list_any (one_forbids (g.G.Graph.ids l.graph) l.members.items) (take l.entity-index l.referring) ≡ false
