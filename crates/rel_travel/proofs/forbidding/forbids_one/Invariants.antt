use Rattle.std.proofs.Common.{◌≡◌, false, take}
use Rattle.std.specs.List.{list_any}
use Rattle.rel_travel.specs.Outside.{forbids_any}
use Rattle.rel_travel.proofs.forbidding.forbids_one.Given as goal

abbrev pub invariant-loop-id : goal.invariant-loop-id
invariant-loop-id g l = list_any (forbids_any (g.G.Graph.ids l.graph) l.members.items) (take l.id-index (g.G.Graph.ids l.graph l.entity)) ≡ false
