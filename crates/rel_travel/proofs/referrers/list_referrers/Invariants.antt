use Rattle.std.proofs.Common.{◌≡◌, [], take}
use Rattle.std.specs.List.{flat_map}
use Rattle.rel_travel.specs.Growing.{IsGrownBy}
use Rattle.rel_travel.specs.Outside.{outside_referrers}
use Rattle.rel_travel.proofs.referrers.list_referrers.Given as goal

abbrev pub invariant-loop-member : goal.invariant-loop-member
invariant-loop-member g l = record {
  size : l.found.size ≡ l.initial.found.size;
  grown : IsGrownBy (flat_map (outside_referrers (g.G.Graph.entities l.graph) (g.G.Graph.ids l.graph) l.members.items) (take l.member-index l.members.items)) [] l.found.items;
}
