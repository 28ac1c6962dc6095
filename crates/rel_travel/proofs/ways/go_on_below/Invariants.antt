use Rattle.std.proofs.Common.{◌≡◌, ◌-◌}
use Rattle.rel_travel.specs.Holders.{holders_of_pair}
use Rattle.rel_travel.specs.Ways.{IsSought}
use Rattle.rel_travel.proofs.ways.go_on_below.Given as goal

abbrev pub invariant-turns : goal.invariant-turns
invariant-turns g l = record {
  size : l.below.found.size ≡ l.initial.below.found.size;
  sought : IsSought (λ x. holders_of_pair (g.G.Graph.entities l.graph) (g.G.Graph.ids l.graph) x l.relationship) l.below.start l.below.is_alone l.below.found.items l.below.done;
}

abbrev pub decreases-turns : goal.decreases-turns
decreases-turns g l = l.initial.below.found.size - l.below.done
