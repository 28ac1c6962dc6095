use Rattle.std.proofs.Common.{◌≡◌, take}
use Rattle.std.specs.List.{flat_map}
use Rattle.rel_travel.specs.Holders.{holders_of_pair}
use Rattle.rel_travel.specs.Growing.{IsGrownBy}
use Rattle.rel_travel.proofs.falls.add_pairs.Given as goal

abbrev pub invariant-loop-relationship : goal.invariant-loop-relationship
invariant-loop-relationship g l = record {
  size : l.found.size ≡ l.initial.found.size;
  grown : IsGrownBy (flat_map (λ e. holders_of_pair (g.G.Graph.entities l.graph) (g.G.Graph.ids l.graph) l.target e.index) (take l.relationship-index l.relationships)) l.initial.found.items l.found.items;
}
