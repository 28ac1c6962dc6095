use Rattle.std.proofs.Common.{◌≡◌, take}
use Rattle.std.specs.List.{flat_map}
use Rattle.rel_travel.specs.Holders.{holders_of_pair}
use Rattle.rel_travel.specs.Growing.{IsGrownBy}
use Rattle.rel_travel.proofs.falls.add_sources.Given as goal

abbrev pub invariant-loop-table : goal.invariant-loop-table
invariant-loop-table g l = record {
  size : l.found.size ≡ l.initial.found.size;
  grown : IsGrownBy (flat_map (λ t. flat_map (holders_of_pair (g.G.Graph.entities l.graph) (g.G.Graph.ids l.graph) l.target) (g.G.Holders.rows l.graph t)) (take l.table-index l.table-items)) l.initial.found.items l.found.items;
}
