use Rattle.std.proofs.Common.{◌≡◌, take}
use Rattle.std.specs.List.{filter, flat_map}
use Rattle.rel_travel.specs.Growing.{IsGrownBy}
use Rattle.rel_travel.specs.Outside.{is_outside}
use Rattle.rel_travel.proofs.referrers.add_outside.Given as goal

abbrev pub invariant-loop-table : goal.invariant-loop-table
invariant-loop-table g l = record {
  size : l.found.size ≡ l.initial.found.size;
  grown : IsGrownBy (flat_map (λ t. filter (is_outside l.members.items) (g.G.Holders.rows l.graph t)) (take l.table-index l.table-items)) l.initial.found.items l.found.items;
}
