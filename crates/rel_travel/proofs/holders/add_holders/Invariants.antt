use Rattle.std.proofs.Common.{◌≡◌, take}
use Rattle.std.specs.List.{flat_map}
use Rattle.rel_travel.specs.Coming.{with_finds}
use Rattle.rel_travel.proofs.holders.add_holders.Given as goal

abbrev pub invariant-loop-table : goal.invariant-loop-table
invariant-loop-table g l = record {
  size : l.found.size ≡ l.initial.found.size;
  items : l.found.items ≡ with_finds l.initial.found.items (flat_map (g.G.Holders.rows l.graph) (take l.table-index l.table-items));
}
