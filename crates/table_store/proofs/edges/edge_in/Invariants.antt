use Rattle.std.proofs.Common.{◌≡◌, drop}
use Rattle.table_store.specs.Kept.{edge_in}
use Rattle.table_store.proofs.edges.edge_in.Given as goal

abbrev pub invariant-loop-edge : goal.invariant-loop-edge
invariant-loop-edge l = edge_in l.edges l.id ≡ edge_in (drop l.edge-index l.edges) l.id
