use Rattle.std.proofs.Common.{ℕ, ◌<◌}
use Rattle.test_store.specs.Closed.{FallBelow, row_at}
use Rattle.test_store.proofs.list_graph.ListGraph.leads_down.Given as goal

abbrev pub invariant-loop-index : goal.invariant-loop-index
invariant-loop-index l = (k : ℕ) → k < l.index → FallBelow k (row_at l.self k)
