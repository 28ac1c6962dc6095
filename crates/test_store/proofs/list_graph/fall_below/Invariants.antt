use Rattle.std.proofs.Common.{take}
use Rattle.test_store.specs.Closed.{FallBelow}
use Rattle.test_store.proofs.list_graph.fall_below.Given as goal

abbrev pub invariant-loop-id : goal.invariant-loop-id
invariant-loop-id l = FallBelow l.index (take l.id-index l.row)
