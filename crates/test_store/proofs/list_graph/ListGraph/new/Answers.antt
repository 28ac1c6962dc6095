use Rattle.std.proofs.Common.{ap, arith, length}
use Rattle.test_store.proofs.Graphs.{closed_from}
use Rattle.test_store.proofs.list_graph.ListGraph.new.Goals as goal

pub invariant_of-result : goal.invariant_of-result
invariant_of-result c =
    closed_from c.args.rows.items c.deref.result.now c.deref-else-not-is_free.result.now c.len-count.result c.deref.ensures.value c.deref-else-not-is_free.ensures.value (omega (arith, c.len-count.ensures, c.deref.ensures.len, ap length c.deref.ensures.value)) (omega arith)
    (c.is_free.ensures c.if-not-is_free.false) (c.are_closed.ensures c.if-not-are_closed.false)
