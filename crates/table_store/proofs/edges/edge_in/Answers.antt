use Rattle.std.proofs.Common.{Some, arith, ap, sym, ◌∙◌}
use Rattle.table_store.proofs.EdgeLemmas.{met, none_left, passed_edge}
use Rattle.table_store.proofs.edges.edge_in.Goals as goal

pub returns-then-eq : goal.returns-then-eq
returns-then-eq c = ap Some c.key.ensures ∙ sym (c.loop-edge.invariant ∙ met c.args.edges.now c.loop-edge.edge-index c.edge-item.result c.args.id (omega arith) c.edge-item.is (sym c.eq.ensures ∙ c.if-eq.true))

pub loop-edge-preserved : goal.loop-edge-preserved
loop-edge-preserved c = c.loop-edge.invariant ∙ passed_edge c.args.edges.now c.loop-edge.edge-index c.edge-item.result c.args.id (omega arith) c.edge-item.is (sym c.eq.ensures ∙ c.if-eq.false)

pub returns : goal.returns
returns c = sym (c.loop-edge.invariant ∙ none_left c.args.edges.now c.loop-edge.edge-index c.args.id (omega arith))
