use Rattle.std.proofs.Common.{subst}
use Rattle.test_store.specs.Closed.{IsClosed}
use Rattle.test_store.proofs.Graphs.{links}
use Rattle.test_store.proofs.list_graph.ListGraphGraph.size.Goals as goal

pub returns-clause-links : goal.returns-clause-links
returns-clause-links c = links c.args.self.now (subst IsClosed c.self.view_is c.self.invariant)
