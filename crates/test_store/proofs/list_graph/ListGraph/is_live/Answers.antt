use Rattle.std.proofs.Common.{◌-◌, length, arith}
use Rattle.std.proofs.lemmas.Bool.Decides.{nat_tests}
use Rattle.test_store.proofs.Graphs.{in_down, live_tells}
use Rattle.test_store.proofs.list_graph.ListGraph.is_live.Goals as goal

pub returns-then-index-ge1 : goal.returns-then-index-ge1
returns-then-index-ge1 c = live_tells c.args.self.now c.args.index c.size.result c.size.ensures.size (omega arith)

pub returns-else-index-ge1 : goal.returns-else-index-ge1
returns-else-index-ge1 c = (λ h. absurd (grind (arith, nat_tests, h)), λ h. let p = in_down (length c.args.self.now - 1) c.args.index h in absurd (omega (arith, p.0)))
