use Rattle.rel_traits.proofs.GoingFacts.{tells_removed}
use Rattle.rel_traits.proofs.removal.gather_remove.Goals as goal

pub returns : goal.returns
returns g c =
    tells_removed (g.G.Graph.entities c.args.graph.now) (g.G.Graph.ids c.args.graph.now) c.args.fact c.closure_remove.new.removed.items c.in_ok-closure_remove.ensures
