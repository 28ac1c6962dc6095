use Rattle.rel_traits.proofs.DeletedSets.{tells_lost, tells_went}
use Rattle.rel_traits.proofs.JoinedLists.{after_none, after_copy}
use Rattle.rel_traits.proofs.deletion.GoneFacts.gather.Goals as goal

pub returns-clause-lost : goal.returns-clause-lost
returns-clause-lost g c =
    tells_lost (g.G.Graph.entities c.args.graph.now) (g.G.Graph.ids c.args.graph.now) c.args.scratch.now c.list_lost.new.facts.items c.put_in_order.new.facts.items
    c.in_ok-list_lost.ensures c.put_in_order.ensures.ascend c.put_in_order.ensures.same

pub returns-clause-went : goal.returns-clause-went
returns-clause-went g c =
    tells_went (g.G.Graph.entities c.args.graph.now) (g.G.Graph.ids c.args.graph.now) c.args.scratch.now c.list_dead.new.facts.items c.put_in_order-2.new.facts.items
    (after_copy _ c.in_ok-list_lost.ensures c.deref.ensures.value (after_none _ c.clear.ensures.items c.in_ok-append.ensures) c.in_ok-list_dead.ensures)
    c.put_in_order-2.ensures.ascend c.put_in_order-2.ensures.same
