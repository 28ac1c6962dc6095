use Rattle.rel_traits.specs.FactLists.{GivesWay}
use Rattle.rel_traits.proofs.SortedFacts.{held_ones, ways_given}
use Rattle.rel_traits.proofs.replaced.replaced_by.Goals as goal

pub returns : goal.returns
returns g c =
    let ids = g.G.Graph.ids c.args.graph.now in
    held_ones ids (GivesWay ids c.args.added.now) c.list_displaced.new.replaced.items c.keep_held.new.facts.items c.put_in_order.new.facts.items
    (ways_given ids c.args.added.now c.list_displaced.new.replaced.items c.in_ok-list_displaced.ensures) c.keep_held.ensures c.put_in_order.ensures.ascend c.put_in_order.ensures.same
