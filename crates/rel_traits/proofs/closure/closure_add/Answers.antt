use Rattle.std.proofs.Common.{refl}
use Rattle.ecs_id.specs.Id.{IsIndex}
use Rattle.ecs_model.specs.Added.{brought}
use Rattle.ecs_model.specs.World.{Key}
use Rattle.rel_travel.proofs.SearchStarts.{from_one}
use Rattle.rel_traits.specs.FactLists.{IsOfLive}
use Rattle.rel_traits.proofs.SortedFacts.{all_of, all_same}
use Rattle.rel_traits.proofs.AddedSets.{added_live}
use Rattle.rel_traits.proofs.closure.closure_add.Goals as goal

pub returns-clause-added : goal.returns-clause-added
returns-clause-added g c =
    let ids = g.G.Graph.ids c.args.graph.now in
    let same = c.put_in_order.ensures.same in
    let found = from_one (brought ids) c.args.fact _ c.list_added.new.added.items refl c.in_ok-list_added.ensures.least in
    record { ascends = c.put_in_order.ensures.ascend; exact = λ k. (λ h. (found k).0 ((same k).0 h), λ r. (same k).1 ((found k).1 r)) }

pub returns-clause-indexes : goal.returns-clause-indexes
returns-clause-indexes g c = all_same (λ (k : Key). IsIndex k.0) c.list_added.new.added.items c.put_in_order.new.facts.items c.put_in_order.ensures.same c.in_ok-list_added.ensures.indexes

pub returns-clause-live : goal.returns-clause-live
returns-clause-live g c =
    let ids = g.G.Graph.ids c.args.graph.now in
    let entities = g.G.Graph.entities c.args.graph.now in
    let same = c.put_in_order.ensures.same in
    let found = from_one (brought ids) c.args.fact _ c.list_added.new.added.items refl c.in_ok-list_added.ensures.least in
    λ live. all_of (IsOfLive entities) c.put_in_order.new.facts.items
    (λ k h. added_live c.size.ensures.links c.args.fact.0 c.args.fact.1 c.requires.entity c.requires.first live k ((found k).0 ((same k).0 h)))
