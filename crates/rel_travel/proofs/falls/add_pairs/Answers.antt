use Rattle.std.proofs.Common.{◌<◌, ◌∙◌, arith, get_or, refl, take_all}
use Rattle.std.specs.List.{flat_map}
use Rattle.ecs_id.specs.declared.EntityId.{EntityId}
use Rattle.rel_travel.specs.Holders.{holders_of_pair}
use Rattle.rel_travel.specs.Growing.{IsGrownBy}
use Rattle.rel_travel.proofs.Cleanup.{All-piece}
use Rattle.rel_travel.proofs.Rows.{table_added}
use Rattle.rel_travel.proofs.falls.add_pairs.Goals as goal

pub add_holders-requires : goal.add_holders-requires
add_holders-requires g c =
    let none : EntityId = record { index = 0; generation = 0 } in
    let pairs = λ (e : EntityId). holders_of_pair (g.G.Graph.entities c.args.graph.now) (g.G.Graph.ids c.args.graph.now) c.args.target e.index in
    rw c.loop-relationship.invariant.size (All-piece (λ y. y < c.args.found.now.size) pairs c.args.relationships.now c.loop-relationship.relationship-index none (omega arith) c.requires)

pub loop-relationship-preserved : goal.loop-relationship-preserved
loop-relationship-preserved g c =
    let none : EntityId = record { index = 0; generation = 0 } in
    let pairs = λ (e : EntityId). holders_of_pair (g.G.Graph.entities c.args.graph.now) (g.G.Graph.ids c.args.graph.now) c.args.target e.index in
    let es = c.args.relationships.now in
    record {
      size = c.add_holders.ensures.size ∙ c.loop-relationship.invariant.size;
      grown =
          table_added pairs es c.loop-relationship.relationship-index none (pairs (get_or es c.loop-relationship.relationship-index none)) c.args.found.now.items c.loop-relationship.found.items c.add_holders.new.found.items
          (omega arith) refl c.loop-relationship.invariant.grown c.add_holders.ensures.grown;
    }

pub returns-clause-grown : goal.returns-clause-grown
returns-clause-grown g c =
    let pairs = λ (e : EntityId). holders_of_pair (g.G.Graph.entities c.args.graph.now) (g.G.Graph.ids c.args.graph.now) c.args.target e.index in
    let all : IsGrownBy (flat_map pairs c.args.relationships.now) c.args.found.now.items c.loop-relationship.found.items =
    rw (← take_all c.loop-relationship.relationship-index c.args.relationships.now (omega arith)) c.loop-relationship.invariant.grown in
    all
