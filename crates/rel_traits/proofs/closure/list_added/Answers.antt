use Rattle.std.proofs.Common.{◌≡◌, ◌∷◌, [], ◌<◌, Some, None, refl, rules, sym, ap, arith}
use Rattle.std.specs.List.{All, Contains}
use Rattle.ecs_id.specs.Id.{IsIndex, first_of, pair, second_of}
use Rattle.ecs_model.specs.World.{Key}
use Rattle.rel_traits.proofs.AddedSets.{All-weaker, closed_at, closed_both_ways, closed_on_itself, facts_below, facts_of_one, facts_of_two, facts_with, one_lives, symmetric_lives}
use Rattle.rel_traits.proofs.closure.list_added.Goals as goal

pub add-requires : goal.add-requires
add-requires g c =
    let live : Contains (g.G.Graph.entities c.args.graph.now) c.first.result = rw (c.first.ensures.value, c.id-id.ensures) c.requires.first in
    rw c.clear.ensures.size (let l = c.size.ensures.links.below c.first.result live in omega (arith, l, c.requires.covered))

pub gather_with-requires-clause-lives : goal.gather_with-requires-clause-lives
gather_with-requires-clause-lives g c =
    let entities = g.G.Graph.entities c.args.graph.now in
    let items : c.add.new.self.found ≡ c.first.result ∷ [] = rw (c.add.ensures.found, c.clear.ensures.found) in
    let live : Contains entities c.first.result = rw (c.first.ensures.value, c.id-id.ensures) c.requires.first in
    one_lives (Contains entities) c.first.result c.add.new.self.found items live

pub push_all-requires : goal.push_all-requires
push_all-requires g c =
    let entities = g.G.Graph.entities c.args.graph.now in
    rw c.found.ensures.found (All-weaker (Contains entities) IsIndex c.gather_with.new.scratch.found (λ x h. c.size.ensures.links.indexes x h) c.gather_with.ensures.lives)

pub add_symmetric-requires : goal.add_symmetric-requires
add_symmetric-requires g c =
    let ids = g.G.Graph.ids c.args.graph.now in
    let entities = g.G.Graph.entities c.args.graph.now in
    let m = c.args.scratch.now.size in
    let below : All (λ y. y < m) c.gather_with.new.scratch.found =
    All-weaker (Contains entities) (λ y. y < m) c.gather_with.new.scratch.found (λ x h. omega (arith, c.size.ensures.links.below x h, c.requires.covered)) c.gather_with.ensures.lives in
    let mid : c.push_all.new.facts.items ≡ facts_with ids c.args.fact.0 c.args.fact.1 c.gather_with.new.scratch.found = rw (c.in_ok-push_all.ensures, c.found.ensures.found, c.clear-2.ensures.items) in
    rw (c.deref.ensures.value, mid, c.clear-then-target-entity.ensures.size, c.gather_with.ensures.size, c.add.ensures.size, c.clear.ensures.size) (facts_below ids c.args.fact.0 c.args.fact.1 c.gather_with.new.scratch.found m below)

pub gather_with-requires-then-target-entity-clause-lives :
    goal.gather_with-requires-then-target-entity-clause-lives
gather_with-requires-then-target-entity-clause-lives g c =
    let ids = g.G.Graph.ids c.args.graph.now in
    let mid : c.push_all.new.facts.items ≡ facts_with ids c.args.fact.0 c.args.fact.1 c.gather_with.new.scratch.found = rw (c.in_ok-push_all.ensures, c.found.ensures.found, c.clear-2.ensures.items) in
    symmetric_lives (Contains (g.G.Graph.entities c.args.graph.now)) ids c.args.fact.0 c.args.fact.1 c.gather_with.new.scratch.found c.add_symmetric.new.scratch.found
    (rw (c.deref.ensures.value, mid, c.clear-then-target-entity.ensures.found) at c.add_symmetric.ensures.grown) c.gather_with.ensures.lives

pub push_all-requires-then-target-entity : goal.push_all-requires-then-target-entity
push_all-requires-then-target-entity g c =
    let entities = g.G.Graph.entities c.args.graph.now in
    rw c.found-then-target-entity.ensures.found (All-weaker (Contains entities) IsIndex c.gather_with-then-target-entity.new.scratch.found (λ x h. c.size.ensures.links.indexes x h) c.gather_with-then-target-entity.ensures.lives)

pub returns-in_ok-push_all-2-clause-least : goal.returns-in_ok-push_all-2-clause-least
returns-in_ok-push_all-2-clause-least g c =
    let ids = g.G.Graph.ids c.args.graph.now in
    let first = first_of c.args.fact.1 in
    let items : c.add.new.self.found ≡ first ∷ [] = rw (c.add.ensures.found, c.clear.ensures.found, c.first.ensures.value, c.id-id.ensures) in
    let some : second_of c.args.fact.1 ≡ Some c.in-Some.target = rw (← c.id-id.ensures) (sym c.in-Some.ensures.value) in
    let mirrored : c.new.result ≡ (c.in-Some.target, pair first c.args.fact.0) = rw (c.new.ensures, c.pair.ensures, c.first-then-target-entity.ensures.value, c.id-id.ensures, c.entity-entity.ensures) in
    closed_both_ways ids c.args.fact.0 first c.in-Some.target c.args.fact.1 c.add.new.self.found c.gather_with.new.scratch.found c.add_symmetric.new.scratch.found c.gather_with-then-target-entity.new.scratch.found
    c.push_all.new.facts.items c.push_all-then-target-entity.new.facts.items refl some items c.gather_with.ensures.least (rw (c.in_ok-push_all.ensures, c.found.ensures.found, c.clear-2.ensures.items))
    (rw (c.deref.ensures.value, c.clear-then-target-entity.ensures.found) at c.add_symmetric.ensures.grown) c.gather_with-then-target-entity.ensures.least (rw (mirrored, c.found-then-target-entity.ensures.found) at c.in_ok-push_all-2.ensures)

pub returns-else-target-entity-clause-least : goal.returns-else-target-entity-clause-least
returns-else-target-entity-clause-least g c =
    let ids = g.G.Graph.ids c.args.graph.now in
    let items : c.add.new.self.found ≡ first_of c.args.fact.1 ∷ [] = rw (c.add.ensures.found, c.clear.ensures.found, c.first.ensures.value, c.id-id.ensures) in
    let same : c.in-Some.target ≡ c.args.fact.0 = search rules in
    let some : second_of c.args.fact.1 ≡ Some c.args.fact.0 = rw (← c.id-id.ensures, ← same) (sym c.in-Some.ensures.value) in
    closed_on_itself ids c.args.fact.0 (first_of c.args.fact.1) c.args.fact.1 c.add.new.self.found c.gather_with.new.scratch.found c.push_all.new.facts.items refl some items c.gather_with.ensures.least (rw (c.in_ok-push_all.ensures, c.found.ensures.found, c.clear-2.ensures.items))

pub returns-in_default-clause-least : goal.returns-in_default-clause-least
returns-in_default-clause-least g c =
    let ids = g.G.Graph.ids c.args.graph.now in
    let items : c.add.new.self.found ≡ first_of c.args.fact.1 ∷ [] = rw (c.add.ensures.found, c.clear.ensures.found, c.first.ensures.value, c.id-id.ensures) in
    let none : second_of c.args.fact.1 ≡ None = rw (← c.id-id.ensures) (sym c.in_default.ensures.value) in
    closed_at ids c.args.fact.0 (first_of c.args.fact.1) c.args.fact.1 c.add.new.self.found c.gather_with.new.scratch.found c.push_all.new.facts.items refl none items c.gather_with.ensures.least (rw (c.in_ok-push_all.ensures, c.found.ensures.found, c.clear-2.ensures.items))

pub returns-in_ok-push_all-2-clause-indexes : goal.returns-in_ok-push_all-2-clause-indexes
returns-in_ok-push_all-2-clause-indexes g c =
    let ids = g.G.Graph.ids c.args.graph.now in
    let entity : IsIndex c.args.fact.0 = c.size.ensures.links.indexes c.args.fact.0 c.requires.entity in
    let mid : All (λ k. IsIndex k.0) c.push_all.new.facts.items =
    facts_of_one IsIndex ids c.args.fact.0 c.args.fact.1 c.gather_with.new.scratch.found c.push_all.new.facts.items (rw (c.in_ok-push_all.ensures, c.found.ensures.found, c.clear-2.ensures.items)) entity in
    facts_of_two IsIndex ids c.in-Some.target c.new.result.1 c.gather_with-then-target-entity.new.scratch.found c.push_all.new.facts.items c.push_all-then-target-entity.new.facts.items
    (rw (ap (λ (k : Key). k.0) c.new.ensures, c.found-then-target-entity.ensures.found) at c.in_ok-push_all-2.ensures) mid c.in-Some.ensures.index

pub returns-else-target-entity-clause-indexes : goal.returns-else-target-entity-clause-indexes
returns-else-target-entity-clause-indexes g c =
    let entity : IsIndex c.args.fact.0 = c.size.ensures.links.indexes c.args.fact.0 c.requires.entity in
    facts_of_one IsIndex (g.G.Graph.ids c.args.graph.now) c.args.fact.0 c.args.fact.1 c.gather_with.new.scratch.found c.push_all.new.facts.items (rw (c.in_ok-push_all.ensures, c.found.ensures.found, c.clear-2.ensures.items)) entity

pub returns-in_default-clause-indexes : goal.returns-in_default-clause-indexes
returns-in_default-clause-indexes g c =
    let entity : IsIndex c.args.fact.0 = c.size.ensures.links.indexes c.args.fact.0 c.requires.entity in
    facts_of_one IsIndex (g.G.Graph.ids c.args.graph.now) c.args.fact.0 c.args.fact.1 c.gather_with.new.scratch.found c.push_all.new.facts.items (rw (c.in_ok-push_all.ensures, c.found.ensures.found, c.clear-2.ensures.items)) entity

pub pair-requires-clause-target : goal.pair-requires-clause-target
pair-requires-clause-target g c = rw c.entity-entity.ensures (c.size.ensures.links.indexes c.args.fact.0 c.requires.entity)
