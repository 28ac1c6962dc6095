use Rattle.std.proofs.Common.{◌≡◌, ◌<◌, ◌∙◌}
use Rattle.ecs_model.specs.Cleanup.{deletes_users, falling}
use Rattle.rel_travel.specs.Holders.{sources_falling}
use Rattle.rel_travel.proofs.Cleanup.{All-alike, pair_users, pair_users_fall, plain_users_fall, sources_alone, sources_and_users, sources_fall, users}
use Rattle.rel_travel.proofs.Growth.{IsGrownWhere-same, IsGrownWhere-then}
use Rattle.rel_travel.proofs.falls.FallingRule.follow.Goals as goal

pub add_sources-requires : goal.add_sources-requires
add_sources-requires g c =
    let entities = g.G.Graph.entities c.args.self.now.graph.now in
    let ids = g.G.Graph.ids c.args.self.now.graph.now in
    All-alike (λ y. y < c.args.found.now.size) (sources_falling entities ids c.args.index) (falling ids entities c.args.index) (sources_fall c.size.ensures.links c.args.index) c.requires

pub add_holders-requires : goal.add_holders-requires
add_holders-requires g c =
    let entities = g.G.Graph.entities c.args.self.now.graph.now in
    let ids = g.G.Graph.ids c.args.self.now.graph.now in
    let decided : deletes_users ids c.args.index ≡ c.contains.result = rw (c.contains.ensures.value, c.ids.ensures, c.pair.ensures) in
    rw c.add_sources.ensures.size
    (All-alike (λ y. y < c.args.found.now.size) (users c.size.ensures.links c.args.index) (falling ids entities c.args.index) (plain_users_fall c.size.ensures.links c.args.index (decided ∙ c.if-contains.true)) c.requires)

pub add_holders-requires-then-contains : goal.add_holders-requires-then-contains
add_holders-requires-then-contains g c =
    let entities = g.G.Graph.entities c.args.self.now.graph.now in
    let ids = g.G.Graph.ids c.args.self.now.graph.now in
    let decided : deletes_users ids c.args.index ≡ c.contains.result = rw (c.contains.ensures.value, c.ids.ensures, c.pair.ensures) in
    rw (c.add_holders.ensures.size, c.add_sources.ensures.size)
    (All-alike (λ y. y < c.args.found.now.size) (pair_users c.size.ensures.links c.args.index) (falling ids entities c.args.index) (pair_users_fall c.size.ensures.links c.args.index (decided ∙ c.if-contains.true)) c.requires)

pub returns-then-contains-clause-grown : goal.returns-then-contains-clause-grown
returns-then-contains-clause-grown g c =
    let ids = g.G.Graph.ids c.args.self.now.graph.now in
    let decided : deletes_users ids c.args.index ≡ c.contains.result = rw (c.contains.ensures.value, c.ids.ensures, c.pair.ensures) in
    let old = c.args.found.now.items in
    let with_sources = c.add_sources.new.found.items in
    let with_users = c.add_holders.new.found.items in
    let all = c.add_holders-then-contains.new.found.items in
    IsGrownWhere-same old all (sources_and_users c.size.ensures.links c.args.index (decided ∙ c.if-contains.true))
    (IsGrownWhere-then old with_users all (IsGrownWhere-then old with_sources with_users c.add_sources.ensures.grown c.add_holders.ensures.grown) c.add_holders-then-contains.ensures.grown)

pub returns-else-contains-clause-grown : goal.returns-else-contains-clause-grown
returns-else-contains-clause-grown g c =
    let ids = g.G.Graph.ids c.args.self.now.graph.now in
    let decided : deletes_users ids c.args.index ≡ c.contains.result = rw (c.contains.ensures.value, c.ids.ensures, c.pair.ensures) in
    IsGrownWhere-same c.args.found.now.items c.add_sources.new.found.items (sources_alone c.size.ensures.links c.args.index (decided ∙ c.if-contains.false)) c.add_sources.ensures.grown
