use Rattle.std.proofs.Common.{◌≡◌, ◌≤◌, true, sym, subst, ◌∙◌, arith}
use Rattle.ecs_archetypes.specs.Linked.{rows_under, tables_under}
use Rattle.ecs_model.specs.World.{entities}
use Rattle.query_meaning.specs.Variables.{contains}
use Rattle.world_facts.specs.Shown.{Shown}
use Rattle.world_facts.proofs.WorldReads.{above_all, live_below, lives_same}
use Rattle.world_facts.proofs.WorldFactsFacts.above.Goals as goal

pub above-requires-clause-inside : goal.above-requires-clause-inside
above-requires-clause-inside g c =
    let links = c.self.inside.links in
    let shown : contains (entities (c.self.inside.world.now).state) c.args.source ≡ true =
    subst (λ (s : Shown). contains (entities (s.world).state) c.args.source ≡ true) (sym c.self.view_is) (sym c.is_live.ensures ∙ c.if-is_live.true) in
    let below = live_below c.size.ensures.links c.args.source (sym (lives_same c.self.invariant.0.sees c.args.source) ∙ shown) in
    let covered : links.size ≤ c.args.scratch.now.size = subst (λ (s : Shown). (s.links).size ≤ c.args.scratch.now.size) (sym c.self.view_is) c.requires in
    omega arith

pub returns-then-is_live-clause-found : goal.returns-then-is_live-clause-found
returns-then-is_live-clause-found g c =
    let links = c.self.inside.links in
    let shown : contains (entities (c.self.inside.world.now).state) c.args.source ≡ true =
    subst (λ (s : Shown). contains (entities (s.world).state) c.args.source ≡ true) (sym c.self.view_is) (sym c.is_live.ensures ∙ c.if-is_live.true) in
    rw (← c.self.view_is) (c.above.ensures.coming (rows_under links) (tables_under links) ∙ above_all links c.args.relationship c.args.source (sym (lives_same c.self.invariant.0.sees c.args.source) ∙ shown))
