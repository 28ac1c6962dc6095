use Rattle.std.proofs.Common.{subst, sym}
use Rattle.ecs_archetypes.specs.Linked.{indexes}
use Rattle.ecs_model.specs.World.{ids_of}
use Rattle.rel_travel.specs.Ways.{AreWays}
use Rattle.world_facts.specs.Shown.{Shown, reading_of}
use Rattle.world_facts.proofs.WorldReads.{ids_same}
use Rattle.world_facts.proofs.WorldFactsFacts.known_reaches.Goals as goal

pub known_reaches-requires-clause-ways : goal.known_reaches-requires-clause-ways
known_reaches-requires-clause-ways g c =
    let links = c.self.inside.links in
    let state = (c.self.inside.world.now).state in
    let known = c.args.ways.now in
    let r = c.args.relationship in
    let seen = subst (λ (s : Shown). AreWays (reading_of s).view.entities (reading_of s).view.ids r known) (sym c.self.view_is) c.requires.ways in
    subst (λ ids. AreWays (indexes links) ids r known) (ids_same c.self.invariant.0.sees) (subst (λ live. AreWays live (ids_of state) r known) c.self.invariant.0.sees.live_are seen)
