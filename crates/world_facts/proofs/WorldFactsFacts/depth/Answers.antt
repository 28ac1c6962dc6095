use Rattle.std.proofs.Common.{subst, sym}
use Rattle.ecs_archetypes.specs.Linked.{indexes}
use Rattle.ecs_model.specs.Links.{IsAcyclic, depth}
use Rattle.ecs_model.specs.World.{ids_of}
use Rattle.rel_travel.specs.Words.{AreNumbers}
use Rattle.world_facts.specs.Shown.{Shown, reading_of}
use Rattle.world_facts.proofs.WorldReads.{ids_same}
use Rattle.world_facts.proofs.WorldFactsFacts.depth.Goals as goal

pub known_depth-requires-clause-acyclic : goal.known_depth-requires-clause-acyclic
known_depth-requires-clause-acyclic g c =
    subst (λ ids. IsAcyclic ids c.args.relationship) (ids_same c.self.invariant.0.sees)
    (subst (λ (s : Shown). IsAcyclic (ids_of (s.world).state) c.args.relationship) (sym c.self.view_is) c.requires.acyclic)

pub known_depth-requires-clause-known : goal.known_depth-requires-clause-known
known_depth-requires-clause-known g c =
    let links = c.self.inside.links in
    let state = (c.self.inside.world.now).state in
    let words = c.args.known.now in
    let r = c.args.relationship in
    let seen = subst (λ (s : Shown). AreNumbers (depth (reading_of s).view.ids (reading_of s).view.entities r) words) (sym c.self.view_is) c.requires.known in
    subst (λ ids. AreNumbers (depth ids (indexes links) r) words) (ids_same c.self.invariant.0.sees)
    (subst (λ live. AreNumbers (depth (ids_of state) live r) words) c.self.invariant.0.sees.live_are seen)
