use Rattle.std.proofs.Common.{ℕ, subst, arith}
use Rattle.std.specs.List.{list_any}
use Rattle.id_pattern.specs.Patterns.{matches}
use Rattle.ecs_model.specs.Links.{ancestor_line}
use Rattle.world_facts.specs.Climbing.{IsHalt}
use Rattle.world_facts.proofs.climb.first_from.Goals as goal

pub first_up-found-requires-clause-inside : goal.first_up-found-requires-clause-inside
first_up-found-requires-clause-inside g c =
    let ids = g.G.Graph.ids c.args.graph.now in
    let hit = λ (t : ℕ). list_any (matches c.args.pattern) (ids t) in
    let line = λ (e : ℕ). ancestor_line ids (g.G.Graph.entities c.args.graph.now) c.args.relationship e in
    let halt = subst (λ h. IsHalt h (g.G.Graph.size c.args.graph.now) hit line c.args.index) c.in-Fork.is c.climb.ensures in
    omega (arith, halt.0, c.requires.covered)
