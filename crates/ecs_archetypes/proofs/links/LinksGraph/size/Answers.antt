use Rattle.ecs_archetypes.proofs.links.LinksGraph.size.Goals as goal

pub returns-clause-links : goal.returns-clause-links
returns-clause-links g c = rw (← c.self.view_is) c.self.invariant.linked
