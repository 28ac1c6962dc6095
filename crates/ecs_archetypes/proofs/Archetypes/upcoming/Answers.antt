-- The index answers, which gives out the same indexes.
use Rattle.std.proofs.Common.{◌∙◌, ap}
use Rattle.ecs_archetypes.specs.Holdings.{upcoming}
use Rattle.ecs_archetypes.proofs.FirstHoldings.{same_next}
use Rattle.ecs_archetypes.specs.Housing.{holdings_of}
use Rattle.ecs_archetypes.proofs.Archetypes.upcoming.Goals as goal

pub returns : goal.returns
returns g c = c.upcoming.ensures.next ∙ same_next c.self.inside.entities c.self.inside.tables c.self.invariant.last ∙ ap upcoming (ap holdings_of c.self.view_is)
