-- What the index and the store have is what holdings have.
use Rattle.std.proofs.Common.{subst}
use Rattle.ecs_archetypes.specs.Holdings.{AreHoldings}
use Rattle.ecs_archetypes.specs.Housing.{holdings_of}
use Rattle.ecs_archetypes.proofs.Soundness.{holdings}
use Rattle.ecs_archetypes.proofs.Archetypes.is_alive.Goals as goal

pub returns-clause-holdings : goal.returns-clause-holdings
returns-clause-holdings g c = subst (λ h. AreHoldings (holdings_of h)) c.self.view_is (holdings c.self.inside.entities c.self.inside.tables c.self.invariant)
