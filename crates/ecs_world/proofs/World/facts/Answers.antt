use Rattle.ecs_world.proofs.States.{facts_told}
use Rattle.ecs_world.proofs.Standings.{state_is}
use Rattle.ecs_world.proofs.World.facts.Goals as goal

pub returns-clause-alive : goal.returns-clause-alive
returns-clause-alive g c = rw (← state_is c.self.view_is) (facts_told c.self.invariant c.args.entity _ c.facts.ensures).0

pub returns-clause-facts : goal.returns-clause-facts
returns-clause-facts g c = rw (← state_is c.self.view_is) (facts_told c.self.invariant c.args.entity _ c.facts.ensures).1
