use Rattle.std.proofs.Common.{◌∙◌}
use Rattle.ecs_archetypes.specs.Housing.{holdings_of}
use Rattle.ecs_world.proofs.Standings.{state_is}
use Rattle.ecs_world.proofs.WrittenFacts.{alive_settled, held_there, size_there, state_written, world_written}
use Rattle.ecs_world.proofs.World.write.Goals as goal

pub unwrap-found-requires : goal.unwrap-found-requires
unwrap-found-requires g c = c.find.ensures.settled ∙ alive_settled c.self.invariant (state_is c.self.view_is) c.args.entity c.requires.alive

pub set_value-requires-clause-held : goal.set_value-requires-clause-held
set_value-requires-clause-held g c = held_there c.self.invariant (state_is c.self.view_is) c.args.entity c.requires.alive c.args.id c.requires.held c.args.bytes.now

pub set_value-requires-clause-size : goal.set_value-requires-clause-size
set_value-requires-clause-size g c = size_there c.self.invariant (state_is c.self.view_is) c.args.entity c.requires.alive c.args.id c.requires.held c.args.bytes.now c.requires.size

pub invariant_of-self : goal.invariant_of-self
invariant_of-self g c = world_written c.self.invariant (state_is c.self.view_is) c.args.entity c.requires.alive c.args.id c.requires.held c.args.bytes.now
    (holdings_of c.set_value.new.self) c.set_value.ensures.kept.holdings c.set_value.ensures.written c.set_value.ensures.kept.sizes c.requires.sound

pub returns-clause-state : goal.returns-clause-state
returns-clause-state g c = state_written c.self.invariant (state_is c.self.view_is) c.args.entity c.requires.alive c.args.id c.requires.held c.args.bytes.now
    (holdings_of c.set_value.new.self) c.set_value.ensures.kept.holdings c.set_value.ensures.written
