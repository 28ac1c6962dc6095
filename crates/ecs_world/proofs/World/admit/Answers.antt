use Rattle.std.proofs.Common.{is_some, sym, ap, ◌∙◌}
use Rattle.ecs_world.proofs.JudgedCommands.{births}
use Rattle.ecs_world.proofs.World.admit.Goals as goal

pub refusal_of-requires : goal.refusal_of-requires
refusal_of-requires g c = sym c.in-Some.ensures

pub unwrap-entity-requires : goal.unwrap-entity-requires
unwrap-entity-requires g c = ap is_some (c.upcoming.ensures ∙ ((births c.args.self.now.state (sym c.in_default.ensures)).next).1)

pub returns-clause-next : goal.returns-clause-next
returns-clause-next g c = sym c.upcoming.ensures ∙ c.unwrap-entity.ensures

pub returns-clause-room : goal.returns-clause-room
returns-clause-room g c = sym c.in_default.ensures
