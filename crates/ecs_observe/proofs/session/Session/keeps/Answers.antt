use Rattle.std.proofs.Common.{All, subst}
use Rattle.ecs_observe.specs.Lists.{HasItsList}
use Rattle.ecs_observe.specs.Standing.{IsSession, Standing}
use Rattle.ecs_observe.specs.Stored.{entries_of}
use Rattle.ecs_observe.proofs.KeptQueries.{kept_current}
use Rattle.ecs_observe.proofs.KeptLists.{lists_seen}
use Rattle.ecs_observe.proofs.session.Session.keeps.Goals as goal

pub returns-clause-session : goal.returns-clause-session
returns-clause-session g c = subst IsSession c.self.view_is c.self.invariant.0

pub returns-clause-lists : goal.returns-clause-lists
returns-clause-lists g c =
    subst (λ (s : Standing). All (HasItsList (s.world).tables) s.stored) c.self.view_is (lists_seen c.self.inside.world.tables (entries_of c.self.inside.stored) c.self.invariant.1)

pub returns-clause-current : goal.returns-clause-current
returns-clause-current g c = kept_current c.args.self.now (subst IsSession c.self.view_is c.self.invariant.0)
