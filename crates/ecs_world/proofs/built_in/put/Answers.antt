use Rattle.std.proofs.Common.{◌+◌, refl, arith}
use Rattle.ecs_archetypes.specs.Housing.{holdings_of}
use Rattle.ecs_world.proofs.AcceptedCommands.{on_ok_all}
use Rattle.ecs_world.proofs.FirstBuiltIns.{first_alive, first_unsettled, settled_more, tags_agree, tags_small}
use Rattle.ecs_world.proofs.built_in.put.Goals as goal

pub settle-requires-clause-alive : goal.settle-requires-clause-alive
settle-requires-clause-alive g c = first_alive (holdings_of c.args.archetypes.now) c.args.settled (c.args.settled + 1) refl (omega (arith, c.requires.few)) c.requires.before

pub settle-requires-clause-unsettled : goal.settle-requires-clause-unsettled
settle-requires-clause-unsettled g c = first_unsettled (holdings_of c.args.archetypes.now) c.args.settled (c.args.settled + 1) refl (omega (arith, c.requires.few)) c.requires.before

pub settle-requires-clause-small : goal.settle-requires-clause-small
settle-requires-clause-small g c = tags_small (holdings_of c.args.archetypes.now) c.args.settled (c.args.settled + 1) refl (omega (arith, c.requires.few)) c.requires.before c.args.ids.now c.requires.first

pub settle-requires-clause-agree : goal.settle-requires-clause-agree
settle-requires-clause-agree g c = tags_agree (holdings_of c.args.archetypes.now) c.args.settled (c.args.settled + 1) refl (omega (arith, c.requires.few)) c.requires.before c.args.ids.now c.requires.first

pub returns : goal.returns
returns g c = on_ok_all c.settle.result c.settle.ensures.settled
    (λ alike. settled_more (holdings_of c.args.archetypes.now) c.args.settled (c.args.settled + 1) refl (omega (arith, c.requires.few)) c.requires.before (holdings_of c.settle.new.self) c.args.ids.now c.requires.tags c.requires.first c.settle.ensures.kept.holdings alike c.settle.ensures.kept.sizes)
