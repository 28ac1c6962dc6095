use Rattle.ecs_world.proofs.SeenGraph.{alive_shown, linked, mentioned_shown, sees}
use Rattle.ecs_world.proofs.Standings.{state_is}
use Rattle.ecs_world.proofs.World.list_additions.Goals as goal

pub new-links-requires : goal.new-links-requires
new-links-requires g c = record { linked = linked c.self.invariant c.size-size.result c.size-size.ensures }

pub gather-requires-clause-entity : goal.gather-requires-clause-entity
gather-requires-clause-entity g c = rw (c.new-links.ensures, c.new-fact.ensures) (alive_shown c.self.invariant c.args.entity (rw (← state_is c.self.view_is) at c.requires.alive))

pub gather-requires-clause-mentions : goal.gather-requires-clause-mentions
gather-requires-clause-mentions g c = rw (c.new-links.ensures, c.new-fact.ensures) (mentioned_shown c.self.invariant c.args.id (rw (← state_is c.self.view_is) at c.requires.mentions))

pub returns-clause-tells : goal.returns-clause-tells
returns-clause-tells g c =
    let tells = c.in_ok-gather.ensures.tells in
    rw (← state_is c.self.view_is, ← c.new-fact.ensures) (tells _ (rw c.new-links.ensures (sees c.self.invariant)))

pub returns-clause-live : goal.returns-clause-live
returns-clause-live g c =
    let live = c.in_ok-gather.ensures.live in
    rw (← state_is c.self.view_is) (rw c.new-links.ensures at live)

pub returns-clause-copies_live : goal.returns-clause-copies_live
returns-clause-copies_live g c =
    let live = c.in_ok-gather.ensures.copies_live in
    rw (← state_is c.self.view_is) (rw c.new-links.ensures at live)
