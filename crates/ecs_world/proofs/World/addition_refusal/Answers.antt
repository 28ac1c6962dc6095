use Rattle.ecs_world.proofs.SeenGraph.{alive_shown, has_counts, linked, mentioned_shown, sees}
use Rattle.ecs_world.proofs.Standings.{state_is}
use Rattle.ecs_world.proofs.World.addition_refusal.Goals as goal

pub new-links-requires : goal.new-links-requires
new-links-requires g c = record { linked = linked c.self.invariant c.size-size.result c.size-size.ensures }

pub judge_add-requires-clause-entity : goal.judge_add-requires-clause-entity
judge_add-requires-clause-entity g c = rw (c.new-links.ensures, c.new-fact.ensures) (alive_shown c.self.invariant c.args.entity (rw (← state_is c.self.view_is) at c.requires.alive))

pub judge_add-requires-clause-mentions : goal.judge_add-requires-clause-mentions
judge_add-requires-clause-mentions g c = rw (c.new-links.ensures, c.new-fact.ensures) (mentioned_shown c.self.invariant c.args.id (rw (← state_is c.self.view_is) at c.requires.mentions))

pub judge_add-requires-clause-live : goal.judge_add-requires-clause-live
judge_add-requires-clause-live g c = rw c.new-links.ensures (rw (← state_is c.self.view_is) at c.requires.live)

pub judge_add-requires-clause-copies_live : goal.judge_add-requires-clause-copies_live
judge_add-requires-clause-copies_live g c = rw c.new-links.ensures (rw (← state_is c.self.view_is) at c.requires.copies_live)

pub returns-clause-judged : goal.returns-clause-judged
returns-clause-judged g c =
    rw (← state_is c.self.view_is)
    (rw c.new-fact.ensures at c.judge_add.ensures.judged _ (rw c.new-links.ensures (sees c.self.invariant)) (has_counts c.self.invariant c.is_spent-is_spent.result c.is_spent-is_spent.ensures) (rw (← state_is c.self.view_is) at c.requires.tells) (rw (← state_is c.self.view_is) at c.requires.others))
