use Rattle.std.proofs.Common.{arith}
use Rattle.std.proofs.Common.{sym, ◌∙◌}
use Rattle.ecs_world.proofs.AcceptedCommands.{on_ok}
use Rattle.ecs_world.proofs.OrderedEntities.{dead_listed}
use Rattle.ecs_world.proofs.SeenGraph.{alive_shown, has_counts, linked, sees}
use Rattle.ecs_world.proofs.Standings.{state_is}
use Rattle.ecs_world.proofs.World.find_deletion.Goals as goal

pub new-links-requires : goal.new-links-requires
new-links-requires g c = record { linked = linked c.self.invariant c.size-size.result c.size-size.ensures }

pub judge_delete-requires-clause-lives : goal.judge_delete-requires-clause-lives
judge_delete-requires-clause-lives g c = rw c.new-links.ensures (alive_shown c.self.invariant c.args.entity (rw (← state_is c.self.view_is) at c.requires.alive))

pub returns-in-Some-clause-refused : goal.returns-in-Some-clause-refused
returns-in-Some-clause-refused g c =
    let lives = alive_shown c.self.invariant c.args.entity (rw (← state_is c.self.view_is) at c.requires.alive) in
    rw (← state_is c.self.view_is) (sym (c.judge_delete.ensures.judged _ c.args.entity.index (rw c.new-links.ensures (sees c.self.invariant)) (rw c.new-links.ensures lives) c.judge_delete.ensures.found (has_counts c.self.invariant c.is_spent-is_spent.result c.is_spent-is_spent.ensures)) ∙ c.in-Some.is)

pub returns-clause-dead : goal.returns-clause-dead
returns-clause-dead g c =
    let lives = alive_shown c.self.invariant c.args.entity (rw (← state_is c.self.view_is) at c.requires.alive) in
    let fall = c.judge_delete.ensures.dead _ c.args.entity.index (rw c.new-links.ensures (sees c.self.invariant)) (rw c.new-links.ensures lives) c.judge_delete.ensures.found in
    let rises = on_ok c.list_entities.result c.list_entities.ensures.ascend (sym c.is_err-3.ensures.value ∙ c.if-is_err-3.false) in
    let same = on_ok c.list_entities.result c.list_entities.ensures.same (sym c.is_err-3.ensures.value ∙ c.if-is_err-3.false) in
    rw (← state_is c.self.view_is) (dead_listed _ c.args.entity.index _ c.found-found.result.now c.list_entities.new.entities.items c.found-found.ensures.found fall rises same)

pub returns-clause-lost : goal.returns-clause-lost
returns-clause-lost g c =
    let lives = alive_shown c.self.invariant c.args.entity (rw (← state_is c.self.view_is) at c.requires.alive) in
    let tells = on_ok c.gather.result c.gather.ensures.lost (sym c.is_err-2.ensures.value ∙ c.if-is_err-2.false) in
    rw (← state_is c.self.view_is) (tells _ c.args.entity.index (rw c.new-links.ensures (sees c.self.invariant)) (rw c.new-links.ensures lives) c.judge_delete.ensures.found)

pub returns-clause-went : goal.returns-clause-went
returns-clause-went g c =
    let lives = alive_shown c.self.invariant c.args.entity (rw (← state_is c.self.view_is) at c.requires.alive) in
    let tells = on_ok c.gather.result c.gather.ensures.went (sym c.is_err-2.ensures.value ∙ c.if-is_err-2.false) in
    rw (← state_is c.self.view_is) (tells _ c.args.entity.index (rw c.new-links.ensures (sees c.self.invariant)) (rw c.new-links.ensures lives) c.judge_delete.ensures.found)

pub returns-clause-judged : goal.returns-clause-judged
returns-clause-judged g c =
    let lives = alive_shown c.self.invariant c.args.entity (rw (← state_is c.self.view_is) at c.requires.alive) in
    rw (← state_is c.self.view_is) (sym (c.judge_delete.ensures.judged _ c.args.entity.index (rw c.new-links.ensures (sees c.self.invariant)) (rw c.new-links.ensures lives) c.judge_delete.ensures.found (has_counts c.self.invariant c.is_spent-is_spent.result c.is_spent-is_spent.ensures)) ∙ c.in_default.is)

pub invariant_of-self : goal.invariant_of-self
invariant_of-self g c = grind arith

pub returns-then-is_err-clause-same : goal.returns-then-is_err-clause-same
returns-then-is_err-clause-same g c = grind arith

pub invariant_of-self-2 : goal.invariant_of-self-2
invariant_of-self-2 g c = grind arith

pub judge_delete-requires-clause-covered : goal.judge_delete-requires-clause-covered
judge_delete-requires-clause-covered g c = grind arith

pub invariant_of-self-in-Some : goal.invariant_of-self-in-Some
invariant_of-self-in-Some g c = grind arith

pub returns-in-Some-clause-same : goal.returns-in-Some-clause-same
returns-in-Some-clause-same g c = grind arith

pub gather-requires : goal.gather-requires
gather-requires g c = grind arith

pub invariant_of-self-then-is_err-2 : goal.invariant_of-self-then-is_err-2
invariant_of-self-then-is_err-2 g c = grind arith

pub returns-then-is_err-2-clause-same : goal.returns-then-is_err-2-clause-same
returns-then-is_err-2-clause-same g c = grind arith

pub invariant_of-self-then-is_err-3 : goal.invariant_of-self-then-is_err-3
invariant_of-self-then-is_err-3 g c = grind arith

pub returns-then-is_err-3-clause-same : goal.returns-then-is_err-3-clause-same
returns-then-is_err-3-clause-same g c = grind arith

pub invariant_of-self-3 : goal.invariant_of-self-3
invariant_of-self-3 g c = grind arith

pub returns-clause-same : goal.returns-clause-same
returns-clause-same g c = grind arith
