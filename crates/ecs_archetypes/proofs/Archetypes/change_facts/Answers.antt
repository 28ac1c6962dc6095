-- The dead are deleted after the facts have changed, which can't fail.
use Rattle.ecs_archetypes.specs.Housing.{holdings_of}
use Rattle.ecs_archetypes.proofs.FactPlanning.{facts_dead, facts_gone}
use Rattle.ecs_archetypes.proofs.StandingTables.{last_then}
use Rattle.ecs_archetypes.proofs.Archetypes.change_facts.Goals as goal

pub delete_each-requires : goal.delete_each-requires
delete_each-requires g c = record { deletable = facts_dead c.args.came.now c.args.went.now (holdings_of c.args.self.now) (holdings_of c.move_facts.new.self) c.args.dead.now c.in_ok-move_facts.ensures.changed c.requires.dead }

pub returns-clause-changed : goal.returns-clause-changed
returns-clause-changed g c = facts_gone c.args.came.now c.args.went.now (holdings_of c.args.self.now) (holdings_of c.move_facts.new.self) c.args.dead.now c.in_ok-move_facts.ensures.changed
    (holdings_of c.delete_each.new.self) c.delete_each.ensures.held

pub returns-clause-kept : goal.returns-clause-kept
returns-clause-kept g c = last_then _ _ _ _ c.move_facts.ensures.kept c.delete_each.ensures.alike c.delete_each.ensures.whole
