-- The plan takes all memory that is needed, and then nothing can fail.
use Rattle.std.proofs.Common.{◌∙◌, length, subst, sym}
use Rattle.std.proofs.lemmas.Bool.Decides.{Decides-eqb}
use Rattle.ecs_archetypes.specs.Housing.{IsHoused, holdings_of}
use Rattle.ecs_archetypes.proofs.FactPlanning.{facts_changed, facts_same}
use Rattle.ecs_archetypes.proofs.StandingTables.{last_grown, last_moved, last_same}
use Rattle.ecs_archetypes.proofs.Archetypes.move_facts.Goals as goal

pub returns-then-is_empty-2-clause-changed : goal.returns-then-is_empty-2-clause-changed
returns-then-is_empty-2-clause-changed g c = facts_same c.args.came.now c.args.went.now (holdings_of c.args.self.now) ((Decides-eqb (length c.args.came.now) 0).0 (sym c.is_empty.ensures ∙ c.if-is_empty.true)) ((Decides-eqb (length c.args.went.now) 0).0 (sym c.is_empty-then-is_empty.ensures ∙ c.if-is_empty-2.true))

pub returns-then-is_empty-2-clause-kept : goal.returns-then-is_empty-2-clause-kept
returns-then-is_empty-2-clause-kept g c = last_same _ c.args.self.now (subst IsHoused c.self.view_is c.self.invariant)

pub returns-in_err-plan_facts-clause-kept : goal.returns-in_err-plan_facts-clause-kept
returns-in_err-plan_facts-clause-kept g c = last_grown _ _ _ c.plan_facts.ensures.kept

pub returns-clause-changed : goal.returns-clause-changed
returns-clause-changed g c = facts_changed c.args.came.now c.args.went.now c.args.self.now c.plan_facts.new.self c.carry_out.new.self c.plan_facts.new.plan.moves c.in_ok-plan_facts.ensures.planned c.plan_facts.ensures.kept.held c.carry_out.ensures.held

pub returns-clause-kept : goal.returns-clause-kept
returns-clause-kept g c = last_moved _ _ _ _ c.plan_facts.ensures.kept c.carry_out.ensures.alike c.carry_out.ensures.whole
