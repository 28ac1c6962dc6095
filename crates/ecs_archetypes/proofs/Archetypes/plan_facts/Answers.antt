-- Each entity's move does what its facts ask, and leaves the others.
use Rattle.std.proofs.Common.{arith}
use Rattle.std.proofs.Common.{◌≤◌, ◌==◌, ◌∙◌, length, subst, sym}
use Rattle.ecs_archetypes.specs.Housing.{IsHoused}
use Rattle.ecs_archetypes.proofs.FactPlanning.{facts_planned, facts_planned_more, facts_planned_none, front_agrees, front_among, front_rises, front_small, front_unheld, these_rise}
use Rattle.ecs_archetypes.proofs.EnteredTables.{grown_then}
use Rattle.ecs_archetypes.proofs.FactSections.{prefix_within}
use Rattle.ecs_archetypes.proofs.TableMoves.{alike_then}
use Rattle.ecs_archetypes.proofs.Archetypes.plan_facts.Goals as goal

pub loop-entity-init : goal.loop-entity-init
loop-entity-init g c = facts_planned_none c.args.self.now c.args.came.now c.args.went.now (subst IsHoused c.self.view_is c.self.invariant) c.requires.came_ascend c.requires.went_ascend c.requires.settled c.requires.unheld c.requires.small c.requires.agree
    c.clear.new.self c.clear.ensures

pub split_at-requires : goal.split_at-requires
split_at-requires g c = subst (λ n. n ≤ length c.loop-entity.came.now) (sym c.count_coming.ensures) (prefix_within (λ e. e.0.0 == c.in-Some.entity) c.loop-entity.came.now)

pub split_at-requires-in-Some : goal.split_at-requires-in-Some
split_at-requires-in-Some g c = subst (λ n. n ≤ length c.loop-entity.went.now) (sym c.count_going.ensures) (prefix_within (λ k. k.0 == c.in-Some.entity) c.loop-entity.went.now)

pub plan_entity-requires-clause-came_ascend : goal.plan_entity-requires-clause-came_ascend
plan_entity-requires-clause-came_ascend g c = front_rises c.args.self.now c.loop-entity.self c.args.came.now c.args.went.now c.loop-entity.plan.moves c.loop-entity.came.now c.loop-entity.went.now c.loop-entity.invariant c.in-Some.entity (sym c.first_entity.ensures ∙ c.in-Some.is)
    c.count_coming.result c.count_going.result c.split_at.result.0.now c.split_at.result.1.now c.split_at-in-Some.result.0.now c.split_at-in-Some.result.1.now c.count_coming.ensures c.count_going.ensures
    c.split_at.ensures.front c.split_at.ensures.back c.split_at-in-Some.ensures.front c.split_at-in-Some.ensures.back

pub plan_entity-requires-clause-went_ascend : goal.plan_entity-requires-clause-went_ascend
plan_entity-requires-clause-went_ascend g c = these_rise c.args.self.now c.loop-entity.self c.args.came.now c.args.went.now c.loop-entity.plan.moves c.loop-entity.came.now c.loop-entity.went.now c.loop-entity.invariant c.in-Some.entity (sym c.first_entity.ensures ∙ c.in-Some.is)
    c.count_coming.result c.count_going.result c.split_at.result.0.now c.split_at.result.1.now c.split_at-in-Some.result.0.now c.split_at-in-Some.result.1.now c.count_coming.ensures c.count_going.ensures
    c.split_at.ensures.front c.split_at.ensures.back c.split_at-in-Some.ensures.front c.split_at-in-Some.ensures.back

pub plan_entity-requires-clause-unheld : goal.plan_entity-requires-clause-unheld
plan_entity-requires-clause-unheld g c = front_unheld c.args.self.now c.loop-entity.self c.args.came.now c.args.went.now c.loop-entity.plan.moves c.loop-entity.came.now c.loop-entity.went.now c.loop-entity.invariant c.in-Some.entity (sym c.first_entity.ensures ∙ c.in-Some.is)
    c.count_coming.result c.count_going.result c.split_at.result.0.now c.split_at.result.1.now c.split_at-in-Some.result.0.now c.split_at-in-Some.result.1.now c.count_coming.ensures c.count_going.ensures
    c.split_at.ensures.front c.split_at.ensures.back c.split_at-in-Some.ensures.front c.split_at-in-Some.ensures.back

pub plan_entity-requires-clause-small : goal.plan_entity-requires-clause-small
plan_entity-requires-clause-small g c = front_small c.args.self.now c.loop-entity.self c.args.came.now c.args.went.now c.loop-entity.plan.moves c.loop-entity.came.now c.loop-entity.went.now c.loop-entity.invariant c.in-Some.entity (sym c.first_entity.ensures ∙ c.in-Some.is)
    c.count_coming.result c.count_going.result c.split_at.result.0.now c.split_at.result.1.now c.split_at-in-Some.result.0.now c.split_at-in-Some.result.1.now c.count_coming.ensures c.count_going.ensures
    c.split_at.ensures.front c.split_at.ensures.back c.split_at-in-Some.ensures.front c.split_at-in-Some.ensures.back

pub plan_entity-requires-clause-agree : goal.plan_entity-requires-clause-agree
plan_entity-requires-clause-agree g c = front_agrees c.args.self.now c.loop-entity.self c.args.came.now c.args.went.now c.loop-entity.plan.moves c.loop-entity.came.now c.loop-entity.went.now c.loop-entity.invariant c.in-Some.entity (sym c.first_entity.ensures ∙ c.in-Some.is)
    c.count_coming.result c.count_going.result c.split_at.result.0.now c.split_at.result.1.now c.split_at-in-Some.result.0.now c.split_at-in-Some.result.1.now c.count_coming.ensures c.count_going.ensures
    c.split_at.ensures.front c.split_at.ensures.back c.split_at-in-Some.ensures.front c.split_at-in-Some.ensures.back

pub returns-in_err-plan_entity-clause-kept : goal.returns-in_err-plan_entity-clause-kept
returns-in_err-plan_entity-clause-kept g c = record {
  grown = grown_then c.args.self.now.tables c.loop-entity.self.tables c.plan_entity.new.self.tables c.loop-entity.invariant.grown c.plan_entity.ensures.kept.grown;
  held = alike_then _ _ _ c.plan_entity.ensures.kept.held c.loop-entity.invariant.held;
  sizes = λ test old new. c.plan_entity.ensures.kept.sizes test (c.loop-entity.invariant.sizes test old new) (front_among c.args.self.now c.loop-entity.self c.args.came.now c.args.went.now c.loop-entity.plan.moves c.loop-entity.came.now c.loop-entity.went.now c.loop-entity.invariant c.in-Some.entity (sym c.first_entity.ensures ∙ c.in-Some.is)
      c.count_coming.result c.count_going.result c.split_at.result.0.now c.split_at.result.1.now c.split_at-in-Some.result.0.now c.split_at-in-Some.result.1.now c.count_coming.ensures c.count_going.ensures
      c.split_at.ensures.front c.split_at.ensures.back c.split_at-in-Some.ensures.front c.split_at-in-Some.ensures.back test new);
  whole = c.plan_entity.ensures.kept.whole;
}

pub loop-entity-preserved : goal.loop-entity-preserved
loop-entity-preserved g c = facts_planned_more c.args.self.now c.loop-entity.self c.args.came.now c.args.went.now c.loop-entity.plan.moves c.loop-entity.came.now c.loop-entity.went.now c.loop-entity.invariant c.in-Some.entity (sym c.first_entity.ensures ∙ c.in-Some.is)
    c.count_coming.result c.count_going.result c.split_at.result.0.now c.split_at.result.1.now c.split_at-in-Some.result.0.now c.split_at-in-Some.result.1.now c.count_coming.ensures c.count_going.ensures
    c.split_at.ensures.front c.split_at.ensures.back c.split_at-in-Some.ensures.front c.split_at-in-Some.ensures.back
    c.plan_entity.new.self c.plan_entity.new.plan.moves c.in_ok-plan_entity.ensures.planned c.in_ok-plan_entity.ensures.ready c.plan_entity.ensures.kept.held c.plan_entity.ensures.kept.grown c.plan_entity.ensures.kept.sizes c.plan_entity.ensures.kept.whole

pub returns-clause-planned : goal.returns-clause-planned
returns-clause-planned g c = facts_planned c.args.self.now c.loop-entity.self c.args.came.now c.args.went.now c.loop-entity.plan.moves c.loop-entity.came.now c.loop-entity.went.now c.loop-entity.invariant (sym c.first_entity.ensures ∙ c.in_default.is)

pub returns-clause-kept : goal.returns-clause-kept
returns-clause-kept g c = record { grown = c.loop-entity.invariant.grown; held = c.loop-entity.invariant.held; sizes = c.loop-entity.invariant.sizes; whole = c.loop-entity.invariant.whole }

pub plan_entity-requires-clause-ready : goal.plan_entity-requires-clause-ready
plan_entity-requires-clause-ready g c = grind arith

pub plan_entity-requires-clause-settled : goal.plan_entity-requires-clause-settled
plan_entity-requires-clause-settled g c = grind arith

pub returns-in_err-plan_entity-clause-planned : goal.returns-in_err-plan_entity-clause-planned
returns-in_err-plan_entity-clause-planned g c = grind arith

pub returns-in_err-plan_entity-clause-ready : goal.returns-in_err-plan_entity-clause-ready
returns-in_err-plan_entity-clause-ready g c = grind arith

pub loop-entity-smaller : goal.loop-entity-smaller
loop-entity-smaller g c = grind arith

pub returns-clause-ready : goal.returns-clause-ready
returns-clause-ready g c = grind arith
