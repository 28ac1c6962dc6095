use Rattle.std.proofs.Common.{refl, sym, subst, ◌∙◌, arith}
use Rattle.ecs_model.specs.declared.faults.Refusal.TheVariants.{Dead}
use Rattle.ecs_model.specs.steps.Step.{Remove}
use Rattle.ecs_model.specs.steps.WellFormed.{IsWellFormed}
use Rattle.ecs_world.proofs.AcceptedCommands.{on_ok}
use Rattle.ecs_model.proofs.StepAnswers.{answers_refused}
use Rattle.ecs_world.proofs.CommandCounts.{counted_state, counted_world}
use Rattle.ecs_world.proofs.FirstReasons.{remove_of_dead}
use Rattle.ecs_world.proofs.CommandEffects.{effect-remove}
use Rattle.ecs_world.proofs.RefusalReasons.{entity_dead}
use Rattle.ecs_world.proofs.Standings.{state_is}
use Rattle.ecs_world.proofs.ToldRemovals.{removal_told}
use Rattle.ecs_world.proofs.World.remove_both.Goals as goal

pub returns-then-not-is_alive-clause-answers : goal.returns-then-not-is_alive-clause-answers
returns-then-not-is_alive-clause-answers g c =
    answers_refused c.args.self.now.state (Remove c.args.entity c.args.id) Dead c.args.self.now.state (remove_of_dead c.args.self.now.state c.args.entity c.args.id (entity_dead c.args.self.now.state c.args.entity c.args.id (sym c.is_alive.ensures ∙ c.if-not-is_alive.true))) refl

pub returns-in-Some-clause-answers : goal.returns-in-Some-clause-answers
returns-in-Some-clause-answers g c =
    answers_refused c.args.self.now.state (Remove c.args.entity c.args.id) c.in-Some.refusal c.args.self.now.state (sym c.remove_refusal.ensures ∙ c.in-Some.is) refl

pub overflow_add-self : goal.overflow_add-self
overflow_add-self g c =
    let none = sym c.remove_refusal.ensures ∙ c.in_default.is in
    let sound = subst IsWellFormed (state_is c.self.view_is) c.self.invariant.sound in
    let left = state_is c.self-2.view_is ∙ on_ok c.take.result c.take.ensures.taken (sym c.is_err-2.ensures.value ∙ c.if-is_err-2.false) ∙ sym (effect-remove c.args.self.now.state c.args.entity c.args.id) in
    omega (arith, ((counted_world c.self-2.invariant c.args.self.now.state (Remove c.args.entity c.args.id) left sound tt none).sound).counted)

pub invariant_of-self : goal.invariant_of-self
invariant_of-self g c =
    let none = sym c.remove_refusal.ensures ∙ c.in_default.is in
    let sound = subst IsWellFormed (state_is c.self.view_is) c.self.invariant.sound in
    let left = state_is c.self-2.view_is ∙ on_ok c.take.result c.take.ensures.taken (sym c.is_err-2.ensures.value ∙ c.if-is_err-2.false) ∙ sym (effect-remove c.args.self.now.state c.args.entity c.args.id) in
    counted_world c.self-2.invariant c.args.self.now.state (Remove c.args.entity c.args.id) left sound tt none

pub returns-clause-answers : goal.returns-clause-answers
returns-clause-answers g c =
    let none = sym c.remove_refusal.ensures ∙ c.in_default.is in
    let sound = subst IsWellFormed (state_is c.self.view_is) c.self.invariant.sound in
    let left = state_is c.self-2.view_is ∙ on_ok c.take.result c.take.ensures.taken (sym c.is_err-2.ensures.value ∙ c.if-is_err-2.false) ∙ sym (effect-remove c.args.self.now.state c.args.entity c.args.id) in
    let listed = on_ok c.list_removals.result c.list_removals.ensures (sym c.is_err.ensures.value ∙ c.if-is_err.false) in
    removal_told c.args.self.now.state _ c.of.result c.args.entity c.args.id none (counted_state c.self-2.invariant c.args.self.now.state (Remove c.args.entity c.args.id) left sound tt none)
    (c.of.ensures ∙ c.with_facts-lists.ensures ∙ (λ k. record (c.in-Ok.ensures k) { came = c.new-2.ensures.items k; went = listed k }))

pub returns-then-not-is_alive-clause-goes_on : goal.returns-then-not-is_alive-clause-goes_on
returns-then-not-is_alive-clause-goes_on g c = grind arith

pub returns-then-not-is_alive-clause-stay : goal.returns-then-not-is_alive-clause-stay
returns-then-not-is_alive-clause-stay g c = grind arith

pub remove_refusal-requires : goal.remove_refusal-requires
remove_refusal-requires g c = grind arith

pub returns-in-Some-clause-goes_on : goal.returns-in-Some-clause-goes_on
returns-in-Some-clause-goes_on g c = grind arith

pub returns-in-Some-clause-stay : goal.returns-in-Some-clause-stay
returns-in-Some-clause-stay g c = grind arith

pub list_removals-requires : goal.list_removals-requires
list_removals-requires g c = grind arith

pub returns-then-is_err-clause-answers : goal.returns-then-is_err-clause-answers
returns-then-is_err-clause-answers g c = grind arith

pub returns-then-is_err-clause-goes_on : goal.returns-then-is_err-clause-goes_on
returns-then-is_err-clause-goes_on g c = grind arith

pub returns-then-is_err-clause-stay : goal.returns-then-is_err-clause-stay
returns-then-is_err-clause-stay g c = grind arith

pub returns-in_default-new-clause-answers : goal.returns-in_default-new-clause-answers
returns-in_default-new-clause-answers g c = grind arith

pub returns-in_default-new-clause-goes_on : goal.returns-in_default-new-clause-goes_on
returns-in_default-new-clause-goes_on g c = grind arith

pub returns-in_default-new-clause-stay : goal.returns-in_default-new-clause-stay
returns-in_default-new-clause-stay g c = grind arith

pub take-requires-clause-judged : goal.take-requires-clause-judged
take-requires-clause-judged g c = grind arith

pub take-requires-clause-listed : goal.take-requires-clause-listed
take-requires-clause-listed g c = grind arith

pub returns-then-is_err-2-clause-answers : goal.returns-then-is_err-2-clause-answers
returns-then-is_err-2-clause-answers g c = grind arith

pub returns-then-is_err-2-clause-goes_on : goal.returns-then-is_err-2-clause-goes_on
returns-then-is_err-2-clause-goes_on g c = grind arith

pub returns-then-is_err-2-clause-stay : goal.returns-then-is_err-2-clause-stay
returns-then-is_err-2-clause-stay g c = grind arith

pub returns-clause-goes_on : goal.returns-clause-goes_on
returns-clause-goes_on g c = grind arith

pub returns-clause-stay : goal.returns-clause-stay
returns-clause-stay g c = grind arith
