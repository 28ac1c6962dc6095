use Rattle.std.proofs.Common.{All, arith, refl, sym, ap, subst, ◌∙◌}
use Rattle.std.proofs.lemmas.Result.{err_from_is_err_and}
use Rattle.ecs_archetypes.specs.Staying.{stay_all}
use Rattle.ecs_model.specs.Refusal.{first_reason}
use Rattle.ecs_model.specs.World.{entities}
use Rattle.ecs_model.specs.steps.FactChanges.{facts_after_add}
use Rattle.ecs_model.specs.steps.Outcomes.{with_facts}
use Rattle.ecs_model.specs.steps.Step.{Add, add_reasons}
use Rattle.rel_traits.specs.FactLists.{IsOfLive}
use Rattle.ecs_world.specs.Changes.{TellsRefusal}
use Rattle.ecs_world.proofs.CommandCounts.{counted_state, counted_world}
use Rattle.ecs_world.proofs.CommandEffects.{effect-add}
use Rattle.ecs_world.proofs.FirstReasons.{add_otherwise, answers_unadded, answers_unbrought}
use Rattle.ecs_world.proofs.ForgottenTables.{added_stay, going_to}
use Rattle.ecs_world.proofs.RefusalReasons.{not_dead}
use Rattle.ecs_world.proofs.Standings.{state_is}
use Rattle.ecs_world.proofs.ToldAdditions.{addition_told}
use Rattle.ecs_world.proofs.World.add_all.Goals as goal

pub returns-in_err-additions-clause-answers : goal.returns-in_err-additions-clause-answers
returns-in_err-additions-clause-answers g c =
    let p = err_from_is_err_and c.from_residual.result c.from_residual.ensures.1 in
    rw (p.1, p.2)
    (answers_unadded c.args.self.now.state c.args.entity c.args.id c.additions_of.new.self.state c.in_err-additions.field-0.0 c.in_err-additions.ensures.refused (state_is c.in_err-additions.ensures.same))

pub bring_judged-requires-clause-live : goal.bring_judged-requires-clause-live
bring_judged-requires-clause-live g c =
    subst (λ u. All (IsOfLive (entities u)) c.in_ok-additions.additions.added.items) (sym (state_is c.in_ok-additions.ensures.same)) c.in_ok-additions.ensures.live

pub bring_judged-requires-clause-copies_live : goal.bring_judged-requires-clause-copies_live
bring_judged-requires-clause-copies_live g c =
    subst (λ u. All (IsOfLive (entities u)) c.in_ok-additions.additions.copies.items) (sym (state_is c.in_ok-additions.ensures.same)) c.in_ok-additions.ensures.copies_live

pub returns-in_err-lists-clause-answers : goal.returns-in_err-lists-clause-answers
returns-in_err-lists-clause-answers g c =
    let live = not_dead c.args.self.now.state c.args.entity c.args.id c.in_ok-additions.ensures.alive c.in_ok-additions.ensures.mentions in
    let seen = state_is c.in_ok-additions.ensures.same in
    let p = err_from_is_err_and c.from_residual-in_err-lists.result c.from_residual-in_err-lists.ensures.1 in
    rw (p.1, p.2)
    (answers_unbrought c.args.self.now.state c.args.entity c.args.id c.bring_judged.new.self.state c.in_err-lists.field-0.0 live c.in_ok-additions.ensures.others
    (subst (λ u. TellsRefusal (first_reason (add_reasons u c.args.entity.index c.args.id)) c.in_err-lists.field-0.0) seen c.in_err-lists.ensures.refused)
    (c.in_err-lists.ensures.unchanged ∙ seen))

pub returns-in_err-lists-clause-stay : goal.returns-in_err-lists-clause-stay
returns-in_err-lists-clause-stay g c = going_to c.in_ok-additions.ensures.same c.bring_judged.new.self refl (stay_all c.in_err-lists.ensures.kept)

pub overflow_add-self : goal.overflow_add-self
overflow_add-self g c =
    let live = not_dead c.args.self.now.state c.args.entity c.args.id c.in_ok-additions.ensures.alive c.in_ok-additions.ensures.mentions in
    let seen = state_is c.in_ok-additions.ensures.same in
    let none = add_otherwise c.args.self.now.state c.args.entity c.args.id live c.in_ok-additions.ensures.others ∙ ap (λ u. first_reason (add_reasons u c.args.entity.index c.args.id)) (sym seen) ∙ c.in_ok-lists.ensures.judged in
    let left =
    state_is c.self.view_is ∙ c.in_ok-lists.ensures.brought ∙ ap (λ u. with_facts u (facts_after_add u c.args.entity.index c.args.id)) seen ∙ sym (effect-add c.args.self.now.state c.args.entity c.args.id) in
    omega (arith, ((counted_world c.self.invariant c.args.self.now.state (Add c.args.entity c.args.id) left c.keeps.ensures tt none).sound).counted)

pub invariant_of-self : goal.invariant_of-self
invariant_of-self g c =
    let live = not_dead c.args.self.now.state c.args.entity c.args.id c.in_ok-additions.ensures.alive c.in_ok-additions.ensures.mentions in
    let seen = state_is c.in_ok-additions.ensures.same in
    let none = add_otherwise c.args.self.now.state c.args.entity c.args.id live c.in_ok-additions.ensures.others ∙ ap (λ u. first_reason (add_reasons u c.args.entity.index c.args.id)) (sym seen) ∙ c.in_ok-lists.ensures.judged in
    let left =
    state_is c.self.view_is ∙ c.in_ok-lists.ensures.brought ∙ ap (λ u. with_facts u (facts_after_add u c.args.entity.index c.args.id)) seen ∙ sym (effect-add c.args.self.now.state c.args.entity c.args.id) in
    counted_world c.self.invariant c.args.self.now.state (Add c.args.entity c.args.id) left c.keeps.ensures tt none

pub returns-clause-answers : goal.returns-clause-answers
returns-clause-answers g c =
    let live = not_dead c.args.self.now.state c.args.entity c.args.id c.in_ok-additions.ensures.alive c.in_ok-additions.ensures.mentions in
    let seen = state_is c.in_ok-additions.ensures.same in
    let none = add_otherwise c.args.self.now.state c.args.entity c.args.id live c.in_ok-additions.ensures.others ∙ ap (λ u. first_reason (add_reasons u c.args.entity.index c.args.id)) (sym seen) ∙ c.in_ok-lists.ensures.judged in
    let left =
    state_is c.self.view_is ∙ c.in_ok-lists.ensures.brought ∙ ap (λ u. with_facts u (facts_after_add u c.args.entity.index c.args.id)) seen ∙ sym (effect-add c.args.self.now.state c.args.entity c.args.id) in
    addition_told c.args.self.now.state _ c.of.result c.args.entity c.args.id c.in_ok-additions.ensures.tells c.keeps.ensures none
    (counted_state c.self.invariant c.args.self.now.state (Add c.args.entity c.args.id) left c.keeps.ensures tt none)
    (c.of.ensures ∙ c.with_facts-lists.ensures ∙ (λ k. record (c.in_ok-lists.ensures.empty k) { came = c.in_ok-additions.additions.came.items; went = c.in_ok-additions.additions.went.items }))

pub returns-clause-stay : goal.returns-clause-stay
returns-clause-stay g c =
    let live = not_dead c.args.self.now.state c.args.entity c.args.id c.in_ok-additions.ensures.alive c.in_ok-additions.ensures.mentions in
    let seen = state_is c.in_ok-additions.ensures.same in
    let none = add_otherwise c.args.self.now.state c.args.entity c.args.id live c.in_ok-additions.ensures.others ∙ ap (λ u. first_reason (add_reasons u c.args.entity.index c.args.id)) (sym seen) ∙ c.in_ok-lists.ensures.judged in
    let left =
    state_is c.self.view_is ∙ c.in_ok-lists.ensures.brought ∙ ap (λ u. with_facts u (facts_after_add u c.args.entity.index c.args.id)) seen ∙ sym (effect-add c.args.self.now.state c.args.entity c.args.id) in
    going_to c.in_ok-additions.ensures.same c.bring_judged.new.self (sym (ap (λ s. s.tables) c.self.view_is))
    (added_stay c.args.self.now.state _ c.args.entity c.args.id c.in_ok-additions.ensures.tells c.keeps.ensures c.additions_of.new.self.state c.additions_of.new.self.tables c.bring_judged.new.self.tables c.in_ok-lists.ensures.stay none
    (counted_state c.self.invariant c.args.self.now.state (Add c.args.entity c.args.id) left c.keeps.ensures tt none))

pub returns-in_err-additions-clause-goes_on : goal.returns-in_err-additions-clause-goes_on
returns-in_err-additions-clause-goes_on g c = grind arith

pub returns-in_err-additions-clause-stay : goal.returns-in_err-additions-clause-stay
returns-in_err-additions-clause-stay g c = grind arith

pub bring_judged-requires-clause-alive : goal.bring_judged-requires-clause-alive
bring_judged-requires-clause-alive g c = grind arith

pub bring_judged-requires-clause-mentions : goal.bring_judged-requires-clause-mentions
bring_judged-requires-clause-mentions g c = grind arith

pub bring_judged-requires-clause-others : goal.bring_judged-requires-clause-others
bring_judged-requires-clause-others g c = grind arith

pub bring_judged-requires-clause-tells : goal.bring_judged-requires-clause-tells
bring_judged-requires-clause-tells g c = grind arith

pub returns-in_err-lists-clause-goes_on : goal.returns-in_err-lists-clause-goes_on
returns-in_err-lists-clause-goes_on g c = grind arith

pub returns-clause-goes_on : goal.returns-clause-goes_on
returns-clause-goes_on g c = grind arith
