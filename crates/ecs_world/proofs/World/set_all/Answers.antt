use Rattle.std.proofs.Common.{All, [], ◌∷◌, take, refl, sym, ap, subst, ◌∙◌, arith}
use Rattle.std.proofs.lemmas.Grind.{common_steps}
use Rattle.std.proofs.lemmas.List.{length-take-le}
use Rattle.std.proofs.lemmas.Result.{err_from_is_err_and}
use Rattle.ecs_archetypes.specs.Staying.{stay_all, stay_then}
use Rattle.ecs_model.proofs.StepAnswers.{answers_refused}
use Rattle.ecs_model.specs.Refusal.{first_reason}
use Rattle.ecs_model.specs.World.{entities, holds, type_of_id}
use Rattle.ecs_model.specs.steps.FactChanges.{facts_after_add}
use Rattle.ecs_model.specs.steps.Outcomes.{value_reasons, with_facts}
use Rattle.ecs_model.specs.steps.Step.{SetValue, add_reasons}
use Rattle.rel_traits.specs.FactLists.{IsOfLive}
use Rattle.table_store.specs.Going.{TablesGoOn, goes_on_then}
use Rattle.ecs_world.specs.Changes.{TellsRefusal}
use Rattle.ecs_world.specs.State.{byte_count, value_in}
use Rattle.ecs_world.proofs.CommandCounts.{counted_state, counted_world}
use Rattle.ecs_world.proofs.FirstReasons.{answers_unbrought_value, answers_unset, set_no_value, set_value}
use Rattle.ecs_world.proofs.ForgottenTables.{going_to, set_stay}
use Rattle.ecs_world.proofs.RefusalReasons.{not_dead}
use Rattle.ecs_world.proofs.Standings.{going_on, state_is}
use Rattle.ecs_world.proofs.ToldAdditions.{set_held, set_sound, set_state, set_typed, setting_told}
use Rattle.ecs_world.proofs.World.set_all.Goals as goal

pub returns-in_err-additions-clause-answers : goal.returns-in_err-additions-clause-answers
returns-in_err-additions-clause-answers g c =
    let p = err_from_is_err_and c.from_residual.result c.from_residual.ensures.1 in
    rw (p.1, p.2)
    (answers_unset c.args.self.now.state c.args.entity c.args.id c.args.values.now c.additions_of.new.self.state c.in_err-additions.field-0.0 c.in_err-additions.ensures.refused (state_is c.in_err-additions.ensures.same))

pub returns-in-Err-clause-answers : goal.returns-in-Err-clause-answers
returns-in-Err-clause-answers g c =
    let live = not_dead c.args.self.now.state c.args.entity c.args.id c.in_ok-additions.ensures.alive c.in_ok-additions.ensures.mentions in
    let seen = state_is c.in_ok-additions.ensures.same in
    answers_refused c.args.self.now.state (SetValue c.args.entity c.args.id c.args.values.now) c.in-Err.refusal c.additions_of.new.self.state
    (set_no_value c.args.self.now.state c.args.entity c.args.id c.args.values.now live c.in_ok-additions.ensures.others c.in-Err.refusal (ap (λ u. first_reason (value_reasons (type_of_id u c.args.id) c.args.values.now)) (sym seen) ∙ c.in-Err.ensures.refused)) seen

pub bring_judged-requires-clause-live : goal.bring_judged-requires-clause-live
bring_judged-requires-clause-live g c =
    subst (λ u. All (IsOfLive (entities u)) c.in_ok-additions.additions.added.items) (sym (state_is c.in_ok-additions.ensures.same)) c.in_ok-additions.ensures.live

pub bring_judged-requires-clause-copies_live : goal.bring_judged-requires-clause-copies_live
bring_judged-requires-clause-copies_live g c =
    subst (λ u. All (IsOfLive (entities u)) c.in_ok-additions.additions.copies.items) (sym (state_is c.in_ok-additions.ensures.same)) c.in_ok-additions.ensures.copies_live

pub returns-in_err-lists-clause-answers : goal.returns-in_err-lists-clause-answers
returns-in_err-lists-clause-answers g c =
    let live = not_dead c.args.self.now.state c.args.entity c.args.id c.in_ok-additions.ensures.alive c.in_ok-additions.ensures.mentions in
    let seen = state_is c.in_ok-additions.ensures.same in
    let p = err_from_is_err_and c.from_residual-in_err-lists.result c.from_residual-in_err-lists.ensures.1 in
    rw (p.1, p.2)
    (answers_unbrought_value c.args.self.now.state c.args.entity c.args.id c.args.values.now c.bring_judged.new.self.state c.in_err-lists.field-0.0 live c.in_ok-additions.ensures.others (ap (λ u. first_reason (value_reasons (type_of_id u c.args.id) c.args.values.now)) (sym seen) ∙ c.in-Ok.ensures.judged)
    (subst (λ u. TellsRefusal (first_reason (add_reasons u c.args.entity.index c.args.id)) c.in_err-lists.field-0.0) seen c.in_err-lists.ensures.refused)
    (c.in_err-lists.ensures.unchanged ∙ seen))

pub returns-in_err-lists-clause-stay : goal.returns-in_err-lists-clause-stay
returns-in_err-lists-clause-stay g c = going_to c.in_ok-additions.ensures.same c.bring_judged.new.self refl (stay_all c.in_err-lists.ensures.kept)

pub write-requires-clause-held : goal.write-requires-clause-held
write-requires-clause-held g c =
    let live = not_dead c.args.self.now.state c.args.entity c.args.id c.in_ok-additions.ensures.alive c.in_ok-additions.ensures.mentions in
    let seen = state_is c.in_ok-additions.ensures.same in
    let none = set_value c.args.self.now.state c.args.entity c.args.id c.args.values.now live c.in_ok-additions.ensures.others (ap (λ u. first_reason (value_reasons (type_of_id u c.args.id) c.args.values.now)) (sym seen) ∙ c.in-Ok.ensures.judged) ∙ ap (λ u. first_reason (add_reasons u c.args.entity.index c.args.id)) (sym seen) ∙ c.in_ok-lists.ensures.judged in
    let brought = c.in_ok-lists.ensures.brought ∙ ap (λ u. with_facts u (facts_after_add u c.args.entity.index c.args.id)) seen in
    ap (λ u. holds u c.args.entity.index c.args.id) brought ∙ set_held c.args.self.now.state c.args.entity c.args.id c.args.values.now c.keeps.ensures none

pub write-requires-clause-size : goal.write-requires-clause-size
write-requires-clause-size g c =
    let live = not_dead c.args.self.now.state c.args.entity c.args.id c.in_ok-additions.ensures.alive c.in_ok-additions.ensures.mentions in
    let seen = state_is c.in_ok-additions.ensures.same in
    let none = set_value c.args.self.now.state c.args.entity c.args.id c.args.values.now live c.in_ok-additions.ensures.others (ap (λ u. first_reason (value_reasons (type_of_id u c.args.id) c.args.values.now)) (sym seen) ∙ c.in-Ok.ensures.judged) ∙ ap (λ u. first_reason (add_reasons u c.args.entity.index c.args.id)) (sym seen) ∙ c.in_ok-lists.ensures.judged in
    let brought = c.in_ok-lists.ensures.brought ∙ ap (λ u. with_facts u (facts_after_add u c.args.entity.index c.args.id)) seen in
    length-take-le c.in-Ok.size c.encode.new.buffer (omega (arith, c.in-Ok.ensures.encoded.few, c.encode.array_long)) ∙ c.in-Ok.ensures.encoded.sized
    ∙ ap byte_count (ap (λ u. type_of_id u c.args.id) seen ∙ sym (set_typed c.args.self.now.state c.args.entity c.args.id c.args.values.now c.keeps.ensures none) ∙ ap (λ u. type_of_id u c.args.id) (sym brought))

pub write-requires-clause-sound : goal.write-requires-clause-sound
write-requires-clause-sound g c =
    let live = not_dead c.args.self.now.state c.args.entity c.args.id c.in_ok-additions.ensures.alive c.in_ok-additions.ensures.mentions in
    let seen = state_is c.in_ok-additions.ensures.same in
    let none = set_value c.args.self.now.state c.args.entity c.args.id c.args.values.now live c.in_ok-additions.ensures.others (ap (λ u. first_reason (value_reasons (type_of_id u c.args.id) c.args.values.now)) (sym seen) ∙ c.in-Ok.ensures.judged) ∙ ap (λ u. first_reason (add_reasons u c.args.entity.index c.args.id)) (sym seen) ∙ c.in_ok-lists.ensures.judged in
    let brought = c.in_ok-lists.ensures.brought ∙ ap (λ u. with_facts u (facts_after_add u c.args.entity.index c.args.id)) seen in
    let value = ap (λ u. value_in (type_of_id u c.args.id) (take c.in-Ok.size c.encode.new.buffer)) (sym seen) ∙ c.in-Ok.ensures.encoded.value in
    set_sound c.args.self.now.state c.args.entity c.args.id c.args.values.now c.keeps.ensures none c.bring_judged.new.self.state brought (take c.in-Ok.size c.encode.new.buffer) value

pub overflow_add-self : goal.overflow_add-self
overflow_add-self g c =
    let live = not_dead c.args.self.now.state c.args.entity c.args.id c.in_ok-additions.ensures.alive c.in_ok-additions.ensures.mentions in
    let seen = state_is c.in_ok-additions.ensures.same in
    let none = set_value c.args.self.now.state c.args.entity c.args.id c.args.values.now live c.in_ok-additions.ensures.others (ap (λ u. first_reason (value_reasons (type_of_id u c.args.id) c.args.values.now)) (sym seen) ∙ c.in-Ok.ensures.judged) ∙ ap (λ u. first_reason (add_reasons u c.args.entity.index c.args.id)) (sym seen) ∙ c.in_ok-lists.ensures.judged in
    let brought = c.in_ok-lists.ensures.brought ∙ ap (λ u. with_facts u (facts_after_add u c.args.entity.index c.args.id)) seen in
    let value = ap (λ u. value_in (type_of_id u c.args.id) (take c.in-Ok.size c.encode.new.buffer)) (sym seen) ∙ c.in-Ok.ensures.encoded.value in
    let left = state_is c.self.view_is ∙ c.write.ensures.state ∙ set_state c.args.self.now.state c.args.entity c.args.id c.args.values.now c.keeps.ensures none c.bring_judged.new.self.state brought (take c.in-Ok.size c.encode.new.buffer) value in
    omega (arith, ((counted_world c.self.invariant c.args.self.now.state (SetValue c.args.entity c.args.id c.args.values.now) left c.keeps.ensures tt none).sound).counted)

pub invariant_of-self : goal.invariant_of-self
invariant_of-self g c =
    let live = not_dead c.args.self.now.state c.args.entity c.args.id c.in_ok-additions.ensures.alive c.in_ok-additions.ensures.mentions in
    let seen = state_is c.in_ok-additions.ensures.same in
    let none = set_value c.args.self.now.state c.args.entity c.args.id c.args.values.now live c.in_ok-additions.ensures.others (ap (λ u. first_reason (value_reasons (type_of_id u c.args.id) c.args.values.now)) (sym seen) ∙ c.in-Ok.ensures.judged) ∙ ap (λ u. first_reason (add_reasons u c.args.entity.index c.args.id)) (sym seen) ∙ c.in_ok-lists.ensures.judged in
    let brought = c.in_ok-lists.ensures.brought ∙ ap (λ u. with_facts u (facts_after_add u c.args.entity.index c.args.id)) seen in
    let value = ap (λ u. value_in (type_of_id u c.args.id) (take c.in-Ok.size c.encode.new.buffer)) (sym seen) ∙ c.in-Ok.ensures.encoded.value in
    let left = state_is c.self.view_is ∙ c.write.ensures.state ∙ set_state c.args.self.now.state c.args.entity c.args.id c.args.values.now c.keeps.ensures none c.bring_judged.new.self.state brought (take c.in-Ok.size c.encode.new.buffer) value in
    counted_world c.self.invariant c.args.self.now.state (SetValue c.args.entity c.args.id c.args.values.now) left c.keeps.ensures tt none

pub returns-clause-answers : goal.returns-clause-answers
returns-clause-answers g c =
    let live = not_dead c.args.self.now.state c.args.entity c.args.id c.in_ok-additions.ensures.alive c.in_ok-additions.ensures.mentions in
    let seen = state_is c.in_ok-additions.ensures.same in
    let none = set_value c.args.self.now.state c.args.entity c.args.id c.args.values.now live c.in_ok-additions.ensures.others (ap (λ u. first_reason (value_reasons (type_of_id u c.args.id) c.args.values.now)) (sym seen) ∙ c.in-Ok.ensures.judged) ∙ ap (λ u. first_reason (add_reasons u c.args.entity.index c.args.id)) (sym seen) ∙ c.in_ok-lists.ensures.judged in
    let brought = c.in_ok-lists.ensures.brought ∙ ap (λ u. with_facts u (facts_after_add u c.args.entity.index c.args.id)) seen in
    let value = ap (λ u. value_in (type_of_id u c.args.id) (take c.in-Ok.size c.encode.new.buffer)) (sym seen) ∙ c.in-Ok.ensures.encoded.value in
    let left = state_is c.self.view_is ∙ c.write.ensures.state ∙ set_state c.args.self.now.state c.args.entity c.args.id c.args.values.now c.keeps.ensures none c.bring_judged.new.self.state brought (take c.in-Ok.size c.encode.new.buffer) value in
    setting_told c.args.self.now.state _ c.of.result c.args.entity c.args.id c.in_ok-additions.ensures.tells c.keeps.ensures c.args.values.now none
    (counted_state c.self.invariant c.args.self.now.state (SetValue c.args.entity c.args.id c.args.values.now) left c.keeps.ensures tt none)
    (c.of.ensures ∙ c.with_written.ensures
    ∙ (λ k. record (c.with_facts-lists.ensures k) { written = c.new-key.ensures k ∷ [] })
    ∙ (λ k. record (c.in_ok-lists.ensures.empty k) { came = c.in_ok-additions.additions.came.items; went = c.in_ok-additions.additions.went.items; written = (c.args.entity.index, c.args.id) ∷ [] }))

pub returns-clause-goes_on : goal.returns-clause-goes_on
returns-clause-goes_on g c =
    going_on c.in_ok-additions.ensures.same
    (goes_on_then _ _ _ c.in_ok-lists.ensures.goes_on (subst (λ u. TablesGoOn c.bring_judged.new.self.tables u.tables) (sym c.self.view_is) c.write.ensures.goes_on))

pub returns-clause-stay : goal.returns-clause-stay
returns-clause-stay g c =
    let live = not_dead c.args.self.now.state c.args.entity c.args.id c.in_ok-additions.ensures.alive c.in_ok-additions.ensures.mentions in
    let seen = state_is c.in_ok-additions.ensures.same in
    let none = set_value c.args.self.now.state c.args.entity c.args.id c.args.values.now live c.in_ok-additions.ensures.others (ap (λ u. first_reason (value_reasons (type_of_id u c.args.id) c.args.values.now)) (sym seen) ∙ c.in-Ok.ensures.judged) ∙ ap (λ u. first_reason (add_reasons u c.args.entity.index c.args.id)) (sym seen) ∙ c.in_ok-lists.ensures.judged in
    let brought = c.in_ok-lists.ensures.brought ∙ ap (λ u. with_facts u (facts_after_add u c.args.entity.index c.args.id)) seen in
    let value = ap (λ u. value_in (type_of_id u c.args.id) (take c.in-Ok.size c.encode.new.buffer)) (sym seen) ∙ c.in-Ok.ensures.encoded.value in
    let left = state_is c.self.view_is ∙ c.write.ensures.state ∙ set_state c.args.self.now.state c.args.entity c.args.id c.args.values.now c.keeps.ensures none c.bring_judged.new.self.state brought (take c.in-Ok.size c.encode.new.buffer) value in
    going_to c.in_ok-additions.ensures.same c.write.new.self (sym (ap (λ s. s.tables) c.self.view_is))
    (stay_then _ _ _ _
    (set_stay c.args.self.now.state _ c.args.entity c.args.id c.in_ok-additions.ensures.tells c.keeps.ensures c.additions_of.new.self.state c.additions_of.new.self.tables c.bring_judged.new.self.tables c.in_ok-lists.ensures.stay c.args.values.now none
    (counted_state c.self.invariant c.args.self.now.state (SetValue c.args.entity c.args.id c.args.values.now) left c.keeps.ensures tt none))
    (stay_all c.write.ensures.stay))

pub returns-in_err-additions-clause-goes_on : goal.returns-in_err-additions-clause-goes_on
returns-in_err-additions-clause-goes_on g c = grind arith

pub returns-in_err-additions-clause-stay : goal.returns-in_err-additions-clause-stay
returns-in_err-additions-clause-stay g c = grind arith

pub bring_judged-requires-clause-alive : goal.bring_judged-requires-clause-alive
bring_judged-requires-clause-alive g c = grind arith

pub bring_judged-requires-clause-mentions : goal.bring_judged-requires-clause-mentions
bring_judged-requires-clause-mentions g c = grind arith

pub bring_judged-requires-clause-others : goal.bring_judged-requires-clause-others
bring_judged-requires-clause-others g c = grind arith

pub bring_judged-requires-clause-tells : goal.bring_judged-requires-clause-tells
bring_judged-requires-clause-tells g c = grind arith

pub returns-in_err-lists-clause-goes_on : goal.returns-in_err-lists-clause-goes_on
returns-in_err-lists-clause-goes_on g c = grind arith

pub returns-in-Err-clause-goes_on : goal.returns-in-Err-clause-goes_on
returns-in-Err-clause-goes_on g c = grind arith

pub returns-in-Err-clause-stay : goal.returns-in-Err-clause-stay
returns-in-Err-clause-stay g c = grind arith

pub slice_bounds-buffer-end : goal.slice_bounds-buffer-end
slice_bounds-buffer-end g c = grind arith

pub write-requires-clause-alive : goal.write-requires-clause-alive
write-requires-clause-alive g c = grind arith

pub slice_bounds-write-end : goal.slice_bounds-write-end
slice_bounds-write-end g c = grind (arith, common_steps)

pub write-requires-clause-data : goal.write-requires-clause-data
write-requires-clause-data g c = grind (arith, common_steps)
