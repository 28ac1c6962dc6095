use Rattle.std.proofs.Common.{[], ◌∷◌, true, false, refl, sym, subst, ◌∙◌, arith}
use Rattle.ecs_archetypes.specs.Housing.{holdings_of}
use Rattle.ecs_model.specs.declared.faults.Refusal.TheVariants.{Dead}
use Rattle.ecs_model.specs.steps.Step.{Remove}
use Rattle.ecs_model.specs.steps.WellFormed.{IsWellFormed}
use Rattle.ecs_model.proofs.Additions.{not_spent}
use Rattle.ecs_model.proofs.StepAnswers.{step-refused}
use Rattle.ecs_model.proofs.Reasons.{denied}
use Rattle.ecs_archetypes.specs.Staying.{none_goes, stay_same}
use Rattle.table_store.specs.Going.{goes_on_same}
use Rattle.ecs_world.specs.State.{no_change}
use Rattle.ecs_world.proofs.AcceptedCommands.{counted_left, effect-remove-none, failed, found_dead, found_held, go, on_err, on_ok, refuted}
use Rattle.ecs_world.proofs.JudgedCommands.{judged-remove, remove_dead}
use Rattle.ecs_world.proofs.RefusalReasons.{entity_dead}
use Rattle.ecs_world.proofs.ToldChanges.{told_remove}
use Rattle.ecs_world.proofs.Standings.{going_on, state_is, staying_on}
use Rattle.ecs_world.proofs.World.remove_single.Goals as goal

pub returns-in_default-clause-answers : goal.returns-in_default-clause-answers
returns-in_default-clause-answers g c =
    let w = c.args.self.now.state in
    let e = c.args.entity in
    let i = c.args.id in
    let is = state_is c.self.view_is in
    let world = c.self.invariant in
    (step-refused w (Remove e i) Dead (sym (remove_dead w e i (entity_dead w e i (found_dead world is e (c.in_default.ensures.settled))))), refl)

pub returns-in_default-clause-goes_on : goal.returns-in_default-clause-goes_on
returns-in_default-clause-goes_on g c = goes_on_same _

pub returns-in_default-clause-stay : goal.returns-in_default-clause-stay
returns-in_default-clause-stay g c = stay_same none_goes _

pub returns-in-Some-remove_refusal-clause-answers : goal.returns-in-Some-remove_refusal-clause-answers
returns-in-Some-remove_refusal-clause-answers g c = (step-refused c.args.self.now.state (Remove c.args.entity c.args.id) c.in-Some-remove_refusal.refusal (sym c.in-Some-remove_refusal.ensures), refl)

pub returns-in-Some-remove_refusal-clause-goes_on : goal.returns-in-Some-remove_refusal-clause-goes_on
returns-in-Some-remove_refusal-clause-goes_on g c = goes_on_same _

pub returns-in-Some-remove_refusal-clause-stay : goal.returns-in-Some-remove_refusal-clause-stay
returns-in-Some-remove_refusal-clause-stay g c = stay_same none_goes _

pub overflow_add-self : goal.overflow_add-self
overflow_add-self g c =
    let spent = rw (← state_is c.self.view_is) at ((judged-remove c.args.self.now.state c.args.entity c.args.id (sym c.in_default-remove_refusal.ensures)).room) in
    omega (arith, not_spent c.self.inside.accepted spent)

pub invariant_of-self : goal.invariant_of-self
invariant_of-self g c =
    let w = c.args.self.now.state in
    let e = c.args.entity in
    let i = c.args.id in
    let is = state_is c.self.view_is in
    let world = c.self.invariant in
    let none = sym c.in_default-remove_refusal.ensures in
    let absent = sym (found_held world is e i c.in-Some.found.is_held c.in-Some.ensures.held) ∙ refuted c.in-Some.found.is_held c.if-not-found.true in
    let sound : IsWellFormed w = subst IsWellFormed is world.sound in
    (counted_left world is (Remove e i) tt none (effect-remove-none w e i sound absent)).0

pub returns-then-not-found-clause-answers : goal.returns-then-not-found-clause-answers
returns-then-not-found-clause-answers g c =
    let w = c.args.self.now.state in
    let e = c.args.entity in
    let i = c.args.id in
    let is = state_is c.self.view_is in
    let world = c.self.invariant in
    let alone = c.requires.unmirrored in
    let none = sym c.in_default-remove_refusal.ensures in
    let absent = sym (found_held world is e i c.in-Some.found.is_held c.in-Some.ensures.held) ∙ refuted c.in-Some.found.is_held c.if-not-found.true in
    let sound : IsWellFormed w = subst IsWellFormed is world.sound in
    told_remove w _ c.of.result e i sound false alone absent none
    (counted_left world is (Remove e i) tt none (effect-remove-none w e i sound absent)).1 c.of.ensures

pub returns-then-not-found-clause-goes_on : goal.returns-then-not-found-clause-goes_on
returns-then-not-found-clause-goes_on g c = going_on c.self.view_is (goes_on_same _)

pub returns-then-not-found-clause-stay : goal.returns-then-not-found-clause-stay
returns-then-not-found-clause-stay g c = staying_on c.self.view_is (stay_same none_goes _)

pub invariant_of-self-then-is_err : goal.invariant_of-self-then-is_err
invariant_of-self-then-is_err g c =
    let is = state_is c.self.view_is in
    let world = c.self.invariant in
    (failed world is [] refl (holdings_of c.remove.new.self) c.remove.ensures.kept.holdings (on_err c.remove.result c.remove.ensures.refused (sym c.is_err.ensures.value ∙ c.if-is_err.true)) c.remove.ensures.kept.sizes).0

pub returns-then-is_err-clause-answers : goal.returns-then-is_err-clause-answers
returns-then-is_err-clause-answers g c =
    let is = state_is c.self.view_is in
    let world = c.self.invariant in
    (failed world is [] refl (holdings_of c.remove.new.self) c.remove.ensures.kept.holdings (on_err c.remove.result c.remove.ensures.refused (sym c.is_err.ensures.value ∙ c.if-is_err.true)) c.remove.ensures.kept.sizes).1

pub returns-then-is_err-clause-goes_on : goal.returns-then-is_err-clause-goes_on
returns-then-is_err-clause-goes_on g c = going_on c.self.view_is c.remove.ensures.kept.goes_on

pub returns-then-is_err-clause-stay : goal.returns-then-is_err-clause-stay
returns-then-is_err-clause-stay g c = staying_on c.self.view_is c.remove.ensures.kept.stay

pub overflow_add-self-2 : goal.overflow_add-self-2
overflow_add-self-2 g c =
    let spent = rw (← state_is c.self.view_is) at ((judged-remove c.args.self.now.state c.args.entity c.args.id (sym c.in_default-remove_refusal.ensures)).room) in
    omega (arith, not_spent c.self.inside.accepted spent)

pub invariant_of-self-2 : goal.invariant_of-self-2
invariant_of-self-2 g c =
    let e = c.args.entity in
    let i = c.args.id in
    let is = state_is c.self.view_is in
    let world = c.self.invariant in
    let alone = c.requires.unmirrored in
    let none = sym c.in_default-remove_refusal.ensures in
    (go world is e i alone none (holdings_of c.remove.new.self) c.remove.ensures.kept.holdings (on_ok c.remove.result c.remove.ensures.removed (sym c.is_err.ensures.value ∙ c.if-is_err.false)) c.remove.ensures.kept.sizes).0

pub returns-clause-answers : goal.returns-clause-answers
returns-clause-answers g c =
    let w = c.args.self.now.state in
    let e = c.args.entity in
    let i = c.args.id in
    let is = state_is c.self.view_is in
    let world = c.self.invariant in
    let alone = c.requires.unmirrored in
    let none = sym c.in_default-remove_refusal.ensures in
    let present = sym (found_held world is e i c.in-Some.found.is_held c.in-Some.ensures.held) ∙ denied c.in-Some.found.is_held c.if-not-found.false in
    let sound : IsWellFormed w = subst IsWellFormed is world.sound in
    told_remove w _ c.of-2.result e i sound true alone present none
    (go world is e i alone none (holdings_of c.remove.new.self) c.remove.ensures.kept.holdings (on_ok c.remove.result c.remove.ensures.removed (sym c.is_err.ensures.value ∙ c.if-is_err.false)) c.remove.ensures.kept.sizes).1
    (c.of-2.ensures ∙ (λ k. record no_change { went = c.new-key.ensures k ∷ [] }))

pub returns-clause-goes_on : goal.returns-clause-goes_on
returns-clause-goes_on g c = going_on c.self.view_is c.remove.ensures.kept.goes_on

pub returns-clause-stay : goal.returns-clause-stay
returns-clause-stay g c = staying_on c.self.view_is c.remove.ensures.kept.stay

pub remove_refusal-requires : goal.remove_refusal-requires
remove_refusal-requires g c = grind arith

pub remove-requires-clause-there : goal.remove-requires-clause-there
remove-requires-clause-there g c = grind arith

pub remove-requires-clause-held : goal.remove-requires-clause-held
remove-requires-clause-held g c = grind arith
