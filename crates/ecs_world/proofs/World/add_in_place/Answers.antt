use Rattle.std.proofs.Common.{[], ◌∷◌, refl, sym, subst, ◌∙◌, arith}
use Rattle.ecs_archetypes.specs.Housing.{holdings_of}
use Rattle.ecs_model.specs.declared.faults.Refusal.TheVariants.{Dead}
use Rattle.ecs_model.specs.steps.Step.{Add}
use Rattle.ecs_model.specs.steps.WellFormed.{IsWellFormed}
use Rattle.ecs_model.proofs.Additions.{not_spent}
use Rattle.ecs_model.proofs.StepAnswers.{step-refused}
use Rattle.ecs_archetypes.specs.Staying.{none_goes, stay_same}
use Rattle.table_store.specs.Going.{goes_on_same}
use Rattle.ecs_world.specs.State.{no_change}
use Rattle.ecs_world.proofs.AcceptedCommands.{failed, fits_there, found_dead, held_there, on_err, on_ok, replaced_left, size_there}
use Rattle.ecs_world.proofs.JudgedCommands.{judged-add}
use Rattle.ecs_world.proofs.RefusalReasons.{add_dead, entity_dead}
use Rattle.ecs_world.proofs.SimpleFacts.{new_there}
use Rattle.ecs_world.proofs.ToldChanges.{told_replacing}
use Rattle.ecs_world.proofs.Standings.{going_on, state_is, staying_on}
use Rattle.ecs_world.proofs.World.add_in_place.Goals as goal

pub returns-in_default-clause-answers : goal.returns-in_default-clause-answers
returns-in_default-clause-answers g c =
    let w = c.args.self.now.state in
    let e = c.args.entity in
    let i = c.args.id in
    let is = state_is c.self.view_is in
    let world = c.self.invariant in
    (step-refused w (Add e i) Dead (sym (add_dead w e i (entity_dead w e i (found_dead world is e (c.in_default.ensures.settled))))), refl)

pub returns-in_default-clause-goes_on : goal.returns-in_default-clause-goes_on
returns-in_default-clause-goes_on g c = goes_on_same _

pub returns-in_default-clause-stay : goal.returns-in_default-clause-stay
returns-in_default-clause-stay g c = stay_same none_goes _

pub returns-in-Some-replacing_refusal-clause-answers : goal.returns-in-Some-replacing_refusal-clause-answers
returns-in-Some-replacing_refusal-clause-answers g c = (step-refused c.args.self.now.state (Add c.args.entity c.args.id) c.in-Some-replacing_refusal.refusal (sym c.in-Some-replacing_refusal.ensures), refl)

pub returns-in-Some-replacing_refusal-clause-goes_on : goal.returns-in-Some-replacing_refusal-clause-goes_on
returns-in-Some-replacing_refusal-clause-goes_on g c = goes_on_same _

pub returns-in-Some-replacing_refusal-clause-stay : goal.returns-in-Some-replacing_refusal-clause-stay
returns-in-Some-replacing_refusal-clause-stay g c = stay_same none_goes _

pub replace-moved-requires-clause-not_held : goal.replace-moved-requires-clause-not_held
replace-moved-requires-clause-not_held g c =
    let w = c.args.self.now.state in
    let e = c.args.entity in
    let i = c.args.id in
    let can = judged-add w e i c.requires.in_place.no_trait (sym c.in_default-replacing_refusal.ensures) in
    held_there c.self.invariant (state_is c.self.view_is) e i can _ (new_there w e.index i c.args.old c.requires.in_place)

pub replace-moved-requires-clause-agree : goal.replace-moved-requires-clause-agree
replace-moved-requires-clause-agree g c =
    let w = c.args.self.now.state in
    let e = c.args.entity in
    let i = c.args.id in
    size_there c.self.invariant (state_is c.self.view_is) e i (judged-add w e i c.requires.in_place.no_trait (sym c.in_default-replacing_refusal.ensures)) c.size_of-size.result c.size_of-size.ensures.value

pub invariant_of-self : goal.invariant_of-self
invariant_of-self g c =
    let w = c.args.self.now.state in
    let e = c.args.entity in
    let i = c.args.id in
    let is = state_is c.self.view_is in
    let world = c.self.invariant in
    (failed world is ((i, c.size_of-size.result) ∷ []) (fits_there world is e i (judged-add w e i c.requires.in_place.no_trait (sym c.in_default-replacing_refusal.ensures)) c.size_of-size.result c.size_of-size.ensures.value)
    (holdings_of c.replace-moved.new.self) c.replace-moved.ensures.kept.holdings (on_err c.replace-moved.result c.replace-moved.ensures.refused (sym c.is_err.ensures.value ∙ c.if-is_err.true)) c.replace-moved.ensures.kept.sizes).0

pub returns-then-is_err-clause-answers : goal.returns-then-is_err-clause-answers
returns-then-is_err-clause-answers g c =
    let w = c.args.self.now.state in
    let e = c.args.entity in
    let i = c.args.id in
    let is = state_is c.self.view_is in
    let world = c.self.invariant in
    (failed world is ((i, c.size_of-size.result) ∷ []) (fits_there world is e i (judged-add w e i c.requires.in_place.no_trait (sym c.in_default-replacing_refusal.ensures)) c.size_of-size.result c.size_of-size.ensures.value)
    (holdings_of c.replace-moved.new.self) c.replace-moved.ensures.kept.holdings (on_err c.replace-moved.result c.replace-moved.ensures.refused (sym c.is_err.ensures.value ∙ c.if-is_err.true)) c.replace-moved.ensures.kept.sizes).1

pub returns-then-is_err-clause-goes_on : goal.returns-then-is_err-clause-goes_on
returns-then-is_err-clause-goes_on g c = going_on c.self.view_is c.replace-moved.ensures.kept.goes_on

pub returns-then-is_err-clause-stay : goal.returns-then-is_err-clause-stay
returns-then-is_err-clause-stay g c = staying_on c.self.view_is c.replace-moved.ensures.kept.stay

pub overflow_add-self : goal.overflow_add-self
overflow_add-self g c =
    let spent = rw (← state_is c.self.view_is) at ((judged-add c.args.self.now.state c.args.entity c.args.id c.requires.in_place.no_trait (sym c.in_default-replacing_refusal.ensures)).room) in
    omega (arith, not_spent c.self.inside.accepted spent)

pub invariant_of-self-2 : goal.invariant_of-self-2
invariant_of-self-2 g c =
    let e = c.args.entity in
    let i = c.args.id in
    (replaced_left c.self.invariant (state_is c.self.view_is) e i c.args.old c.requires.in_place (sym c.in_default-replacing_refusal.ensures) (holdings_of c.replace-moved.new.self) c.size_of-size.result c.replace-moved.ensures.kept.holdings
    c.size_of-size.ensures.value (on_ok c.replace-moved.result c.replace-moved.ensures.replaced (sym c.is_err.ensures.value ∙ c.if-is_err.false)) c.replace-moved.ensures.kept.sizes).0

pub returns-clause-answers : goal.returns-clause-answers
returns-clause-answers g c =
    let w = c.args.self.now.state in
    let e = c.args.entity in
    let i = c.args.id in
    let is = state_is c.self.view_is in
    let none = sym c.in_default-replacing_refusal.ensures in
    told_replacing w _ c.of.result e i (subst IsWellFormed is c.self.invariant.sound) c.args.old c.requires.in_place none
    (replaced_left c.self.invariant is e i c.args.old c.requires.in_place none (holdings_of c.replace-moved.new.self) c.size_of-size.result c.replace-moved.ensures.kept.holdings
    c.size_of-size.ensures.value (on_ok c.replace-moved.result c.replace-moved.ensures.replaced (sym c.is_err.ensures.value ∙ c.if-is_err.false)) c.replace-moved.ensures.kept.sizes).1
    (c.of.ensures ∙ (λ k. record no_change { came = (c.in-Ok.ensures.ok k).came ∷ []; went = (c.in-Ok.ensures.ok k).went ∷ [] }) ∙ (λ k. record no_change { came = c.new-came.ensures k ∷ []; went = c.new-went.ensures k ∷ [] }))

pub returns-clause-goes_on : goal.returns-clause-goes_on
returns-clause-goes_on g c = going_on c.self.view_is c.replace-moved.ensures.kept.goes_on

pub returns-clause-stay : goal.returns-clause-stay
returns-clause-stay g c = staying_on c.self.view_is c.replace-moved.ensures.kept.stay

pub replacing_refusal-requires-clause-in_place : goal.replacing_refusal-requires-clause-in_place
replacing_refusal-requires-clause-in_place g c = grind arith

pub replacing_refusal-requires-clause-alive : goal.replacing_refusal-requires-clause-alive
replacing_refusal-requires-clause-alive g c = grind arith

pub returns-in_default-new-clause-answers : goal.returns-in_default-new-clause-answers
returns-in_default-new-clause-answers g c = grind arith

pub returns-in_default-new-clause-goes_on : goal.returns-in_default-new-clause-goes_on
returns-in_default-new-clause-goes_on g c = grind arith

pub returns-in_default-new-clause-stay : goal.returns-in_default-new-clause-stay
returns-in_default-new-clause-stay g c = grind arith

pub replace-moved-requires-clause-there : goal.replace-moved-requires-clause-there
replace-moved-requires-clause-there g c = grind arith

pub replace-moved-requires-clause-small : goal.replace-moved-requires-clause-small
replace-moved-requires-clause-small g c = grind arith
