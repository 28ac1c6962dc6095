use Rattle.std.proofs.Common.{[], ◌∷◌, refl, sym, ap, subst, ◌∙◌, arith, if◌then◌else◌}
use Rattle.ecs_archetypes.specs.Housing.{holdings_of}
use Rattle.ecs_model.specs.declared.faults.Refusal.TheVariants.{Dead}
use Rattle.ecs_model.specs.steps.Outcomes.{with_facts}
use Rattle.ecs_model.specs.steps.Step.{Add}
use Rattle.ecs_model.specs.steps.WellFormed.{IsWellFormed}
use Rattle.ecs_model.proofs.Additions.{not_spent}
use Rattle.ecs_model.proofs.StepAnswers.{step-refused}
use Rattle.ecs_archetypes.specs.Staying.{none_goes, stay_same}
use Rattle.table_store.specs.Going.{goes_on_same}
use Rattle.ecs_world.specs.State.{no_change}
use Rattle.ecs_world.proofs.AcceptedCommands.{added_left, counted_left, failed, fits_there, found_count, found_dead, found_held, on_err, on_ok, size_there}
use Rattle.ecs_world.proofs.JudgedCommands.{judged-add}
use Rattle.ecs_world.proofs.CommandEffects.{effect-add, facts_held}
use Rattle.ecs_world.proofs.RefusalReasons.{add_dead, entity_dead}
use Rattle.ecs_world.proofs.ToldChanges.{told_add}
use Rattle.ecs_world.proofs.Standings.{going_on, state_is, staying_on}
use Rattle.ecs_world.proofs.World.add_single.Goals as goal

pub returns-in_default-clause-answers : goal.returns-in_default-clause-answers
returns-in_default-clause-answers g c =
    let w = c.args.self.now.state in
    let e = c.args.entity in
    let i = c.args.id in
    let is = state_is c.self.view_is in
    let world = c.self.invariant in
    (step-refused w (Add e i) Dead (sym (add_dead w e i (entity_dead w e i (found_dead world is e (c.in_default.ensures.settled))))), refl)

pub returns-in_default-clause-goes_on : goal.returns-in_default-clause-goes_on
returns-in_default-clause-goes_on g c = goes_on_same _

pub returns-in_default-clause-stay : goal.returns-in_default-clause-stay
returns-in_default-clause-stay g c = stay_same none_goes _

pub single_refusal-requires-clause-held : goal.single_refusal-requires-clause-held
single_refusal-requires-clause-held g c = found_held c.self.invariant (state_is c.self.view_is) c.args.entity c.args.id c.in-Some.found.is_held c.in-Some.ensures.held

pub single_refusal-requires-clause-count : goal.single_refusal-requires-clause-count
single_refusal-requires-clause-count g c = found_count c.self.invariant (state_is c.self.view_is) c.args.entity c.in-Some.found.count c.in-Some.ensures.count

pub returns-in-Some-single_refusal-clause-answers : goal.returns-in-Some-single_refusal-clause-answers
returns-in-Some-single_refusal-clause-answers g c = (step-refused c.args.self.now.state (Add c.args.entity c.args.id) c.in-Some-single_refusal.refusal (sym c.in-Some-single_refusal.ensures), refl)

pub returns-in-Some-single_refusal-clause-goes_on : goal.returns-in-Some-single_refusal-clause-goes_on
returns-in-Some-single_refusal-clause-goes_on g c = goes_on_same _

pub returns-in-Some-single_refusal-clause-stay : goal.returns-in-Some-single_refusal-clause-stay
returns-in-Some-single_refusal-clause-stay g c = stay_same none_goes _

pub overflow_add-self : goal.overflow_add-self
overflow_add-self g c =
    let spent = rw (← state_is c.self.view_is) at ((judged-add c.args.self.now.state c.args.entity c.args.id c.requires.alone.no_trait (sym c.in_default-single_refusal.ensures)).room) in
    omega (arith, not_spent c.self.inside.accepted spent)

pub invariant_of-self : goal.invariant_of-self
invariant_of-self g c =
    let w = c.args.self.now.state in
    let e = c.args.entity in
    let i = c.args.id in
    let is = state_is c.self.view_is in
    let world = c.self.invariant in
    let alone = c.requires.alone in
    let none = sym c.in_default-single_refusal.ensures in
    let present = sym (found_held world is e i c.in-Some.found.is_held c.in-Some.ensures.held) ∙ c.if-found.true in
    (counted_left world is (Add e i) tt none (effect-add w e i ∙ ap (with_facts w) (facts_held w e.index i alone present))).0

pub returns-then-found-clause-answers : goal.returns-then-found-clause-answers
returns-then-found-clause-answers g c =
    let w = c.args.self.now.state in
    let e = c.args.entity in
    let i = c.args.id in
    let is = state_is c.self.view_is in
    let world = c.self.invariant in
    let alone = c.requires.alone in
    let none = sym c.in_default-single_refusal.ensures in
    let present = sym (found_held world is e i c.in-Some.found.is_held c.in-Some.ensures.held) ∙ c.if-found.true in
    told_add w _ c.of.result e i (subst IsWellFormed is world.sound) alone none
    (counted_left world is (Add e i) tt none (effect-add w e i ∙ ap (with_facts w) (facts_held w e.index i alone present))).1
    (c.of.ensures ∙ ap (λ b. record no_change { came = if b then [] else (e.index, i) ∷ [] }) (sym present))

pub returns-then-found-clause-goes_on : goal.returns-then-found-clause-goes_on
returns-then-found-clause-goes_on g c = going_on c.self.view_is (goes_on_same _)

pub returns-then-found-clause-stay : goal.returns-then-found-clause-stay
returns-then-found-clause-stay g c = staying_on c.self.view_is (stay_same none_goes _)

pub add-requires-clause-agree : goal.add-requires-clause-agree
add-requires-clause-agree g c =
    let w = c.args.self.now.state in
    let e = c.args.entity in
    let i = c.args.id in
    let is = state_is c.self.view_is in
    let world = c.self.invariant in
    let alone = c.requires.alone in
    let none = sym c.in_default-single_refusal.ensures in
    size_there world is e i (judged-add w e i alone.no_trait none) c.size_of-size.result c.size_of-size.ensures.value

pub invariant_of-self-then-is_err : goal.invariant_of-self-then-is_err
invariant_of-self-then-is_err g c =
    let w = c.args.self.now.state in
    let e = c.args.entity in
    let i = c.args.id in
    let is = state_is c.self.view_is in
    let world = c.self.invariant in
    let alone = c.requires.alone in
    let none = sym c.in_default-single_refusal.ensures in
    (failed world is ((i, c.size_of-size.result) ∷ []) (fits_there world is e i (judged-add w e i alone.no_trait none) c.size_of-size.result c.size_of-size.ensures.value)
    (holdings_of c.add.new.self) c.add.ensures.kept.holdings (on_err c.add.result c.add.ensures.refused (sym c.is_err.ensures.value ∙ c.if-is_err.true)) c.add.ensures.kept.sizes).0

pub returns-then-is_err-clause-answers : goal.returns-then-is_err-clause-answers
returns-then-is_err-clause-answers g c =
    let w = c.args.self.now.state in
    let e = c.args.entity in
    let i = c.args.id in
    let is = state_is c.self.view_is in
    let world = c.self.invariant in
    let alone = c.requires.alone in
    let none = sym c.in_default-single_refusal.ensures in
    (failed world is ((i, c.size_of-size.result) ∷ []) (fits_there world is e i (judged-add w e i alone.no_trait none) c.size_of-size.result c.size_of-size.ensures.value)
    (holdings_of c.add.new.self) c.add.ensures.kept.holdings (on_err c.add.result c.add.ensures.refused (sym c.is_err.ensures.value ∙ c.if-is_err.true)) c.add.ensures.kept.sizes).1

pub returns-then-is_err-clause-goes_on : goal.returns-then-is_err-clause-goes_on
returns-then-is_err-clause-goes_on g c = going_on c.self.view_is c.add.ensures.kept.goes_on

pub returns-then-is_err-clause-stay : goal.returns-then-is_err-clause-stay
returns-then-is_err-clause-stay g c = staying_on c.self.view_is c.add.ensures.kept.stay

pub overflow_add-self-2 : goal.overflow_add-self-2
overflow_add-self-2 g c =
    let spent = rw (← state_is c.self.view_is) at ((judged-add c.args.self.now.state c.args.entity c.args.id c.requires.alone.no_trait (sym c.in_default-single_refusal.ensures)).room) in
    omega (arith, not_spent c.self.inside.accepted spent)

pub invariant_of-self-2 : goal.invariant_of-self-2
invariant_of-self-2 g c =
    let e = c.args.entity in
    let i = c.args.id in
    let is = state_is c.self.view_is in
    let world = c.self.invariant in
    let alone = c.requires.alone in
    let none = sym c.in_default-single_refusal.ensures in
    let absent = sym (found_held world is e i c.in-Some.found.is_held c.in-Some.ensures.held) ∙ c.if-found.false in
    (added_left world is e i alone none (holdings_of c.add.new.self) c.size_of-size.result c.add.ensures.kept.holdings c.size_of-size.ensures.value absent
    (on_ok c.add.result c.add.ensures.added (sym c.is_err.ensures.value ∙ c.if-is_err.false)) c.add.ensures.kept.sizes).0

pub returns-clause-answers : goal.returns-clause-answers
returns-clause-answers g c =
    let w = c.args.self.now.state in
    let e = c.args.entity in
    let i = c.args.id in
    let is = state_is c.self.view_is in
    let world = c.self.invariant in
    let alone = c.requires.alone in
    let none = sym c.in_default-single_refusal.ensures in
    let absent = sym (found_held world is e i c.in-Some.found.is_held c.in-Some.ensures.held) ∙ c.if-found.false in
    told_add w _ c.of-2.result e i (subst IsWellFormed is world.sound) alone none
    (added_left world is e i alone none (holdings_of c.add.new.self) c.size_of-size.result c.add.ensures.kept.holdings c.size_of-size.ensures.value absent
    (on_ok c.add.result c.add.ensures.added (sym c.is_err.ensures.value ∙ c.if-is_err.false)) c.add.ensures.kept.sizes).1
    (c.of-2.ensures ∙ (λ k. record no_change { came = c.new-key.ensures k ∷ [] }) ∙ ap (λ b. record no_change { came = if b then [] else (e.index, i) ∷ [] }) (sym absent))

pub returns-clause-goes_on : goal.returns-clause-goes_on
returns-clause-goes_on g c = going_on c.self.view_is c.add.ensures.kept.goes_on

pub returns-clause-stay : goal.returns-clause-stay
returns-clause-stay g c = staying_on c.self.view_is c.add.ensures.kept.stay

pub single_refusal-requires-clause-alone : goal.single_refusal-requires-clause-alone
single_refusal-requires-clause-alone g c = grind arith

pub single_refusal-requires-clause-alive : goal.single_refusal-requires-clause-alive
single_refusal-requires-clause-alive g c = grind arith

pub add-requires-clause-there : goal.add-requires-clause-there
add-requires-clause-there g c = grind arith

pub add-requires-clause-not_held : goal.add-requires-clause-not_held
add-requires-clause-not_held g c = grind arith

pub add-requires-clause-small : goal.add-requires-clause-small
add-requires-clause-small g c = grind arith
