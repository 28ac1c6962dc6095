use Rattle.std.proofs.lemmas.Grind.{common_steps}
use Rattle.std.proofs.Common.{Bool, [], ◌∷◌, take, length, refl, sym, ap, subst, ◌∙◌, arith, if◌then◌else◌}
use Rattle.ecs_archetypes.specs.Housing.{holdings_of}
use Rattle.std.proofs.lemmas.List.{length-take-le}
use Rattle.ecs_model.specs.declared.faults.Refusal.TheVariants.{Dead}
use Rattle.ecs_model.specs.steps.Step.{SetValue}
use Rattle.ecs_model.specs.steps.WellFormed.{IsWellFormed}
use Rattle.ecs_model.proofs.Additions.{not_spent}
use Rattle.ecs_model.proofs.StepAnswers.{step-refused}
use Rattle.ecs_archetypes.specs.Staying.{none_goes, stay_same}
use Rattle.table_store.specs.Going.{goes_on_same}
use Rattle.ecs_world.specs.State.{no_change}
use Rattle.ecs_world.proofs.AcceptedCommands.{failed, fits_there, found_count, found_dead, found_held, on_err, on_ok, set_left, size_there}
use Rattle.ecs_world.proofs.JudgedCommands.{add_of_set, judged-add}
use Rattle.ecs_world.proofs.RefusalReasons.{entity_dead, set_dead}
use Rattle.ecs_world.proofs.ToldChanges.{told_set}
use Rattle.ecs_world.proofs.Standings.{going_on, state_is, staying_on}
use Rattle.ecs_world.proofs.World.set_single.Goals.{then-found, else-found}
use Rattle.ecs_world.proofs.World.set_single.Goals as goal

pub returns-in_default-clause-answers : goal.returns-in_default-clause-answers
returns-in_default-clause-answers g c =
    let w = c.args.self.now.state in
    let e = c.args.entity in
    let i = c.args.id in
    let is = state_is c.self.view_is in
    let world = c.self.invariant in
    let vs = c.args.values.now in
    (step-refused w (SetValue e i vs) Dead (sym (set_dead w e i vs (entity_dead w e i (found_dead world is e (c.in_default.ensures.settled))))), refl)

pub returns-in_default-clause-goes_on : goal.returns-in_default-clause-goes_on
returns-in_default-clause-goes_on g c = goes_on_same _

pub returns-in_default-clause-stay : goal.returns-in_default-clause-stay
returns-in_default-clause-stay g c = stay_same none_goes _

pub judge_single-requires-clause-held : goal.judge_single-requires-clause-held
judge_single-requires-clause-held g c = found_held c.self.invariant (state_is c.self.view_is) c.args.entity c.args.id c.in-Some.found.is_held c.in-Some.ensures.held

pub judge_single-requires-clause-count : goal.judge_single-requires-clause-count
judge_single-requires-clause-count g c = found_count c.self.invariant (state_is c.self.view_is) c.args.entity c.in-Some.found.count c.in-Some.ensures.count

pub returns-in-Err-clause-answers : goal.returns-in-Err-clause-answers
returns-in-Err-clause-answers g c = (step-refused c.args.self.now.state (SetValue c.args.entity c.args.id c.args.values.now) c.in-Err.refusal c.in-Err.ensures.refused, refl)

pub returns-in-Err-clause-goes_on : goal.returns-in-Err-clause-goes_on
returns-in-Err-clause-goes_on g c = goes_on_same _

pub returns-in-Err-clause-stay : goal.returns-in-Err-clause-stay
returns-in-Err-clause-stay g c = stay_same none_goes _

pub put-requires-clause-agree : goal.put-requires-clause-agree
put-requires-clause-agree g c =
    let w = c.args.self.now.state in
    let e = c.args.entity in
    let i = c.args.id in
    let is = state_is c.self.view_is in
    let world = c.self.invariant in
    let alone = c.requires.alone in
    let vs = c.args.values.now in
    let none = c.in-Ok.ensures.judged in
    let bytes = take c.in-Ok.size c.judge_single.new.buffer in
    let can = judged-add w e i alone.no_trait (add_of_set w e i vs none).1 in
    let sized = length-take-le c.in-Ok.size c.judge_single.new.buffer (omega (arith, c.in-Ok.ensures.encoded.few, c.judge_single.array_long)) ∙ c.in-Ok.ensures.encoded.sized in
    size_there world is e i can (length bytes) sized

pub invariant_of-self : goal.invariant_of-self
invariant_of-self g c =
    let w = c.args.self.now.state in
    let e = c.args.entity in
    let i = c.args.id in
    let is = state_is c.self.view_is in
    let world = c.self.invariant in
    let alone = c.requires.alone in
    let vs = c.args.values.now in
    let none = c.in-Ok.ensures.judged in
    let bytes = take c.in-Ok.size c.judge_single.new.buffer in
    let can = judged-add w e i alone.no_trait (add_of_set w e i vs none).1 in
    let sized = length-take-le c.in-Ok.size c.judge_single.new.buffer (omega (arith, c.in-Ok.ensures.encoded.few, c.judge_single.array_long)) ∙ c.in-Ok.ensures.encoded.sized in
    (failed world is ((i, length bytes) ∷ []) (fits_there world is e i can (length bytes) sized)
    (holdings_of c.put.new.self) c.put.ensures.kept.holdings (on_err c.put.result c.put.ensures.refused (sym c.is_err.ensures.value ∙ c.if-is_err.true)) c.put.ensures.kept.sizes).0

pub returns-then-is_err-clause-answers : goal.returns-then-is_err-clause-answers
returns-then-is_err-clause-answers g c =
    let w = c.args.self.now.state in
    let e = c.args.entity in
    let i = c.args.id in
    let is = state_is c.self.view_is in
    let world = c.self.invariant in
    let alone = c.requires.alone in
    let vs = c.args.values.now in
    let none = c.in-Ok.ensures.judged in
    let bytes = take c.in-Ok.size c.judge_single.new.buffer in
    let can = judged-add w e i alone.no_trait (add_of_set w e i vs none).1 in
    let sized = length-take-le c.in-Ok.size c.judge_single.new.buffer (omega (arith, c.in-Ok.ensures.encoded.few, c.judge_single.array_long)) ∙ c.in-Ok.ensures.encoded.sized in
    (failed world is ((i, length bytes) ∷ []) (fits_there world is e i can (length bytes) sized)
    (holdings_of c.put.new.self) c.put.ensures.kept.holdings (on_err c.put.result c.put.ensures.refused (sym c.is_err.ensures.value ∙ c.if-is_err.true)) c.put.ensures.kept.sizes).1

pub returns-then-is_err-clause-goes_on : goal.returns-then-is_err-clause-goes_on
returns-then-is_err-clause-goes_on g c = going_on c.self.view_is c.put.ensures.kept.goes_on

pub returns-then-is_err-clause-stay : goal.returns-then-is_err-clause-stay
returns-then-is_err-clause-stay g c = staying_on c.self.view_is c.put.ensures.kept.stay

pub overflow_add-self : goal.overflow_add-self
overflow_add-self g c =
    let w = c.args.self.now.state in
    let e = c.args.entity in
    let i = c.args.id in
    let is = state_is c.self.view_is in
    let alone = c.requires.alone in
    let vs = c.args.values.now in
    let none = c.in-Ok.ensures.judged in
    let can = judged-add w e i alone.no_trait (add_of_set w e i vs none).1 in
    let spent = rw (← is) at (can.room) in
    omega (arith, not_spent c.self.inside.accepted spent)

pub invariant_of-self-2 : goal.invariant_of-self-2
invariant_of-self-2 g c =
    let e = c.args.entity in
    let i = c.args.id in
    let is = state_is c.self.view_is in
    let world = c.self.invariant in
    let alone = c.requires.alone in
    let vs = c.args.values.now in
    let none = c.in-Ok.ensures.judged in
    let bytes = take c.in-Ok.size c.judge_single.new.buffer in
    let sized = length-take-le c.in-Ok.size c.judge_single.new.buffer (omega (arith, c.in-Ok.ensures.encoded.few, c.judge_single.array_long)) ∙ c.in-Ok.ensures.encoded.sized in
    (set_left world is e i alone vs none (holdings_of c.put.new.self) bytes c.put.ensures.kept.holdings sized
    (on_ok c.put.result c.put.ensures.put (sym c.is_err.ensures.value ∙ c.if-is_err.false)) c.put.ensures.kept.sizes c.in-Ok.ensures.encoded.value).0

pub returns-clause-answers : goal.returns-clause-answers
returns-clause-answers g c =
    let w = c.args.self.now.state in
    let e = c.args.entity in
    let i = c.args.id in
    let is = state_is c.self.view_is in
    let world = c.self.invariant in
    let alone = c.requires.alone in
    let vs = c.args.values.now in
    let none = c.in-Ok.ensures.judged in
    let bytes = take c.in-Ok.size c.judge_single.new.buffer in
    let sized = length-take-le c.in-Ok.size c.judge_single.new.buffer (omega (arith, c.in-Ok.ensures.encoded.few, c.judge_single.array_long)) ∙ c.in-Ok.ensures.encoded.sized in
    let left = (set_left world is e i alone vs none (holdings_of c.put.new.self) bytes c.put.ensures.kept.holdings sized
    (on_ok c.put.result c.put.ensures.put (sym c.is_err.ensures.value ∙ c.if-is_err.false)) c.put.ensures.kept.sizes c.in-Ok.ensures.encoded.value).1 in
    let same = found_held world is e i c.in-Some.found.is_held c.in-Some.ensures.held in
    let changed = λ (held : Bool). record no_change { came = if held then [] else (e.index, i) ∷ []; written = (e.index, i) ∷ [] } in
    elim c.if-found.branch [
      | then-found f ↦ rw f.result-is (told_set w _ f.of.result e i (subst IsWellFormed is world.sound) vs alone none left
          (f.of.ensures ∙ (λ k. record no_change { written = c.new-key.ensures k ∷ [] }) ∙ ap changed (sym (sym same ∙ f.if-found.true))))
      | else-found f ↦ rw f.result-is (told_set w _ f.of-else-found.result e i (subst IsWellFormed is world.sound) vs alone none left
          (f.of-else-found.ensures ∙ (λ k. record no_change { came = c.new-key.ensures k ∷ []; written = c.new-key.ensures k ∷ [] }) ∙ ap changed (sym (sym same ∙ f.if-found.false))))
    ]

pub returns-clause-goes_on : goal.returns-clause-goes_on
returns-clause-goes_on g c = going_on c.self.view_is c.put.ensures.kept.goes_on

pub returns-clause-stay : goal.returns-clause-stay
returns-clause-stay g c = staying_on c.self.view_is c.put.ensures.kept.stay

pub judge_single-requires-clause-alone : goal.judge_single-requires-clause-alone
judge_single-requires-clause-alone g c = grind arith

pub judge_single-requires-clause-alive : goal.judge_single-requires-clause-alive
judge_single-requires-clause-alive g c = grind arith

pub slice_bounds-buffer-end : goal.slice_bounds-buffer-end
slice_bounds-buffer-end g c = grind arith

pub slice_bounds-bytes-end : goal.slice_bounds-bytes-end
slice_bounds-bytes-end g c = grind (arith, common_steps)

pub put-requires-clause-there : goal.put-requires-clause-there
put-requires-clause-there g c = grind arith

pub put-requires-clause-held : goal.put-requires-clause-held
put-requires-clause-held g c = grind arith

pub put-requires-clause-data : goal.put-requires-clause-data
put-requires-clause-data g c = grind (arith, common_steps)

pub put-requires-clause-small : goal.put-requires-clause-small
put-requires-clause-small g c = grind (arith, common_steps)
