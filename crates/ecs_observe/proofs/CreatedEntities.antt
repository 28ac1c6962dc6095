-- Which entity an accepted command has created.
use Rattle.std.specs.Prelude.{◌≡◌, ℕ, List, ◌∷◌, ◌++◌, IfOk, Option, None, Ok, Err, Result, is_some, not}
use Rattle.std.proofs.Common.{ap, arith, refl, subst, sym, ◌∙◌}
use Rattle.ecs_id.specs.declared.EntityId.{EntityId}
use Rattle.ecs_model.specs.declared.faults.CommandError.{CommandError}
use Rattle.ecs_model.specs.declared.faults.Refusal.TheVariants.{BadName, NameTaken}
use Rattle.ecs_model.specs.Refusal.{first_reason}
use Rattle.ecs_model.specs.Schema.{Schema}
use Rattle.ecs_model.specs.Text.{is_name}
use Rattle.ecs_model.specs.World.{WorldState, named}
use Rattle.ecs_model.specs.steps.Outcomes.{AnswersStep, Changed, birth_reasons, name_reasons, next_entity}
use Rattle.ecs_model.specs.steps.Step.{Command, Component, Entity, Fresh, reasons, step}
use Rattle.ecs_model.specs.steps.StepLaws.{made_by}
use Rattle.ecs_model.proofs.Reasons.{next_is_free, passed}
use Rattle.ecs_model.proofs.steps.BornEntities.{born_is_made}
use Rattle.ecs_model.proofs.steps.RefusalNumbers.{accepted_step}
use Rattle.ecs_world.proofs.JudgedCommands.{births, component_refusal, entity_refusal, fresh_refusal}
use Rattle.ecs_observe.specs.Answers.{AnswersCommand, IsBorn, session_error}
use Rattle.watch_stored.specs.Held.{Held}

-- it is the one that the definitions say
pub made : (w v : WorldState) (c : Command) (done : Result Changed CommandError) → AnswersStep done (step w c) w v → IfOk done (λ changed. changed.born ≡ made_by w c)
made w v c (Ok changed) stepped = born_is_made w v c changed stepped
made w v c (Err error) stepped = tt

some_next : (w : WorldState) → first_reason (birth_reasons w) ≡ None → IsBorn (next_entity w)
some_next w none =
    let next = (births w none).next in
    let free = next_is_free w next.0 next.1 in
    subst IsBorn (sym next.1) (omega (arith, free.low), free.high)

named_next : (w : WorldState) (n : List ℕ) → first_reason (name_reasons w n ++ birth_reasons w) ≡ None → IsBorn (next_entity w)
named_next w n none =
    let name = passed (not (is_name n)) BadName ((is_some (named w n), NameTaken) ∷ birth_reasons w) none in
    some_next w (passed (is_some (named w n)) NameTaken (birth_reasons w) name.1).1

-- one that may be made is made
some_made : (w v : WorldState) (c : Command) (done : Result Changed CommandError) → AnswersStep done (step w c) w v → made_by w c ≡ next_entity w
    → (first_reason (reasons w c) ≡ None → IsBorn (next_entity w)) → IfOk done (λ changed. IsBorn changed.born)
some_made w v c (Ok changed) stepped is next = subst IsBorn (sym (born_is_made w v c changed stepped ∙ is)) (next (accepted_step w v c changed stepped).0)
some_made w v c (Err error) stepped is next = tt

pub fresh_made : (w v : WorldState) (done : Result Changed CommandError) → AnswersStep done (step w Fresh) w v → IfOk done (λ changed. IsBorn changed.born)
fresh_made w v done stepped = some_made w v Fresh done stepped refl (λ none. some_next w (fresh_refusal w ∙ none))

pub entity_made : (w v : WorldState) (n : List ℕ) (done : Result Changed CommandError) → AnswersStep done (step w (Entity n)) w v → IfOk done (λ changed. IsBorn changed.born)
entity_made w v n done stepped = some_made w v (Entity n) done stepped refl (λ none. named_next w n (entity_refusal w n ∙ none))

pub component_made : (w v : WorldState) (n : List ℕ) (fs : Schema) (done : Result Changed CommandError) → AnswersStep done (step w (Component n fs)) w v
    → IfOk done (λ changed. IsBorn changed.born)
component_made w v n fs done stepped = some_made w v (Component n fs) done stepped refl (λ none. named_next w n (component_refusal w n fs ∙ none))

-- ---- the same of an answer

module _ (stored : List Held) (before after : Option Changed) (created : Option EntityId) where
  pub some_created : (done : Result Changed CommandError) → IfOk done (λ changed. IsBorn changed.born) → AnswersCommand stored before done (Ok created) after → IsBorn created
  some_created (Ok changed) some told =
      let is : Ok created ≡ Ok changed.born = told.0 in
      let same : created ≡ changed.born = cc in
      subst IsBorn (sym same) some
  some_created (Err error) some told = let is : Ok created ≡ Err (session_error error) = told.0 in cc

  pub none_created : (done : Result Changed CommandError) → IfOk done (λ changed. changed.born ≡ None) → AnswersCommand stored before done (Ok created) after
      → AnswersCommand stored before done (Ok None) after
  none_created (Ok changed) none told = (ap Ok (sym none), told.1)
  none_created (Err error) none told = let is : Ok created ≡ Err (session_error error) = told.0 in cc
