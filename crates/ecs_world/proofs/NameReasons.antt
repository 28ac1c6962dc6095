-- What the index of names answers of a new name is what the reasons against it say.
use Rattle.std.proofs.Common.{◌≡◌, ℕ, true, not, List, [], ◌∷◌, ◌++◌, Some, None, Err, is_some, sym, ap, ◌∙◌}
use Rattle.std.specs.FinMap as finite
use Rattle.ecs_id.specs.declared.EntityId.{EntityId}
use Rattle.ecs_model.specs.declared.faults.CommandError.{CommandError}
use Rattle.ecs_model.specs.declared.faults.CommandError.TheVariants.{Refused, Memory}
use Rattle.ecs_model.specs.declared.faults.Refusal.{Refusal}
use Rattle.ecs_model.specs.declared.faults.Refusal.TheVariants.{BadName, NameTaken}
use Rattle.ecs_model.specs.steps.Outcomes.{AnswersStep, birth_reasons, name_reasons}
use Rattle.ecs_model.specs.steps.Step.{Component, Entity, reasons, step}
use Rattle.ecs_model.specs.Refusal.{first_reason}
use Rattle.ecs_model.specs.Schema.{Schema}
use Rattle.ecs_model.specs.Text.{is_name}
use Rattle.ecs_model.specs.World.{WorldState, named}
use Rattle.ecs_model.proofs.StepAnswers.{answers_refused}
use Rattle.ecs_world.specs.State.{IsUnbound, IsWorld, Parts, state_of}
use Rattle.ecs_world.proofs.JudgedCommands.{component_refusal, entity_refusal}
use Rattle.ecs_world.proofs.NameLists.{named_got}
use Rattle.ecs_world.proofs.RefusalReasons.{told_first}
use Rattle.ecs_world.proofs.States.{AreNamed-world, copied}

module _ {parts : Parts} (world : IsWorld parts) {v : WorldState} (is : state_of parts ≡ v) (n : List ℕ) where
  taken : is_some (finite.get parts.names n) ≡ is_some (named v n)
  taken = sym (copied (λ (e : EntityId). e.index) (finite.get parts.names n)) ∙ ap is_some (named_got parts.names (parts.holdings).live (AreNamed-world world) n) ∙ ap (λ u. is_some (named u n)) is

  told_name : first_reason ((not (is_name n), BadName) ∷ (is_some (finite.get parts.names n), NameTaken) ∷ []) ≡ first_reason (name_reasons v n)
  told_name = ap (λ b. first_reason ((not (is_name n), BadName) ∷ (b, NameTaken) ∷ [])) taken

  unbound_by : (r : Refusal) → IsUnbound parts.names n (Refused r) → Some r ≡ first_reason (name_reasons v n ++ birth_reasons v)
  unbound_by r h = told_first (name_reasons v n) (birth_reasons v) r (sym h ∙ told_name)

  -- a name that is bound has no reason against it
  none_bound : is_name n ≡ true → finite.get parts.names n ≡ None → first_reason (birth_reasons v) ≡ None → first_reason (name_reasons v n ++ birth_reasons v) ≡ None
  none_bound proper free none = (λ k. first_reason ((not (proper k), BadName) ∷ ((sym taken ∙ ap is_some free) k, NameTaken) ∷ birth_reasons v)) ∙ none

  pub none_entity : (is_name n ≡ true) × (finite.get parts.names n ≡ None) → first_reason (birth_reasons v) ≡ None → first_reason (reasons v (Entity n)) ≡ None
  none_entity bound none = sym (entity_refusal v n) ∙ none_bound bound.0 bound.1 none

  pub none_component : (fs : Schema) → (is_name n ≡ true) × (finite.get parts.names n ≡ None) → first_reason (birth_reasons v) ≡ None → first_reason (reasons v (Component n fs)) ≡ None
  none_component fs bound none = sym (component_refusal v n fs) ∙ none_bound bound.0 bound.1 none

  pub unbound_entity : (error : CommandError) → IsUnbound parts.names n error → (u : WorldState) → u ≡ v → AnswersStep (Err error) (step v (Entity n)) v u
  unbound_entity (Refused r) h u same = answers_refused v (Entity n) r u (sym (unbound_by r h ∙ entity_refusal v n)) same
  unbound_entity Memory h u same = same

  pub unbound_component : (fs : Schema) (error : CommandError) → IsUnbound parts.names n error → (u : WorldState) → u ≡ v → AnswersStep (Err error) (step v (Component n fs)) v u
  unbound_component fs (Refused r) h u same = answers_refused v (Component n fs) r u (sym (unbound_by r h ∙ component_refusal v n fs)) same
  unbound_component fs Memory h u same = same
