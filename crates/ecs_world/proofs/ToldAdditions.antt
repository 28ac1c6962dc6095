-- What an accepted `add` or `set` answers is what has changed, and what `set` writes.
use Rattle.std.proofs.Common.{◌≡◌, ℕ, true, List, [], ◌∷◌, ℤ, Option, None, Ok, sym, ap, subst, ◌∙◌, inl}
use Rattle.ecs_id.specs.declared.EntityId.{EntityId}
use Rattle.ecs_id.specs.Id.{Id}
use Rattle.ecs_model.specs.steps.Outcomes.{AnswersStep, Changed, counted, with_facts}
use Rattle.ecs_model.specs.Map.{with_value}
use Rattle.ecs_model.specs.Reach.{itself}
use Rattle.ecs_model.specs.Refusal.{first_reason}
use Rattle.ecs_model.specs.World.{WorldState, Key, holds, key_cmp, type_of_id}
use Rattle.ecs_model.specs.steps.FactChanges.{facts_after_add, new_base}
use Rattle.ecs_model.specs.steps.Step.{Add, SetValue, effect, reasons, step}
use Rattle.ecs_model.specs.steps.WellFormed.{IsWellFormed}
use Rattle.ecs_model.proofs.steps.AcceptedFacts.{accepted_add, accepted_set, add_is_addition, keeps_set}
use Rattle.ecs_model.proofs.steps.AddEffects.{differences_of_add, differences_of_set}
use Rattle.ecs_model.proofs.steps.Additions.{types_kept}
use Rattle.rel_traits.specs.Additions.{TellsAddition}
use Rattle.ecs_world.specs.Changes.{with_bytes}
use Rattle.ecs_world.specs.State.{no_change, value_in}
use Rattle.ecs_model.proofs.StepAnswers.{answers_accepted}
use Rattle.ecs_world.proofs.ChangedWorlds.{before_count}
use Rattle.ecs_world.proofs.CommandCounts.{types_counted}

module _ (w v : WorldState) (told : Changed) (e : EntityId) (i : Id) {base : Option ℕ} {all copies came went : List Key} (lists : TellsAddition w (e.index, i) base all copies came went) (h : IsWellFormed w) where
  pub addition_told : first_reason (reasons w (Add e i)) ≡ None → v ≡ counted (effect w (Add e i)) → told ≡ record no_change { came = came; went = went } → AnswersStep (Ok told) (step w (Add e i)) w v
  addition_told none left is =
      answers_accepted w (Add e i) told v none left
      (is ∙ (λ k. record no_change { came = lists.came_are k; went = lists.went_are k }) ∙ sym (differences_of_add w e i h ((accepted_add w e i h none).may).mentions))

  pub setting_told : (vs : List ℤ) → first_reason (reasons w (SetValue e i vs)) ≡ None → v ≡ counted (effect w (SetValue e i vs))
      → told ≡ record no_change { came = came; went = went; written = (e.index, i) ∷ [] } → AnswersStep (Ok told) (step w (SetValue e i vs)) w v
  setting_told vs none left is =
      answers_accepted w (SetValue e i vs) told v none left
      (is
      ∙ (λ k. record no_change { came = lists.came_are k; went = lists.went_are k; written = (e.index, i) ∷ [] })
      ∙ sym (differences_of_set w e i vs h (((accepted_set w e i vs h none).1).may).mentions))

-- of a fact whose value may be set
module _ (w : WorldState) (e : EntityId) (i : Id) (vs : List ℤ) (h : IsWellFormed w) (none : first_reason (reasons w (SetValue e i vs)) ≡ None) where
  abbrev added : WorldState
  added = with_facts w (facts_after_add w e.index i)

  -- after it was added, it is held
  pub set_held : holds added e.index i ≡ true
  set_held = (add_is_addition w e.index i h (((accepted_set w e i vs h none).1).may).mentions).there (e.index, i) (inl itself)

  -- and its id has the type that it had
  pub set_typed : type_of_id added i ≡ type_of_id w i
  set_typed =
      let ok = (accepted_set w e i vs h none).1 in
      sym (types_counted added i)
      ∙ types_kept w e.index i (new_base w e.index i) (facts_after_add w e.index i) h (add_is_addition w e.index i h (ok.may).mentions) ok.may e.index i (inl (inl itself))

  module _ (u : WorldState) (is : u ≡ added) (bytes : List ℕ) (value : value_in (type_of_id w i) bytes ≡ vs) where
    -- the world with the value written is that of the command
    pub set_state : with_bytes u e.index i bytes ≡ effect w (SetValue e i vs)
    unfolding effect
    set_state =
        ap (λ x. with_bytes x e.index i bytes) is
        ∙ ap (λ xs. record w { facts = with_value key_cmp (facts_after_add w e.index i) (e.index, i) xs }) (ap (λ t. value_in t bytes) set_typed ∙ value)

    pub set_sound : IsWellFormed (with_bytes u e.index i bytes)
    set_sound = subst IsWellFormed (sym set_state) (before_count (effect w (SetValue e i vs)) (keeps_set w e i vs h none))
