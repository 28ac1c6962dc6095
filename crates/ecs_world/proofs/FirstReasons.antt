-- The first reason against a command on facts, and against a deletion, as they are judged one after another.
use Rattle.std.proofs.Common.{◌≡◌, ℤ, true, false, not, ◌||◌, List, [], ◌∷◌, ◌++◌, Some, None, Err, sym, ap, ◌∙◌}
use Rattle.ecs_id.specs.declared.EntityId.{EntityId}
use Rattle.ecs_id.specs.Id.{Id, plain, id_eq}
use Rattle.ecs_model.specs.declared.faults.CommandError.{CommandError}
use Rattle.ecs_model.specs.declared.faults.CommandError.TheVariants.{Refused, Memory}
use Rattle.ecs_model.specs.declared.faults.Refusal.{Refusal}
use Rattle.ecs_model.specs.declared.faults.Refusal.TheVariants.{Dead, BuiltIn, TraitFixed, Full}
use Rattle.ecs_model.specs.steps.Outcomes.{is_dead, is_spent, value_reasons, AnswersStep}
use Rattle.ecs_model.specs.Refusal.{first_reason}
use Rattle.ecs_model.specs.World.{WorldState, component, is_alive, is_built_in, type_of_id}
use Rattle.ecs_model.specs.steps.FactChanges.{deleted}
use Rattle.ecs_model.specs.steps.Step.{Add, SetValue, Remove, Delete, add_reasons, adds_built_in, delete_reasons, reasons, step}
use Rattle.ecs_model.specs.steps.Rules.{is_trait}
use Rattle.ecs_world.specs.Changes.{TellsRefusal, fact_reasons}
use Rattle.ecs_model.proofs.StepAnswers.{answers_refused}
use Rattle.ecs_world.proofs.RefusalReasons.{none_first, told_first}

module _ (w : WorldState) (e : EntityId) (i : Id) where
  pub fact_of_dead : is_dead w e i ≡ true → first_reason (fact_reasons w e i) ≡ Some Dead
  fact_of_dead d = ap (λ b. first_reason ((b, Dead) ∷ (adds_built_in w e.index i, BuiltIn) ∷ [])) d

  pub fact_of_built_in : is_dead w e i ≡ false → adds_built_in w e.index i ≡ true → first_reason (fact_reasons w e i) ≡ Some BuiltIn
  fact_of_built_in d b = λ k. first_reason ((d k, Dead) ∷ (b k, BuiltIn) ∷ [])

  -- a reason against the fact is the first against its addition
  add_first : (r : Refusal) → first_reason (fact_reasons w e i) ≡ Some r → first_reason (reasons w (Add e i)) ≡ Some r
  unfolding reasons
  add_first r told = sym (told_first (fact_reasons w e i) (add_reasons w e.index i) r (sym told))

  -- otherwise it is what is against the facts that would be left
  pub add_otherwise : is_dead w e i ≡ false → adds_built_in w e.index i ≡ false → first_reason (reasons w (Add e i)) ≡ first_reason (add_reasons w e.index i)
  unfolding reasons
  add_otherwise d b = λ k. first_reason ((d k, Dead) ∷ (b k, BuiltIn) ∷ add_reasons w e.index i)

  pub answers_unadded : (v : WorldState) (fault : CommandError) → TellsRefusal (first_reason (fact_reasons w e i)) fault → v ≡ w → AnswersStep (Err fault) (step w (Add e i)) w v
  answers_unadded v (Refused r) told is = answers_refused w (Add e i) r v (add_first r told) is
  answers_unadded v Memory told is = is

  pub answers_unbrought : (v : WorldState) (fault : CommandError) → is_dead w e i ≡ false → adds_built_in w e.index i ≡ false → TellsRefusal (first_reason (add_reasons w e.index i)) fault → v ≡ w
      → AnswersStep (Err fault) (step w (Add e i)) w v
  answers_unbrought v (Refused r) d b told is = answers_refused w (Add e i) r v (add_otherwise d b ∙ told) is
  answers_unbrought v Memory d b told is = is

  module _ (vs : List ℤ) where
    set_first : (r : Refusal) → first_reason (fact_reasons w e i) ≡ Some r → first_reason (reasons w (SetValue e i vs)) ≡ Some r
    unfolding reasons
    set_first r told = sym (told_first (fact_reasons w e i) (value_reasons (type_of_id w i) vs ++ add_reasons w e.index i) r (sym told))

    set_otherwise : is_dead w e i ≡ false → adds_built_in w e.index i ≡ false → first_reason (reasons w (SetValue e i vs)) ≡ first_reason (value_reasons (type_of_id w i) vs ++ add_reasons w e.index i)
    unfolding reasons
    set_otherwise d b = λ k. first_reason ((d k, Dead) ∷ (b k, BuiltIn) ∷ (value_reasons (type_of_id w i) vs ++ add_reasons w e.index i))

    -- otherwise it is what is against the value
    pub set_no_value : is_dead w e i ≡ false → adds_built_in w e.index i ≡ false → (r : Refusal) → first_reason (value_reasons (type_of_id w i) vs) ≡ Some r → first_reason (reasons w (SetValue e i vs)) ≡ Some r
    set_no_value d b r told = set_otherwise d b ∙ sym (told_first (value_reasons (type_of_id w i) vs) (add_reasons w e.index i) r (sym told))

    -- and where nothing is, it is what is against the facts that would be left
    pub set_value : is_dead w e i ≡ false → adds_built_in w e.index i ≡ false → first_reason (value_reasons (type_of_id w i) vs) ≡ None
        → first_reason (reasons w (SetValue e i vs)) ≡ first_reason (add_reasons w e.index i)
    set_value d b none = set_otherwise d b ∙ sym (none_first (value_reasons (type_of_id w i) vs) (add_reasons w e.index i) (sym none))

    pub answers_unset : (v : WorldState) (fault : CommandError) → TellsRefusal (first_reason (fact_reasons w e i)) fault → v ≡ w → AnswersStep (Err fault) (step w (SetValue e i vs)) w v
    answers_unset v (Refused r) told is = answers_refused w (SetValue e i vs) r v (set_first r told) is
    answers_unset v Memory told is = is

    pub answers_unbrought_value : (v : WorldState) (fault : CommandError) → is_dead w e i ≡ false → adds_built_in w e.index i ≡ false → first_reason (value_reasons (type_of_id w i) vs) ≡ None
        → TellsRefusal (first_reason (add_reasons w e.index i)) fault → v ≡ w → AnswersStep (Err fault) (step w (SetValue e i vs)) w v
    answers_unbrought_value v (Refused r) d b none told is = answers_refused w (SetValue e i vs) r v (set_value d b none ∙ told) is
    answers_unbrought_value v Memory d b none told is = is

  pub remove_of_dead : is_dead w e i ≡ true → first_reason (reasons w (Remove e i)) ≡ Some Dead
  unfolding reasons
  remove_of_dead d = ap (λ b. first_reason ((b, Dead) ∷ (is_built_in e.index || id_eq i (plain component), BuiltIn) ∷ (is_trait i, TraitFixed) ∷ (is_spent w, Full) ∷ [])) d

module _ (w : WorldState) (e : EntityId) where
  pub delete_of_dead : is_alive w e ≡ false → first_reason (reasons w (Delete e)) ≡ Some Dead
  unfolding reasons
  delete_of_dead d = ap (λ b. first_reason ((not b, Dead) ∷ (is_built_in e.index, BuiltIn) ∷ delete_reasons w (deleted w e.index))) d

  pub delete_of_built_in : is_alive w e ≡ true → is_built_in e.index ≡ true → first_reason (reasons w (Delete e)) ≡ Some BuiltIn
  unfolding reasons
  delete_of_built_in d b = λ k. first_reason ((not (d k), Dead) ∷ (b k, BuiltIn) ∷ delete_reasons w (deleted w e.index))

  -- otherwise it is what is against the deletion of all who fall with it
  pub delete_otherwise : is_alive w e ≡ true → is_built_in e.index ≡ false → first_reason (reasons w (Delete e)) ≡ first_reason (delete_reasons w (deleted w e.index))
  unfolding reasons
  delete_otherwise d b = λ k. first_reason ((not (d k), Dead) ∷ (b k, BuiltIn) ∷ delete_reasons w (deleted w e.index))

  pub answers_undeleted : (v : WorldState) (fault : CommandError) → is_alive w e ≡ true → is_built_in e.index ≡ false → TellsRefusal (first_reason (delete_reasons w (deleted w e.index))) fault → v ≡ w
      → AnswersStep (Err fault) (step w (Delete e)) w v
  answers_undeleted v (Refused r) d b told is = answers_refused w (Delete e) r v (delete_otherwise d b ∙ told) is
  answers_undeleted v Memory d b told is = is
