-- What is known of a command against which there is no reason.
use Rattle.std.proofs.Common.{◌≡◌, ℕ, Bool, true, false, not, ◌||◌, ℤ, List, [], ◌∷◌, ◌++◌, Option, Some, None, is_some, is_none, refl, sym, ap, ◌∙◌, true≢false}
use Rattle.std.specs.List.{list_all}
use Rattle.ecs_id.specs.declared.EntityId.{EntityId}
use Rattle.ecs_id.specs.Id.{Id, mentioned}
use Rattle.ecs_model.specs.declared.faults.Refusal.{Refusal}
use Rattle.ecs_model.specs.declared.faults.Refusal.TheVariants.{Dead, BuiltIn, TraitFixed, Cycle, TooManyIds, Full}
use Rattle.ecs_model.specs.Refusal.{first_reason}
use Rattle.ecs_model.specs.Schema.{Schema}
use Rattle.ecs_model.specs.World.{WorldState, type_of_id, is_alive, is_live}
use Rattle.ecs_model.specs.steps.Outcomes.{is_dead, is_spent, is_crowded, with_facts, value_reasons, birth_reasons, name_reasons, next_entity}
use Rattle.ecs_model.specs.steps.FactChanges.{facts_after_add}
use Rattle.ecs_model.specs.steps.Step.{Fresh, Entity, Component, Add, SetValue, Remove, reasons, add_reasons, adds_built_in, changes_trait, has_cycle}
use Rattle.ecs_model.specs.steps.Rules.{is_trait}
use Rattle.rel_traits.specs.Additions.{is_of_built_in}
use Rattle.ecs_model.proofs.Reasons.{passed, neither, denied}
use Rattle.ecs_world.proofs.RefusalReasons.{passed_over}

-- without any reason there is none among the first, and none among the later ones
none_of_both : (rs ss : List (Bool × Refusal)) → first_reason (rs ++ ss) ≡ None → (first_reason rs ≡ None) × (first_reason ss ≡ None)
none_of_both [] ss h = (refl, h)
none_of_both ((true, q) ∷ rs) ss h = (h, absurd (true≢false (ap is_some h)))
none_of_both ((false, q) ∷ rs) ss h = none_of_both rs ss h

-- the fact of a live entity, with an id of live indexes that is no trait
pub record CanChange (w : WorldState) (e : EntityId) (i : Id) : Type 0 where
  pub alive : is_alive w e ≡ true
  pub mentions : list_all (is_live w) (mentioned i) ≡ true
  pub no_trait : is_trait i ≡ false
  pub room : is_spent w ≡ false

module _ (w : WorldState) (e : EntityId) (i : Id) where
  pub living : is_dead w e i ≡ false → (is_alive w e ≡ true) × (list_all (is_live w) (mentioned i) ≡ true)
  living dead =
      let parts = neither (not (is_alive w e)) (not (list_all (is_live w) (mentioned i))) dead in
      (denied (is_alive w e) parts.0, denied (list_all (is_live w) (mentioned i)) parts.1)

  judged : is_dead w e i ≡ false → is_trait i ≡ false → is_spent w ≡ false → CanChange w e i
  judged dead no_trait spent = let live = living dead in record { alive = live.0; mentions = live.1; no_trait = no_trait; room = spent }

  add_parts : (own : Bool) (rs : List (Bool × Refusal)) → first_reason ((is_dead w e i, Dead) ∷ (own, BuiltIn) ∷ rs) ≡ None → (is_dead w e i ≡ false) × (own ≡ false) × (first_reason rs ≡ None)
  add_parts own rs none =
      let live = passed (is_dead w e i) Dead ((own, BuiltIn) ∷ rs) none in
      let rest = passed own BuiltIn rs live.1 in
      (live.0, rest.0, rest.1)

  unspent : first_reason (add_reasons w e.index i) ≡ None → is_spent w ≡ false
  unspent none =
      let left : WorldState = with_facts w (facts_after_add w e.index i) in
      let fixed = passed (changes_trait w e.index i) TraitFixed ((has_cycle left, Cycle) ∷ (is_crowded left, TooManyIds) ∷ (is_spent w, Full) ∷ []) none in
      let acyclic = passed (has_cycle left) Cycle ((is_crowded left, TooManyIds) ∷ (is_spent w, Full) ∷ []) fixed.1 in
      let few = passed (is_crowded left) TooManyIds ((is_spent w, Full) ∷ []) acyclic.1 in
      (passed (is_spent w) Full [] few.1).0

  pub judged-add : is_trait i ≡ false → first_reason (reasons w (Add e i)) ≡ None → CanChange w e i
  unfolding reasons
  judged-add no_trait none = let parts = add_parts (adds_built_in w e.index i) (add_reasons w e.index i) none in judged parts.0 no_trait (unspent parts.2)

  -- of a live entity
  pub alive-add : first_reason (reasons w (Add e i)) ≡ None → is_alive w e ≡ true
  unfolding reasons
  alive-add none = (living (add_parts (adds_built_in w e.index i) (add_reasons w e.index i) none).0).0

  abbrev fixed_reasons : List (Bool × Refusal)
  fixed_reasons = (is_trait i, TraitFixed) ∷ (is_spent w, Full) ∷ []

  pub judged-remove : first_reason (reasons w (Remove e i)) ≡ None → CanChange w e i
  unfolding reasons
  judged-remove none =
      let parts = add_parts (is_of_built_in (e.index, i)) fixed_reasons none in
      let fixed = passed (is_trait i) TraitFixed ((is_spent w, Full) ∷ []) parts.2 in
      judged parts.0 fixed.0 (passed (is_spent w) Full [] fixed.1).0

  -- what may be set may be added
  pub add_of_set : (vs : List ℤ) → first_reason (reasons w (SetValue e i vs)) ≡ None → (first_reason (value_reasons (type_of_id w i) vs) ≡ None) × (first_reason (reasons w (Add e i)) ≡ None)
  unfolding reasons
  add_of_set vs none =
      let parts = add_parts (adds_built_in w e.index i) (value_reasons (type_of_id w i) vs ++ add_reasons w e.index i) none in
      let both = none_of_both (value_reasons (type_of_id w i) vs) (add_reasons w e.index i) parts.2 in (
        both.0,
        sym (sym both.1 ∙ passed_over (adds_built_in w e.index i) BuiltIn (add_reasons w e.index i) parts.1 ∙ passed_over (is_dead w e i) Dead ((adds_built_in w e.index i, BuiltIn) ∷ add_reasons w e.index i) parts.0),
      )

  pub remove_dead : is_dead w e i ≡ true → Some Dead ≡ first_reason (reasons w (Remove e i))
  unfolding reasons
  remove_dead d = ap (λ b. first_reason ((b, Dead) ∷ (is_of_built_in (e.index, i), BuiltIn) ∷ fixed_reasons)) (sym d)

  pub remove_later : (o : Option Refusal) → is_dead w e i ≡ false → o ≡ first_reason ((is_of_built_in (e.index, i), BuiltIn) ∷ fixed_reasons) → o ≡ first_reason (reasons w (Remove e i))
  unfolding reasons
  remove_later o d is = is ∙ ap (λ b. first_reason ((b, Dead) ∷ (is_of_built_in (e.index, i), BuiltIn) ∷ fixed_reasons)) (sym d)

-- an entity can be made
pub record CanBear (w : WorldState) : Type 0 where
  pub next : (e : EntityId) × (next_entity w ≡ Some e)
  pub room : is_spent w ≡ false

there : (o : Option EntityId) → is_none o ≡ false → (e : EntityId) × (o ≡ Some e)
there None h = absurd (true≢false h)
there (Some e) h = (e, refl)

-- where there is no reason against a birth, there is room
pub births : (w : WorldState) → first_reason (birth_reasons w) ≡ None → CanBear w
births w none =
    let parts = neither (is_none (next_entity w)) (is_spent w) (passed (is_none (next_entity w) || is_spent w) Full [] none).0 in
    record { next = there (next_entity w) parts.0; room = parts.1 }

pub fresh_refusal : (w : WorldState) → first_reason (birth_reasons w) ≡ first_reason (reasons w Fresh)
unfolding reasons
fresh_refusal w = refl

pub entity_refusal : (w : WorldState) (n : List ℕ) → first_reason (name_reasons w n ++ birth_reasons w) ≡ first_reason (reasons w (Entity n))
unfolding reasons
entity_refusal w n = refl

pub component_refusal : (w : WorldState) (n : List ℕ) (fs : Schema) → first_reason (name_reasons w n ++ birth_reasons w) ≡ first_reason (reasons w (Component n fs))
unfolding reasons
component_refusal w n fs = refl
