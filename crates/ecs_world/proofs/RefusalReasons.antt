-- The first reason that applies, one after another.
use Rattle.std.proofs.Common.{◌≡◌, ◌≢◌, ℤ, Bool, true, false, not, ◌||◌, is_some, length, List, [], ◌∷◌, ◌++◌, Option, Some, None, sym, ap, ◌∙◌, refl}
use Rattle.ecs_model.specs.declared.faults.Refusal.{Refusal}
use Rattle.ecs_model.specs.declared.faults.Refusal.TheVariants.{Dead, BuiltIn, TooManyIds, Full}
use Rattle.ecs_id.specs.declared.EntityId.{EntityId}
use Rattle.ecs_id.specs.Id.{Id, mentioned}
use Rattle.std.specs.List.{list_all}
use Rattle.std.specs.Ordering.{nat_cmp}
use Rattle.std.proofs.Math.Bool.{or-true}
use Rattle.ecs_model.specs.Refusal.{first_reason}
use Rattle.ecs_model.specs.steps.WellFormed.{IsWellFormed}
use Rattle.ecs_model.specs.Map.{value_at}
use Rattle.ecs_model.specs.World.{WorldState, holds, ids_of, is_alive, is_live, type_of_id}
use Rattle.ecs_model.specs.steps.Outcomes.{is_dead, is_spent, value_reasons}
use Rattle.ecs_model.specs.steps.Step.{Add, SetValue, reasons, add_reasons, adds_built_in}
use Rattle.ecs_archetypes.specs.declared.facts.FoundFact.{FoundFact}
use Rattle.ecs_world.specs.State.{growth_reasons}
use Rattle.ecs_world.proofs.IdCounts.{crowds}
use Rattle.rel_traits.specs.Simple.{ComesAlone}
use Rattle.ecs_world.proofs.Entities.{generation_of}
use Rattle.ecs_world.proofs.SimpleFacts.{growth_alone}

pub told : (b : Bool) (r : Refusal) (rs : List (Bool × Refusal)) → b ≡ true → Some r ≡ first_reason ((b, r) ∷ rs)
told b r rs h = ap (λ b. first_reason ((b, r) ∷ rs)) (sym h)

pub passed_over : (b : Bool) (r : Refusal) (rs : List (Bool × Refusal)) → b ≡ false → first_reason rs ≡ first_reason ((b, r) ∷ rs)
passed_over b r rs h = ap (λ b. first_reason ((b, r) ∷ rs)) (sym h)

-- what holds of the first reasons holds of all
pub told_first : (rs ss : List (Bool × Refusal)) (r : Refusal) → Some r ≡ first_reason rs → Some r ≡ first_reason (rs ++ ss)
told_first [] ss r h = absurd (cc)
told_first ((true, q) ∷ rs) ss r h = h
told_first ((false, q) ∷ rs) ss r h = told_first rs ss r h

-- without any among the first, the later ones decide
pub none_first : (rs ss : List (Bool × Refusal)) → None ≡ first_reason rs → first_reason ss ≡ first_reason (rs ++ ss)
none_first [] ss h = refl
none_first ((true, q) ∷ rs) ss h = absurd (cc)
none_first ((false, q) ∷ rs) ss h = none_first rs ss h

module _ (w : WorldState) (e : EntityId) (i : Id) where
  pub entity_dead : is_alive w e ≡ false → is_dead w e i ≡ true
  entity_dead h = ap (λ b. not b || not (list_all (is_live w) (mentioned i))) h

  pub mention_dead : list_all (is_live w) (mentioned i) ≡ false → is_dead w e i ≡ true
  mention_dead h = ap (λ b. not (is_alive w e) || not b) h ∙ or-true (not (is_alive w e))

  pub not_dead : is_alive w e ≡ true → list_all (is_live w) (mentioned i) ≡ true → is_dead w e i ≡ false
  not_dead alive mentions = λ k. not (alive k) || not (mentions k)

  -- of an entity of which this was found, where nothing else comes with the id
  pub growth_told : (found : FoundFact) → ComesAlone (ids_of w) (e.index, i) → IsWellFormed w → is_alive w e ≡ true → found.is_held ≡ holds w e.index i → found.count ≡ length (ids_of w e.index)
      → is_dead w e i ≡ false → adds_built_in w e.index i ≡ false → first_reason (growth_reasons found (is_spent w)) ≡ first_reason (add_reasons w e.index i)
  growth_told found alone sound alive held counted dead own =
      ap (λ b. first_reason ((b, TooManyIds) ∷ (is_spent w, Full) ∷ []))
      (crowds w e.index i sound found.is_held found.count (ap is_some (generation_of (value_at nat_cmp w.live e.index) e.generation alive)) held counted)
      ∙ sym (growth_alone w e i alone sound dead own)

  pub add_dead : is_dead w e i ≡ true → Some Dead ≡ first_reason (reasons w (Add e i))
  unfolding reasons
  add_dead d = told (is_dead w e i) Dead ((adds_built_in w e.index i, BuiltIn) ∷ add_reasons w e.index i) d

  pub add_built_in : is_dead w e i ≡ false → adds_built_in w e.index i ≡ true → Some BuiltIn ≡ first_reason (reasons w (Add e i))
  unfolding reasons
  add_built_in d b =
      told (adds_built_in w e.index i) BuiltIn (add_reasons w e.index i) b ∙ passed_over (is_dead w e i) Dead ((adds_built_in w e.index i, BuiltIn) ∷ add_reasons w e.index i) d

  pub add_grown : (o : Option Refusal) → is_dead w e i ≡ false → adds_built_in w e.index i ≡ false → o ≡ first_reason (add_reasons w e.index i) → o ≡ first_reason (reasons w (Add e i))
  unfolding reasons
  add_grown o d b g =
      g ∙ passed_over (adds_built_in w e.index i) BuiltIn (add_reasons w e.index i) b ∙ passed_over (is_dead w e i) Dead ((adds_built_in w e.index i, BuiltIn) ∷ add_reasons w e.index i) d

  module _ (vs : List ℤ) where
    abbrev value_first : List (Bool × Refusal)
    value_first = value_reasons (type_of_id w i) vs

    abbrev later : List (Bool × Refusal)
    later = value_first ++ add_reasons w e.index i

    pub set_dead : is_dead w e i ≡ true → Some Dead ≡ first_reason (reasons w (SetValue e i vs))
    unfolding reasons
    set_dead d = told (is_dead w e i) Dead ((adds_built_in w e.index i, BuiltIn) ∷ later) d

    pub set_built_in : is_dead w e i ≡ false → adds_built_in w e.index i ≡ true → Some BuiltIn ≡ first_reason (reasons w (SetValue e i vs))
    unfolding reasons
    set_built_in d b = told (adds_built_in w e.index i) BuiltIn later b ∙ passed_over (is_dead w e i) Dead ((adds_built_in w e.index i, BuiltIn) ∷ later) d

    set_later : (o : Option Refusal) → is_dead w e i ≡ false → adds_built_in w e.index i ≡ false → o ≡ first_reason later → o ≡ first_reason (reasons w (SetValue e i vs))
    unfolding reasons
    set_later o d b g = g ∙ passed_over (adds_built_in w e.index i) BuiltIn later b ∙ passed_over (is_dead w e i) Dead ((adds_built_in w e.index i, BuiltIn) ∷ later) d

    pub set_grown : (o : Option Refusal) → is_dead w e i ≡ false → adds_built_in w e.index i ≡ false → None ≡ first_reason value_first → o ≡ first_reason (add_reasons w e.index i)
        → o ≡ first_reason (reasons w (SetValue e i vs))
    set_grown o d b n g = set_later o d b (g ∙ none_first value_first (add_reasons w e.index i) n)

    pub set_valued : (o : Option Refusal) → is_dead w e i ≡ false → adds_built_in w e.index i ≡ false → o ≢ None → o ≡ first_reason value_first
        → o ≡ first_reason (reasons w (SetValue e i vs))
    set_valued None d b some v = absurd (some refl)
    set_valued (Some r) d b some v = set_later (Some r) d b (told_first value_first (add_reasons w e.index i) r v)
