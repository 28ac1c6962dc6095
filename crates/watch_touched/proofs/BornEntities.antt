-- Of those who live after a command, exactly who was born didn't live before.
use Rattle.std.specs.Prelude.{◌≡◌, ℕ, ◌==◌, Bool, true, false, not, List, Option, Some, None, Ok, is_some}
use Rattle.std.specs.Option.{option_map_or}
use Rattle.std.specs.Ordering.{nat_cmp}
use Rattle.std.proofs.Common.{◌≢◌, refl, sym, ap, ◌∙◌, inl, inr, true≢false}
use Rattle.ecs_id.specs.declared.EntityId.{EntityId}
use Rattle.ecs_model.specs.steps.Outcomes.{Changed, next_entity, with_born, with_component, with_named}
use Rattle.ecs_model.specs.Map.{has_key, value_at}
use Rattle.ecs_model.specs.Schema.{Schema}
use Rattle.ecs_model.specs.Sets.{Set}
use Rattle.ecs_model.specs.World.{WorldState, is_live}
use Rattle.ecs_model.specs.steps.FactChanges.{deleted}
use Rattle.ecs_model.specs.steps.Step.{Command, Fresh, Entity, Component, Add, SetValue, Remove, Delete, effect, step, without_entities}
use Rattle.ecs_model.specs.steps.StepLaws.{made_by}
use Rattle.ecs_model.proofs.Maps.{nat_value_at}
use Rattle.ecs_model.proofs.Members.{eq_itself, eq_same}
use Rattle.ecs_model.proofs.Reasons.{next_is_free}
use Rattle.ecs_model.proofs.steps.BornEntities.{born_is_made}
use Rattle.ecs_model.proofs.steps.Deletions.{nat_value_at-without, was_there}
use Rattle.ecs_model.proofs.steps.RefusalNumbers.{accepted_step}

module _ (w : WorldState) (i : ℕ) where
  -- an entity is the one at this index
  abbrev is_here : Option EntityId → Bool
  is_here born = option_map_or (λ e. e.index == i) born false

  -- if it lives now, it was born exactly if it didn't live before
  abbrev IsToldNew : WorldState → Option EntityId → Type 0
  IsToldNew v born = is_live v i ≡ true → is_here born ≡ not (is_live w i)

  old : (lives : is_live w i ≡ true) → is_here None ≡ not (is_live w i)
  old lives = ap not (sym lives)

  module _ (e : EntityId) (next : next_entity w ≡ Some e) where
    new : is_some (value_at nat_cmp (with_born w (Some e)).live i) ≡ true → is_here (Some e) ≡ not (is_live w i)
    unfolding with_born
    new lives = elim (nat_value_at w.live e.index e.generation i) [ inl p ↦ it p.0 | inr p ↦ other p.0 (sym (ap is_some p.1) ∙ lives) ]
      where
        it : i ≡ e.index → is_here (Some e) ≡ not (is_live w i)
        it same = ap (λ j. e.index == j) same ∙ eq_itself e.index ∙ ap not (sym (ap (is_live w) same ∙ (next_is_free w e next).fresh))

        other : i ≢ e.index → is_live w i ≡ true → is_here (Some e) ≡ not (is_live w i)
        other apart lived = by (e.index == i) refl
          where
            by : (b : Bool) → (e.index == i) ≡ b → b ≡ not (is_live w i)
            by true same = absurd (apart (sym (eq_same e.index i same)))
            by false different = old lived

  fresh : (o : Option EntityId) → next_entity w ≡ o → IsToldNew (with_born w o) o
  unfolding with_born
  fresh None next lives = old lives
  fresh (Some e) next lives = new e next lives

  named : (n : List ℕ) (o : Option EntityId) → next_entity w ≡ o → IsToldNew (with_named w n o) o
  unfolding with_named with_born
  named n None next lives = old lives
  named n (Some e) next lives = new e next lives

  component : (n : List ℕ) (s : Schema) (o : Option EntityId) → next_entity w ≡ o → IsToldNew (with_component w n s o) o
  unfolding with_component with_born
  component n s None next lives = old lives
  component n s (Some e) next lives = new e next lives

  left : (gone : Set ℕ) → IsToldNew (without_entities w gone) None
  unfolding without_entities
  left gone lives =
      old (was_there (has_key nat_cmp gone i) (value_at nat_cmp (without_entities w gone).live i) (value_at nat_cmp w.live i) (nat_value_at-without w.live (has_key nat_cmp gone) i) lives).1

  effect_tells : (c : Command) → IsToldNew (effect w c) (made_by w c)
  unfolding effect
  effect_tells Fresh = fresh (next_entity w) refl
  effect_tells (Entity n) = named n (next_entity w) refl
  effect_tells (Component n s) = component n s (next_entity w) refl
  effect_tells (Add e x) = old
  effect_tells (SetValue e x vs) = old
  effect_tells (Remove e x) = old
  effect_tells (Delete e) = left (deleted w e.index)

  pub newborn : (v : WorldState) (c : Command) (changed : Changed) → step w c ≡ Ok (v, changed) → is_live v i ≡ true
      → is_here changed.born ≡ not (is_live w i)
  newborn v c changed done lives =
      ap is_here (born_is_made w v c changed done)
      ∙ effect_tells c (sym (ap (λ (u : WorldState). is_live u i) (accepted_step w v c changed done).1) ∙ lives)

  -- and who was born didn't live before
  made_fresh : (o : Option EntityId) → next_entity w ≡ o → is_here o ≡ true → is_live w i ≡ false
  made_fresh None next here = absurd (true≢false (sym here))
  made_fresh (Some e) next here = sym (ap (is_live w) (eq_same e.index i here)) ∙ (next_is_free w e next).fresh

  no_one : is_here None ≡ true → is_live w i ≡ false
  no_one here = absurd (true≢false (sym here))

  made_by_fresh : (c : Command) → is_here (made_by w c) ≡ true → is_live w i ≡ false
  made_by_fresh Fresh = made_fresh (next_entity w) refl
  made_by_fresh (Entity n) = made_fresh (next_entity w) refl
  made_by_fresh (Component n s) = made_fresh (next_entity w) refl
  made_by_fresh (Add e x) = no_one
  made_by_fresh (SetValue e x vs) = no_one
  made_by_fresh (Remove e x) = no_one
  made_by_fresh (Delete e) = no_one

  pub born_fresh : (v : WorldState) (c : Command) (changed : Changed) → step w c ≡ Ok (v, changed) → is_here changed.born ≡ true → is_live w i ≡ false
  born_fresh v c changed done here = made_by_fresh c (sym (ap is_here (born_is_made w v c changed done)) ∙ here)
