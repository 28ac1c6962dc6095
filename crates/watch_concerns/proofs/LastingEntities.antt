-- An entity that lives before a command and after it keeps its generation and its name.
use Rattle.std.specs.Prelude.{◌≡◌, ◌≢◌, ℕ, true, List, Option, Some, None, Ok}
use Rattle.std.specs.Ordering.{nat_cmp}
use Rattle.std.proofs.Common.{refl, sym, ap, subst, ◌∙◌, inl, inr, true≢false}
use Rattle.ecs_id.specs.declared.EntityId.{EntityId}
use Rattle.ecs_model.specs.steps.Outcomes.{Changed, next_entity, with_born, with_component, with_named}
use Rattle.ecs_model.specs.Map.{Map, has_key, value_at, with_value}
use Rattle.ecs_model.specs.Schema.{Schema}
use Rattle.ecs_model.specs.Sets.{Set}
use Rattle.ecs_model.specs.World.{WorldState, is_live, name_of}
use Rattle.ecs_model.specs.steps.FactChanges.{deleted}
use Rattle.ecs_model.specs.steps.Step.{Command, Fresh, Entity, Component, Add, SetValue, Remove, Delete, effect, step, without_entities}
use Rattle.ecs_model.proofs.Maps.{nat_value_at}
use Rattle.ecs_model.proofs.Reasons.{next_is_free}
use Rattle.ecs_model.proofs.steps.Deletions.{nat_value_at-without, stays, was_there}
use Rattle.ecs_model.proofs.steps.RefusalNumbers.{accepted_step}

module _ (w : WorldState) (i : ℕ) (lives : is_live w i ≡ true) where
  -- the index has the generation and the name that it had
  abbrev pub LivesOn : WorldState → Type 0
  LivesOn v = (value_at nat_cmp v.live i ≡ value_at nat_cmp w.live i) × (name_of v i ≡ name_of w i)

  -- a new entity has another index
  apart : (e : EntityId) → next_entity w ≡ Some e → i ≢ e.index
  apart e next same = true≢false (sym lives ∙ (ap (is_live w) same ∙ (next_is_free w e next).fresh))

  beside : {X : Type 0} (m : Map ℕ X) (e : EntityId) (x : X) → next_entity w ≡ Some e → value_at nat_cmp (with_value nat_cmp m e.index x) i ≡ value_at nat_cmp m i
  beside m e x next = elim (nat_value_at m e.index x i) [ inl p ↦ absurd (apart e next p.0) | inr p ↦ p.1 ]

  fresh : (o : Option EntityId) → next_entity w ≡ o → LivesOn (with_born w o)
  unfolding with_born
  fresh None next = (refl, refl)
  fresh (Some e) next = (beside w.live e e.generation next, refl)

  named : (n : List ℕ) (o : Option EntityId) → next_entity w ≡ o → LivesOn (with_named w n o)
  unfolding with_named
  named n None next = (refl, refl)
  named n (Some e) next = (beside w.live e e.generation next, beside w.names e n next)

  component : (n : List ℕ) (s : Schema) (o : Option EntityId) → next_entity w ≡ o → LivesOn (with_component w n s o)
  unfolding with_component
  component n s None next = (refl, refl)
  component n s (Some e) next = (beside w.live e e.generation next, beside w.names e n next)

  left : (gone : Set ℕ) → is_live (without_entities w gone) i ≡ true → LivesOn (without_entities w gone)
  unfolding without_entities
  left gone l =
      let test = has_key nat_cmp gone in
      let live = nat_value_at-without w.live test i in
      let not_gone = (was_there (test i) (value_at nat_cmp (without_entities w gone).live i) (value_at nat_cmp w.live i) live l).0 in (
        stays (test i) (value_at nat_cmp (without_entities w gone).live i) (value_at nat_cmp w.live i) live not_gone,
        stays (test i) (name_of (without_entities w gone) i) (name_of w i) (nat_value_at-without w.names test i) not_gone,
      )

  effect_lives_on : (c : Command) → is_live (effect w c) i ≡ true → LivesOn (effect w c)
  unfolding effect
  effect_lives_on Fresh l = fresh (next_entity w) refl
  effect_lives_on (Entity n) l = named n (next_entity w) refl
  effect_lives_on (Component n s) l = component n s (next_entity w) refl
  effect_lives_on (Add e x) l = (refl, refl)
  effect_lives_on (SetValue e x vs) l = (refl, refl)
  effect_lives_on (Remove e x) l = (refl, refl)
  effect_lives_on (Delete e) l = left (deleted w e.index) l

  pub lives_on : (v : WorldState) (c : Command) (changed : Changed) → step w c ≡ Ok (v, changed) → is_live v i ≡ true → LivesOn v
  lives_on v c changed done l =
      let same = (accepted_step w v c changed done).1 in
      subst LivesOn (sym same) (effect_lives_on c (sym (ap (λ (u : WorldState). is_live u i) same) ∙ l))
