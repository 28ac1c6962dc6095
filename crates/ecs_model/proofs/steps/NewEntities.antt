-- What traits ask stays so where an entity or a component is made, and so the world stays well formed.
use Rattle.std.specs.Prelude.{◌≡◌, ◌≢◌, ℕ, Bool, true, false, not, ◌||◌, List, [], ◌∷◌, Option, Some, None, is_some, is_none}
use Rattle.std.proofs.Common.{refl, sym, ap, ◌∙◌, inl, inr, true≢false}
use Rattle.ecs_id.specs.declared.EntityId.{EntityId}
use Rattle.ecs_id.specs.Id.{Id, plain, pair}
use Rattle.ecs_model.specs.declared.faults.Refusal.TheVariants.{BadName, NameTaken, Full}
use Rattle.ecs_model.specs.steps.Outcomes.{counted, is_spent, next_entity, with_born, with_named, with_component, birth_reasons}
use Rattle.ecs_model.specs.Map.{has_key, with_value}
use Rattle.ecs_model.specs.Refusal.{first_reason}
use Rattle.ecs_model.specs.Schema.{Schema, schema_fault}
use Rattle.ecs_model.specs.Text.{is_name}
use Rattle.ecs_model.specs.World.{WorldState, Key, key_cmp, component, named}
use Rattle.ecs_model.specs.steps.Step.{Fresh, Entity, Component, reasons, effect}
use Rattle.ecs_model.specs.steps.WellFormed.{KeepsTraits, IsWellFormed}
use Rattle.ecs_model.specs.steps.Rules.{is_trait}
use Rattle.ecs_model.proofs.Maps.{fact_value_at}
use Rattle.ecs_model.proofs.Reasons.{passed, neither, denied}
use Rattle.ecs_model.proofs.MadeEntities as made
use Rattle.ecs_model.proofs.steps.FewerPairs.{fewer_keep}

-- they speak of facts alone
pub same_facts_keep : (w v : WorldState) → KeepsTraits w → v.facts ≡ w.facts → KeepsTraits v
same_facts_keep w v h same =
    let alike = λ (k : Key). ap (λ m. has_key key_cmp m k) same in
    fewer_keep w v h
    (record {
      pairs = λ e r t p. sym (alike (e, pair r t)) ∙ p;
      traits = λ r c i p. sym (alike (r, plain c)) ∙ p;
      mirrors = λ e r t s p m. alike (t, pair r e) ∙ m;
      acyclics = λ r p a. alike (r, plain 10) ∙ a;
    })

abbrev is_pair : Id → Bool
is_pair (plain c) = false
is_pair (pair r t) = true

-- and not of the tag of components
tagged_keep : (w v : WorldState) (i : ℕ) → KeepsTraits w → v.facts ≡ with_value key_cmp w.facts (i, plain component) [] → KeepsTraits v
tagged_keep w v i h tagged =
    fewer_keep w v h
    (record {
      pairs = λ e r t p. was (e, pair r t) (λ q. true≢false (ap (λ j. is_pair j.1) q)) p;
      traits = λ r c k p. was (r, plain c) (λ q. true≢false (sym k ∙ ap (λ j. is_trait j.1) q)) p;
      mirrors = λ e r t s p m. still (t, pair r e) m;
      acyclics = λ r p a. still (r, plain 10) a;
    })
  where
    was : (k : Key) → k ≢ (i, plain component) → has_key key_cmp v.facts k ≡ true → has_key key_cmp w.facts k ≡ true
    was k other p =
        elim (fact_value_at w.facts (i, plain component) [] k) [
          | inl q ↦ absurd (other q.0)
          | inr q ↦ sym (ap is_some q.1) ∙ (sym (ap (λ m. has_key key_cmp m k) tagged) ∙ p)
        ]

    still : (k : Key) → has_key key_cmp w.facts k ≡ true → has_key key_cmp v.facts k ≡ true
    still k p =
        ap (λ m. has_key key_cmp m k) tagged
        ∙ elim (fact_value_at w.facts (i, plain component) [] k) [ inl q ↦ ap is_some q.1 | inr q ↦ ap is_some q.1 ∙ p ]

born_traits : (w : WorldState) (o : Option EntityId) → KeepsTraits w → KeepsTraits (counted (with_born w o))
unfolding with_born
born_traits w None h = same_facts_keep w (counted w) h refl
born_traits w (Some e) h = same_facts_keep w (counted (with_born w (Some e))) h refl

named_traits : (w : WorldState) (n : List ℕ) (o : Option EntityId) → KeepsTraits w → KeepsTraits (counted (with_named w n o))
unfolding with_named
named_traits w n None h = same_facts_keep w (counted w) h refl
named_traits w n (Some e) h = same_facts_keep w (counted (with_named w n (Some e))) h refl

component_traits : (w : WorldState) (n : List ℕ) (s : Schema) (o : Option EntityId) → KeepsTraits w → KeepsTraits (counted (with_component w n s o))
unfolding with_component
component_traits w n s None h = same_facts_keep w (counted w) h refl
component_traits w n s (Some e) h = tagged_keep w (counted (with_component w n s (Some e))) e.index h refl

pub fresh_keeps : (w : WorldState) → IsWellFormed w → first_reason (reasons w Fresh) ≡ None → IsWellFormed (counted (effect w Fresh))
unfolding reasons effect
fresh_keeps w h r =
    let room = neither (is_none (next_entity w)) (is_spent w) (passed (is_none (next_entity w) || is_spent w) Full [] r).0 in
    made.fresh_keeps w (next_entity w) h refl room.0 room.1 (born_traits w (next_entity w) h.traits)

pub entity_keeps : (w : WorldState) (n : List ℕ) → IsWellFormed w → first_reason (reasons w (Entity n)) ≡ None → IsWellFormed (counted (effect w (Entity n)))
unfolding reasons effect
entity_keeps w n h r =
    let name = passed (not (is_name n)) BadName ((is_some (named w n), NameTaken) ∷ birth_reasons w) r in
    let free = passed (is_some (named w n)) NameTaken (birth_reasons w) name.1 in
    let room = neither (is_none (next_entity w)) (is_spent w) (passed (is_none (next_entity w) || is_spent w) Full [] free.1).0 in
    made.entity_keeps w n (next_entity w) h refl (denied (is_name n) name.0) free.0 room.0 room.1 (named_traits w n (next_entity w) h.traits)

pub component_keeps : (w : WorldState) (n : List ℕ) (s : Schema) → IsWellFormed w → schema_fault s ≡ None → first_reason (reasons w (Component n s)) ≡ None
    → IsWellFormed (counted (effect w (Component n s)))
unfolding reasons effect
component_keeps w n s h ok r =
    let name = passed (not (is_name n)) BadName ((is_some (named w n), NameTaken) ∷ birth_reasons w) r in
    let free = passed (is_some (named w n)) NameTaken (birth_reasons w) name.1 in
    let room = neither (is_none (next_entity w)) (is_spent w) (passed (is_none (next_entity w) || is_spent w) Full [] free.1).0 in
    made.component_keeps w n s (next_entity w) h ok refl (denied (is_name n) name.0) free.0 room.0 room.1 (component_traits w n s (next_entity w) h.traits)
