-- A world stays well formed when a command makes an entity or a component, where what traits ask stays so.
use Rattle.std.specs.Prelude.{◌≡◌, ◌≢◌, ℕ, ◌≤◌, ◌==◌, Bool, true, false, List, [], filter_map, length, ℤ, Option, Some, None, is_some, is_none, if◌then◌else◌}
use Rattle.std.specs.Option.{option_eq}
use Rattle.std.specs.Ordering.{nat_cmp}
use Rattle.std.specs.Cmp.{nat_cmp_total}
use Rattle.std.proofs.Common.{refl, sym, ap, subst, ◌∙◌, inl, inr, arith, true≢false}
use Rattle.std.proofs.lemmas.Bool.Decides.{Decides-eqb}
use Rattle.ecs_id.specs.declared.EntityId.{EntityId}
use Rattle.ecs_id.specs.Id.{Id, plain}
use Rattle.ecs_model.specs.Map.{Map, value_at, has_key, with_value, keys}
use Rattle.ecs_model.specs.Text.{is_name}
use Rattle.ecs_model.specs.Schema.{Schema, schema_fault}
use Rattle.ecs_model.specs.World.{WorldState, Key, key_cmp, component, is_live, named}
use Rattle.ecs_model.specs.steps.Outcomes.{next_entity, is_spent, with_born, with_named, with_component, counted}
use Rattle.ecs_model.specs.steps.WellFormed.{IsWellFormed, KeepsTraits}
use Rattle.ecs_model.proofs.Maps.{of_some, nat_value_at, fact_value_at, IsMap-with_value, filter_map-with_value, length-filter_map-with_value, key_cmp_total}
use Rattle.ecs_model.proofs.Reasons.{next_is_free}
use Rattle.ecs_model.proofs.Additions.{none_held}
use Rattle.ecs_model.proofs.Births.{IsNaming, name_is_naming, no_name_is_naming, IsBirth, birth_keeps}

-- an index that is not live has no fields and no facts
no_schema : (w : WorldState) (i : ℕ) → IsWellFormed w → is_live w i ≡ false → (fs : Schema) → value_at nat_cmp w.schemas i ≢ Some fs
no_schema w i h dead fs p =
    true≢false (sym (of_some (λ x. (is_live w i ≡ true) × (schema_fault x ≡ None)) (value_at nat_cmp w.schemas i) ((h.live).schemas i) fs p).0 ∙ dead)

pub no_fact : (w : WorldState) (i : ℕ) → IsWellFormed w → is_live w i ≡ false → (k : Id) → has_key key_cmp w.facts (i, k) ≡ false
no_fact w i h dead k = by (has_key key_cmp w.facts (i, k)) refl
  where
    by : (b : Bool) → has_key key_cmp w.facts (i, k) ≡ b → b ≡ false
    by true held = absurd (true≢false (sym ((h.live).facts i k held).0 ∙ dead))
    by false held = refl

-- a new entity without facts
entity_is_birth : (w : WorldState) (e : EntityId) (names : Map ℕ (List ℕ)) → IsWellFormed w → next_entity w ≡ Some e → IsNaming w e.index names
    → IsBirth w e.index e.generation names w.schemas w.facts
entity_is_birth w e names h next naming =
    let free = next_is_free w e next in
    record {
      free = free;
      naming = naming;
      schemas_in_order = (h.in_order).schemas;
      facts_in_order = (h.in_order).facts;
      other_schemas = λ j d. refl;
      sound = λ fs p. absurd (no_schema w e.index h free.fresh fs p);
      other_facts = λ q. inr refl;
      empty = λ x p. absurd (true≢false (sym (ap is_some p) ∙ no_fact w e.index h free.fresh (plain component)));
      few = h.few_ids;
    }

abbrev ids : ℕ → Map Key (List ℤ) → List Id
ids f m = filter_map (λ k. if k.0 == f then Some k.1 else None) (keys m)

few_ids : (w : WorldState) (i : ℕ) → IsWellFormed w → is_live w i ≡ false → (f : ℕ) (b : Bool) → (i == f) ≡ b
    → length (ids f (with_value key_cmp w.facts (i, plain component) [])) ≤ 64
few_ids w i h dead f true p =
    let same : i ≡ f = (Decides-eqb i f).0 p in
    let none : ids f w.facts ≡ [] = none_held f w.facts (no_fact w f h (subst (λ j. is_live w j ≡ false) same dead)) in
    let more = length-filter_map-with_value key_cmp key_cmp_total (λ (k : Key). if k.0 == f then Some k.1 else None) w.facts (i, plain component) [] in
    omega (arith, more, ap length none)
few_ids w i h dead f false p =
    subst (λ xs. length xs ≤ 64)
    (sym (filter_map-with_value key_cmp key_cmp_total (λ (k : Key). if k.0 == f then Some k.1 else None) w.facts (i, plain component) [] (ap (λ b. if b then Some (plain component) else None) p)))
    (h.few_ids f)

component_is_birth : (w : WorldState) (e : EntityId) (n : List ℕ) (s : Schema) → IsWellFormed w → schema_fault s ≡ None → next_entity w ≡ Some e → is_name n ≡ true
    → is_some (named w n) ≡ false
    → IsBirth w e.index e.generation (with_value nat_cmp w.names e.index n) (with_value nat_cmp w.schemas e.index s) (with_value key_cmp w.facts (e.index, plain component) [])
component_is_birth w e n s h ok next name unnamed =
    let free = next_is_free w e next in
    record {
      free = free;
      naming = name_is_naming w e.index n h name unnamed;
      schemas_in_order = IsMap-with_value nat_cmp nat_cmp_total w.schemas e.index s (h.in_order).schemas;
      facts_in_order = IsMap-with_value key_cmp key_cmp_total w.facts (e.index, plain component) [] (h.in_order).facts;
      other_schemas = λ j d. elim (nat_value_at w.schemas e.index s j) [ inl p ↦ absurd (d p.0) | inr p ↦ p.1 ];
      sound = λ fs p.
          elim (nat_value_at w.schemas e.index s e.index) [
            | inl q ↦ let same : Some s ≡ Some fs = sym q.1 ∙ p in let is : s ≡ fs = cc in subst (λ x. schema_fault x ≡ None) is ok
            | inr q ↦ absurd (q.0 refl)
          ];
      other_facts = λ q. elim (fact_value_at w.facts (e.index, plain component) [] q) [ inl p ↦ inl p.0 | inr p ↦ inr p.1 ];
      empty = λ x p.
          elim (fact_value_at w.facts (e.index, plain component) [] (e.index, plain component)) [
            | inl q ↦ let same : Some [] ≡ Some x = sym q.1 ∙ p in cc
            | inr q ↦ absurd (q.0 refl)
          ];
      few = λ f. few_ids w e.index h free.fresh f (e.index == f) refl;
    }

pub fresh_keeps : (w : WorldState) (o : Option EntityId) → IsWellFormed w → next_entity w ≡ o → is_none o ≡ false → is_spent w ≡ false
    → KeepsTraits (counted (with_born w o)) → IsWellFormed (counted (with_born w o))
unfolding with_born
fresh_keeps w None h next some spent traits = absurd (true≢false some)
fresh_keeps w (Some e) h next some spent traits =
    let naming = no_name_is_naming w e.index h (next_is_free w e next).fresh in
    birth_keeps w e.index e.generation w.names w.schemas w.facts h (entity_is_birth w e w.names h next naming) spent traits

pub entity_keeps : (w : WorldState) (n : List ℕ) (o : Option EntityId) → IsWellFormed w → next_entity w ≡ o → is_name n ≡ true → is_some (named w n) ≡ false
    → is_none o ≡ false → is_spent w ≡ false → KeepsTraits (counted (with_named w n o)) → IsWellFormed (counted (with_named w n o))
unfolding with_named
entity_keeps w n None h next name unnamed some spent traits = absurd (true≢false some)
entity_keeps w n (Some e) h next name unnamed some spent traits =
    let names = with_value nat_cmp w.names e.index n in
    birth_keeps w e.index e.generation names w.schemas w.facts h (entity_is_birth w e names h next (name_is_naming w e.index n h name unnamed)) spent traits

pub component_keeps : (w : WorldState) (n : List ℕ) (s : Schema) (o : Option EntityId) → IsWellFormed w → schema_fault s ≡ None → next_entity w ≡ o → is_name n ≡ true
    → is_some (named w n) ≡ false → is_none o ≡ false → is_spent w ≡ false → KeepsTraits (counted (with_component w n s o)) → IsWellFormed (counted (with_component w n s o))
unfolding with_component
component_keeps w n s None h ok next name unnamed some spent traits = absurd (true≢false some)
component_keeps w n s (Some e) h ok next name unnamed some spent traits =
    birth_keeps w e.index e.generation (with_value nat_cmp w.names e.index n) (with_value nat_cmp w.schemas e.index s) (with_value key_cmp w.facts (e.index, plain component) []) h
    (component_is_birth w e n s h ok next name unnamed) spent traits

pub there : (o : Option ℕ) (g : ℕ) → option_eq ◌==◌ o (Some g) ≡ true → is_some o ≡ true
there None g h = absurd (true≢false (sym h))
there (Some x) g h = refl
