-- An id that an entity holds keeps its type.
use Rattle.std.specs.Prelude.{◌≡◌, ℕ, true, not, List, [], ◌∷◌, Option, Some, None, is_some}
use Rattle.std.specs.List.{list_any}
use Rattle.std.specs.Ordering.{nat_cmp}
use Rattle.std.proofs.Common.{refl, sym, ap, subst, ◌∙◌, inl, inr, arith, true≢false}
use Rattle.ecs_id.specs.declared.EntityId.{EntityId}
use Rattle.ecs_id.specs.Id.{Id, plain, pair, id_eq}
use Rattle.ecs_model.specs.declared.faults.Refusal.TheVariants.{Dead, BuiltIn, InUse, TraitFixed, Panic, Full}
use Rattle.ecs_model.specs.steps.Outcomes.{counted, is_dead, is_spent, next_entity, with_born, with_component, with_named}
use Rattle.ecs_model.specs.Map.{keys, value_at, with_value}
use Rattle.ecs_model.specs.Refusal.{first_reason}
use Rattle.ecs_model.specs.Schema.{Schema}
use Rattle.ecs_model.specs.World.{WorldState, Key, key_cmp, component, holds, is_alive, is_built_in, is_live, pair_is_tag, type_of_id}
use Rattle.ecs_model.specs.steps.FactLaws.{HeldIdsKeepTypes}
use Rattle.ecs_model.specs.steps.FactChanges.{deleted, facts_after_add, is_forbidden, new_base}
use Rattle.ecs_model.specs.steps.Step.{Command, Fresh, Entity, Component, Add, SetValue, Remove, Delete, delete_reasons, effect, is_pinned, reasons}
use Rattle.ecs_model.specs.steps.WellFormed.{IsWellFormed}
use Rattle.ecs_model.specs.steps.Rules.{is_trait}
use Rattle.ecs_model.proofs.Maps.{fact_value_at, nat_value_at}
use Rattle.ecs_model.proofs.Reasons.{IsFree, neither, next_is_free, passed}
use Rattle.ecs_model.proofs.TypedValues.{same_type}
use Rattle.ecs_model.proofs.steps.AcceptedFacts.{accepted_add, accepted_set, add_is_addition, set_is_addition}
use Rattle.ecs_model.proofs.steps.DeletedSets.{may_go}
use Rattle.ecs_model.proofs.steps.Deletions.{deletion_types}
use Rattle.ecs_model.proofs.steps.Additions.{came_or_was, types_kept}
use Rattle.ecs_model.proofs.steps.Removals.{removal_types}
use Rattle.ecs_model.proofs.steps.RefusalNumbers.{accepted_step}

born_types : (w : WorldState) (o : Option EntityId) (i : Id) → type_of_id (counted (with_born w o)) i ≡ type_of_id w i
unfolding with_born
born_types w None (plain c) = refl
born_types w None (pair r t) = refl
born_types w (Some e) (plain c) = refl
born_types w (Some e) (pair r t) = refl

named_types : (w : WorldState) (n : List ℕ) (o : Option EntityId) (i : Id) → type_of_id (counted (with_named w n o)) i ≡ type_of_id w i
unfolding with_named
named_types w n None (plain c) = refl
named_types w n None (pair r t) = refl
named_types w n (Some e) (plain c) = refl
named_types w n (Some e) (pair r t) = refl

-- a new component gives fields to no index that is live
component_types : (w : WorldState) (n : List ℕ) (s : Schema) (o : Option EntityId) → IsWellFormed w → next_entity w ≡ o → (f : ℕ) (j : Id) → holds (counted (with_component w n s o)) f j ≡ true
    → type_of_id (counted (with_component w n s o)) j ≡ type_of_id w j
unfolding with_component
component_types w n s None h next f (plain c) held = refl
component_types w n s None h next f (pair r t) held = refl
component_types w n s (Some e) h next f j held =
    elim (fact_value_at w.facts (e.index, plain component) [] (f, j)) [
      | inl p ↦ let is : j ≡ plain component = ap (λ (k : Key). k.1) p.0 in subst (λ k. type_of_id after k ≡ type_of_id w k) (sym is) own
      | inr p ↦ same_type w after (is_live w) j ((h.live).facts f j (sym (ap is_some p.1) ∙ held)).1 schemas tags
    ]
  where
    after : WorldState
    after = counted (with_component w n s (Some e))

    free : IsFree w e.index e.generation
    free = next_is_free w e next

    own : type_of_id after (plain component) ≡ type_of_id w (plain component)
    own = elim (nat_value_at w.schemas e.index s component) [ inl p ↦ absurd (omega (arith, p.0, free.low)) | inr p ↦ p.1 ]

    schemas : (k : ℕ) → is_live w k ≡ true → value_at nat_cmp after.schemas k ≡ value_at nat_cmp w.schemas k
    schemas k l = elim (nat_value_at w.schemas e.index s k) [ inl p ↦ absurd (true≢false (sym l ∙ (ap (is_live w) p.0 ∙ free.fresh))) | inr p ↦ p.1 ]

    tags : (r : ℕ) → holds after r (plain pair_is_tag) ≡ holds w r (plain pair_is_tag)
    tags r =
        elim (fact_value_at w.facts (e.index, plain component) [] (r, plain pair_is_tag)) [
          | inl p ↦ let is : plain pair_is_tag ≡ plain component = ap (λ (k : Key). k.1) p.0 in absurd cc
          | inr p ↦ ap is_some p.1
        ]

effect_types : (w : WorldState) (c : Command) → IsWellFormed w → first_reason (reasons w c) ≡ None → (f : ℕ) (j : Id) → holds (counted (effect w c)) f j ≡ true
    → type_of_id (counted (effect w c)) j ≡ type_of_id w j
unfolding reasons effect
effect_types w Fresh h r f j held = born_types w (next_entity w) j
effect_types w (Entity n) h r f j held = named_types w n (next_entity w) j
effect_types w (Component n s) h r f j held = component_types w n s (next_entity w) h refl f j held
effect_types w (Add e i) h r f j held =
    let ok = accepted_add w e i h r in
    let a = add_is_addition w e.index i h (ok.may).mentions in
    let facts = facts_after_add w e.index i in
    types_kept w e.index i (new_base w e.index i) facts h a ok.may f j (came_or_was w e.index i (new_base w e.index i) facts h a ok.may (f, j) held)
effect_types w (SetValue e i vs) h r f j held =
    let ok = accepted_set w e i vs h r in
    let a = set_is_addition w e.index i (new_base w e.index i) (facts_after_add w e.index i) vs (add_is_addition w e.index i h ((ok.1).may).mentions) ok.0 in
    let facts = with_value key_cmp (facts_after_add w e.index i) (e.index, i) vs in
    types_kept w e.index i (new_base w e.index i) facts h a (ok.1).may f j (came_or_was w e.index i (new_base w e.index i) facts h a (ok.1).may (f, j) held)
effect_types w (Remove e i) h r f j held =
    let dead = passed (is_dead w e i) Dead ((_, BuiltIn) ∷ (is_trait i, TraitFixed) ∷ (is_spent w, Full) ∷ []) r in
    let own = passed _ BuiltIn ((is_trait i, TraitFixed) ∷ (is_spent w, Full) ∷ []) dead.1 in
    let fixed = passed (is_trait i) TraitFixed ((is_spent w, Full) ∷ []) own.1 in
    removal_types w e.index i h (neither (is_built_in e.index) (id_eq i (plain component)) own.0).0 fixed.0 j
effect_types w (Delete e) h r f j held =
    let gone = deleted w e.index in
    let live = passed (not (is_alive w e)) Dead ((is_built_in e.index, BuiltIn) ∷ delete_reasons w gone) r in
    let own = passed (is_built_in e.index) BuiltIn (delete_reasons w gone) live.1 in
    let free = passed (list_any (is_pinned w) (keys gone)) InUse ((is_forbidden w gone, Panic) ∷ (is_spent w, Full) ∷ []) own.1 in
    deletion_types w gone h (may_go w h e.index own.0 free.0) f j held

pub held_ids_keep_types : HeldIdsKeepTypes
held_ids_keep_types w v c changed h ok e f j held =
    let done = accepted_step w v c changed e in
    subst (λ u. holds u f j ≡ true → type_of_id u j ≡ type_of_id w j) (sym done.1) (effect_types w c h done.0 f j) held
