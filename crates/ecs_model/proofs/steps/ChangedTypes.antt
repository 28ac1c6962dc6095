-- An id of live entities gets another type only where PairIsTag comes to its relationship.
use Rattle.std.specs.Prelude.{◌≡◌, ◌⊎◌, ℕ, Bool, true, false, not, ◌||◌, List, [], ◌∷◌, Option, Some, None, is_some, cond, if◌then◌else◌}
use Rattle.std.specs.List.{All, Contains, list_any}
use Rattle.std.specs.Option.{option_or}
use Rattle.std.specs.Ordering.{nat_cmp}
use Rattle.std.proofs.Common.{refl, sym, ap, subst, ◌∙◌, inl, inr, true≢false}
use Rattle.std.proofs.lemmas.List.Elements.{All-head, All-tail}
use Rattle.ecs_id.specs.declared.EntityId.{EntityId}
use Rattle.ecs_id.specs.Id.{Id, IsPair, plain, pair, id_eq, first_of, mentioned}
use Rattle.ecs_model.specs.declared.faults.Refusal.TheVariants.{Dead, BuiltIn, InUse, TraitFixed, Panic, Full}
use Rattle.ecs_model.specs.steps.Outcomes.{Changed, counted, differences, is_dead, is_spent, next_entity, with_born, with_component, with_named}
use Rattle.ecs_model.specs.Map.{has_key, keys, value_at, with_value, without}
use Rattle.ecs_model.specs.Refusal.{first_reason}
use Rattle.ecs_model.specs.Schema.{Schema}
use Rattle.ecs_model.specs.World.{WorldState, Key, key_cmp, component, holds, is_alive, is_built_in, is_live, pair_is_tag, type_of_id}
use Rattle.ecs_model.specs.steps.FactChanges.{deleted, facts_after_add, is_forbidden, new_base}
use Rattle.ecs_model.specs.steps.Step.{Command, Fresh, Entity, Component, Add, SetValue, Remove, Delete, delete_reasons, effect, is_pinned, reasons, written_by}
use Rattle.ecs_model.specs.steps.FactLaws.{TypesChangeByTag}
use Rattle.ecs_model.specs.steps.WellFormed.{IsWellFormed}
use Rattle.ecs_model.specs.steps.Rules.{is_trait}
use Rattle.ecs_model.proofs.Maps.{key_cmp_same, nat_value_at}
use Rattle.ecs_model.proofs.Reasons.{neither, next_is_free, passed}
use Rattle.ecs_model.proofs.Removals.{value_at-without}
use Rattle.ecs_model.proofs.steps.AcceptedFacts.{accepted_add, accepted_set, add_is_addition, set_is_addition}
use Rattle.ecs_model.proofs.steps.DeletedSets.{may_go}
use Rattle.ecs_model.proofs.steps.Deletions.{deletion_schemas, deletion_traits, left_stays}
use Rattle.ecs_model.proofs.steps.Facts.{key_there}
use Rattle.ecs_model.proofs.steps.Additions.{plain_stays}
use Rattle.ecs_model.proofs.steps.Removals.{removal_traits}
use Rattle.ecs_model.proofs.steps.RefusalNumbers.{accepted_step}
use Rattle.ecs_model.proofs.steps.LastingTraits.{component_traits}

-- of those who live before and after, the fields are the same, and PairIsTag has not gone
record IsSteady (w v : WorldState) : Type 0 where
  schemas : (j : ℕ) → is_live w j ≡ true → is_live v j ≡ true → value_at nat_cmp v.schemas j ≡ value_at nat_cmp w.schemas j
  tags : (r : ℕ) → is_live v r ≡ true → holds w r (plain pair_is_tag) ≡ true → holds v r (plain pair_is_tag) ≡ true

born_steady : (w : WorldState) (o : Option EntityId) → IsSteady w (counted (with_born w o))
unfolding with_born
born_steady w None = record { schemas = λ j l m. refl; tags = λ r l t. t }
born_steady w (Some e) = record { schemas = λ j l m. refl; tags = λ r l t. t }

named_steady : (w : WorldState) (name : List ℕ) (o : Option EntityId) → IsSteady w (counted (with_named w name o))
unfolding with_named
named_steady w name None = record { schemas = λ j l m. refl; tags = λ r l t. t }
named_steady w name (Some e) = record { schemas = λ j l m. refl; tags = λ r l t. t }

component_schemas : (w : WorldState) (name : List ℕ) (s : Schema) (o : Option EntityId) → next_entity w ≡ o → (j : ℕ) → is_live w j ≡ true
    → value_at nat_cmp (counted (with_component w name s o)).schemas j ≡ value_at nat_cmp w.schemas j
unfolding with_component
component_schemas w name s None next j l = refl
component_schemas w name s (Some e) next j l =
    elim (nat_value_at w.schemas e.index s j) [
      | inl p ↦ absurd (true≢false (sym l ∙ (ap (is_live w) p.0 ∙ (next_is_free w e next).fresh)))
      | inr p ↦ p.1
    ]

effect_steady : (w : WorldState) (c : Command) → IsWellFormed w → first_reason (reasons w c) ≡ None → IsSteady w (counted (effect w c))
unfolding reasons effect
effect_steady w Fresh h none = born_steady w (next_entity w)
effect_steady w (Entity name) h none = named_steady w name (next_entity w)
effect_steady w (Component name s) h none = record {
  schemas = λ j l m. component_schemas w name s (next_entity w) refl j l;
  tags = λ r l t. component_traits w name s (next_entity w) r pair_is_tag refl ∙ t;
}
effect_steady w (Add e i) h none =
    let ok = accepted_add w e i h none in
    let a = add_is_addition w e.index i h (ok.may).mentions in
    record { schemas = λ j l m. refl; tags = λ r l t. plain_stays w e.index i (new_base w e.index i) (facts_after_add w e.index i) h a ok.may r pair_is_tag t }
effect_steady w (SetValue e i vs) h none =
    let ok = accepted_set w e i vs h none in
    let facts = facts_after_add w e.index i in
    let a = set_is_addition w e.index i (new_base w e.index i) facts vs (add_is_addition w e.index i h ((ok.1).may).mentions) ok.0 in
    record { schemas = λ j l m. refl; tags = λ r l t. plain_stays w e.index i (new_base w e.index i) (with_value key_cmp facts (e.index, i) vs) h a (ok.1).may r pair_is_tag t }
effect_steady w (Remove e i) h none =
    let dead = passed (is_dead w e i) Dead ((is_built_in e.index || id_eq i (plain component), BuiltIn) ∷ (is_trait i, TraitFixed) ∷ (is_spent w, Full) ∷ []) none in
    let own = passed (is_built_in e.index || id_eq i (plain component)) BuiltIn ((is_trait i, TraitFixed) ∷ (is_spent w, Full) ∷ []) dead.1 in
    let fixed = passed (is_trait i) TraitFixed ((is_spent w, Full) ∷ []) own.1 in
    record {
      schemas = λ j l m. refl;
      tags = λ r l t. removal_traits w e.index i h (neither (is_built_in e.index) (id_eq i (plain component)) own.0).0 fixed.0 r pair_is_tag refl ∙ t;
    }
effect_steady w (Delete e) h none =
    let gone = deleted w e.index in
    let live = passed (not (is_alive w e)) Dead ((is_built_in e.index, BuiltIn) ∷ delete_reasons w gone) none in
    let own = passed (is_built_in e.index) BuiltIn (delete_reasons w gone) live.1 in
    let free = passed (list_any (is_pinned w) (keys gone)) InUse ((is_forbidden w gone, Panic) ∷ (is_spent w, Full) ∷ []) own.1 in
    let may = may_go w h e.index own.0 free.0 in
    record {
      schemas = λ j l m. deletion_schemas w gone h may j (left_stays w gone h may j m);
      tags = λ r l t. deletion_traits w gone h may r pair_is_tag (left_stays w gone h may r l) refl ∙ t;
    }

-- a fact that is held after and wasn't before has come
has_come : (w v : WorldState) (written : List Key) (k : Key) → holds w k.0 k.1 ≡ false → holds v k.0 k.1 ≡ true → Contains (differences w v written).came k
unfolding differences
has_come w v written k absent there =
    key_there key_cmp key_cmp_same (without key_cmp v.facts (has_key key_cmp w.facts)) k
    (ap is_some (value_at-without v.facts (has_key key_cmp w.facts) k) ∙ (ap (λ b. is_some (cond (not b) (value_at key_cmp v.facts k) None)) absent ∙ there))

types_change : (w v : WorldState) (written : List Key) → IsSteady w v → (i : Id) → All (λ x. (is_live w x ≡ true) × (is_live v x ≡ true)) (mentioned i)
    → (type_of_id v i ≡ type_of_id w i) ⊎ (IsPair i × Contains (differences w v written).came (first_of i, plain pair_is_tag))
types_change w v written s (plain c) a = let l = All-head (λ x. (is_live w x ≡ true) × (is_live v x ≡ true)) c [] a in inl (s.schemas c l.0 l.1)
types_change w v written s (pair r t) a = by (holds w r (plain pair_is_tag)) (holds v r (plain pair_is_tag)) refl refl
  where
    lr : (is_live w r ≡ true) × (is_live v r ≡ true)
    lr = All-head (λ x. (is_live w x ≡ true) × (is_live v x ≡ true)) r (t ∷ []) a

    lt : (is_live w t ≡ true) × (is_live v t ≡ true)
    lt = All-head (λ x. (is_live w x ≡ true) × (is_live v x ≡ true)) t [] (All-tail (λ x. (is_live w x ≡ true) × (is_live v x ≡ true)) r (t ∷ []) a)

    same : (b : Bool) → holds w r (plain pair_is_tag) ≡ b → holds v r (plain pair_is_tag) ≡ b → type_of_id v (pair r t) ≡ type_of_id w (pair r t)
    same b p q = λ j. if (q ∙ sym p) j then None else option_or (s.schemas r lr.0 lr.1 j) (s.schemas t lt.0 lt.1 j)

    by : (b c : Bool) → holds w r (plain pair_is_tag) ≡ b → holds v r (plain pair_is_tag) ≡ c
        → (type_of_id v (pair r t) ≡ type_of_id w (pair r t)) ⊎ (IsPair (pair r t) × Contains (differences w v written).came (r, plain pair_is_tag))
    by true true p q = inl (same true p q)
    by false false p q = inl (same false p q)
    by false true p q = inr (tt, has_come w v written (r, plain pair_is_tag) p q)
    by true false p q = absurd (true≢false (sym (s.tags r lr.1 p) ∙ q))

pub types_change_by_tag : TypesChangeByTag
types_change_by_tag w v c changed h ok e i a =
    let done = accepted_step w v c changed e in
    let steady : IsSteady w v = subst (IsSteady w) (sym done.1) (effect_steady w c h done.0) in
    let is : changed ≡ differences w v (written_by c) = done.2 ∙ ap (λ x. differences w x (written_by c)) (sym done.1) in
    subst (λ (d : Changed). (type_of_id v i ≡ type_of_id w i) ⊎ (IsPair i × Contains d.came (first_of i, plain pair_is_tag))) (sym is) (types_change w v (written_by c) steady i a)
