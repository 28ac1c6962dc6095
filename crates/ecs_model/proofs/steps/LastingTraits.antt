-- The plain traits of an entity that a stored query mentions, or that is the relationship of a pair, stay as they are.
use Rattle.std.specs.Prelude.{◌≡◌, ◌⊎◌, ℕ, ◌==◌, Bool, true, false, not, ◌&&◌, ◌||◌, List, [], ◌∷◌, ℤ, Option, Some, None, is_some, nat_lt, unwrap_or}
use Rattle.std.specs.List.{list_any}
use Rattle.std.specs.Ordering.{nat_cmp}
use Rattle.std.proofs.Common.{refl, sym, ap, subst, ◌∙◌, inl, inr, arith, true≢false}
use Rattle.std.proofs.lemmas.Bool.Decides.{nat_tests}
use Rattle.ecs_id.specs.declared.EntityId.{EntityId}
use Rattle.ecs_id.specs.Id.{Id, plain, pair, id_cmp, id_eq}
use Rattle.ecs_model.specs.declared.faults.Refusal.TheVariants.{Dead, BuiltIn, InUse, TraitFixed, Panic, Full}
use Rattle.ecs_model.specs.Added.{IsAdded, is_used}
use Rattle.ecs_model.specs.BuiltIns.{exclusive, on_instantiate, symmetric}
use Rattle.ecs_model.specs.steps.Outcomes.{counted, is_dead, is_spent, next_entity, with_born, with_component, with_facts, with_named}
use Rattle.ecs_model.specs.Map.{Map, has_key, keys, value_at, with_value}
use Rattle.ecs_model.specs.Refusal.{first_reason}
use Rattle.ecs_model.specs.Schema.{Schema}
use Rattle.ecs_model.specs.Sets.{Set}
use Rattle.ecs_model.specs.World.{WorldState, Key, key_cmp, component, entities, first_world, holds, ids_of, is_alive, is_built_in, value_of}
use Rattle.ecs_model.specs.steps.FactLaws.{ModesStay, PlainTraitsStay}
use Rattle.ecs_model.specs.steps.FactChanges.{added, deleted, facts_after_add, is_forbidden, new_base}
use Rattle.ecs_model.specs.steps.Step.{Command, Fresh, Entity, Component, Add, SetValue, Remove, Delete, delete_reasons, effect, is_pinned, reasons, without_entities}
use Rattle.ecs_model.specs.steps.WellFormed.{IsWellFormed}
use Rattle.ecs_model.specs.steps.Rules.{is_trait}
use Rattle.ecs_model.proofs.Maps.{fact_value_at, key_cmp_same}
use Rattle.ecs_model.proofs.Members.{alike, any_passes, eq_itself}
use Rattle.ecs_model.proofs.Reasons.{neither, passed}
use Rattle.ecs_model.proofs.steps.AcceptedFacts.{IsAccepted, accepted_add, accepted_set, add_is_addition, set_is_addition}
use Rattle.ecs_model.proofs.steps.AddedSets.{added_are_members}
use Rattle.ecs_model.proofs.steps.CopiedIds.{no_trait}
use Rattle.ecs_model.proofs.steps.DeletedSets.{may_go}
use Rattle.ecs_model.proofs.steps.Deletions.{MayGo, deletion_traits, relationship_stays, deletion_modes}
use Rattle.ecs_model.proofs.steps.Facts.{key_there}
use Rattle.ecs_model.proofs.steps.LivingIds.{refuted}
use Rattle.ecs_model.proofs.steps.Additions.{IsAddition, came_or_was, plain_stays, trait_before, gone_by, same_parts, stays}
use Rattle.ecs_model.proofs.steps.Removals.{removal_modes, removal_traits}
use Rattle.ecs_model.proofs.steps.ReplacedFacts.{is_replaced}
use Rattle.ecs_model.proofs.steps.RefusalNumbers.{accepted_step}

-- a stored query mentions the entity, or it is the relationship of a pair that is held
abbrev IsUsed : WorldState → WorldState → ℕ → Type 0
IsUsed w v r = (is_pinned w r ≡ true) ⊎ ((f : ℕ) × (t : ℕ) × (holds v f (pair r t) ≡ true))

pub born_traits : (w : WorldState) (o : Option EntityId) (r n : ℕ) → holds (counted (with_born w o)) r (plain n) ≡ holds w r (plain n)
unfolding with_born
born_traits w None r n = refl
born_traits w (Some e) r n = refl

pub named_traits : (w : WorldState) (name : List ℕ) (o : Option EntityId) (r n : ℕ) → holds (counted (with_named w name o)) r (plain n) ≡ holds w r (plain n)
unfolding with_named
named_traits w name None r n = refl
named_traits w name (Some e) r n = refl

pub component_traits : (w : WorldState) (name : List ℕ) (s : Schema) (o : Option EntityId) (r n : ℕ) → is_trait (plain n) ≡ true → holds (counted (with_component w name s o)) r (plain n) ≡ holds w r (plain n)
unfolding with_component
component_traits w name s None r n is = refl
component_traits w name s (Some e) r n is =
    elim (fact_value_at w.facts (e.index, plain component) [] (r, plain n)) [
      | inl p ↦ absurd (true≢false (sym is ∙ ap (λ (k : Key). is_trait k.1) p.0))
      | inr p ↦ ap is_some p.1
    ]

-- OnInstantiate has no mirrors
no_mirrors : is_some (value_of first_world on_instantiate (plain symmetric)) ≡ false
unfolding first_world key_cmp id_cmp
no_mirrors = refl

-- no trait comes to what a stored query mentions
module _ (w : WorldState) (e : EntityId) (i : Id) (h : IsWellFormed w) (ok : IsAccepted w e i) where
  abbrev changed : Key → Bool
  changed k = not (holds w k.0 k.1) && is_trait k.1 && (is_used (ids_of w) (entities w) k.0 || is_pinned w k.0)

  held_already : (r : ℕ) (n : Id) → is_pinned w r ≡ true → is_trait n ≡ true → IsAdded (ids_of w) (e.index, i) (r, n) → holds w r n ≡ true
  held_already r n pinned is new = by (holds w r n) (is_trait n) (is_used (ids_of w) (entities w) r) (is_pinned w r) is pinned unchanged
    where
      unchanged : changed (r, n) ≡ false
      unchanged =
          refuted (changed (r, n))
          (λ t. true≢false (sym (any_passes changed (keys (added w e.index i)) (r, n)
          (key_there key_cmp key_cmp_same (added w e.index i) (r, n) ((added_are_members w e.index i h (ok.may).mentions (r, n)).1 new)) t) ∙ ok.fixed))

      by : (b t u p : Bool) → t ≡ true → p ≡ true → (not b && t && (u || p)) ≡ false → b ≡ true
      by true t u p x y z = refl
      by false true true p x y z = absurd (true≢false z)
      by false true false true x y z = absurd (true≢false z)
      by false true false false x y z = absurd (true≢false (sym y))
      by false false u p x y z = absurd (true≢false (sym x))

  addition_traits : (facts : Map Key (List ℤ)) → IsAddition w e.index i (new_base w e.index i) facts → (r n : ℕ) → is_trait (plain n) ≡ true → IsUsed w (with_facts w facts) r → has_key key_cmp facts (r, plain n) ≡ holds w r (plain n)
  addition_traits facts a r n is why = alike (has_key key_cmp facts (r, plain n)) (holds w r (plain n)) (was why) (plain_stays w e.index i (new_base w e.index i) facts h a ok.may r n)
    where
      was : IsUsed w (with_facts w facts) r → has_key key_cmp facts (r, plain n) ≡ true → holds w r (plain n) ≡ true
      was (inl pinned) p = elim (came_or_was w e.index i (new_base w e.index i) facts h a ok.may (r, plain n) p) [ inl (inl new) ↦ held_already r (plain n) pinned is new | inl (inr c) ↦ absurd (true≢false (sym is ∙ no_trait w e.index i c.0 (plain n) c.3)) | inr held ↦ held ]
      was (inr u) p = trait_before w e.index i (new_base w e.index i) facts h a ok.may u.0 r u.1 n is (came_or_was w e.index i (new_base w e.index i) facts h a ok.may (u.0, pair r u.1) u.2) p

  -- nor does a mode come to it, or go from it
  addition_modes : (facts : Map Key (List ℤ)) → IsAddition w e.index i (new_base w e.index i) facts → (r m : ℕ) → is_pinned w r ≡ true
      → has_key key_cmp facts (r, pair on_instantiate m) ≡ holds w r (pair on_instantiate m)
  addition_modes facts a r m pinned = alike (has_key key_cmp facts mode) (holds w r (pair on_instantiate m)) was is
    where
      mode : Key
      mode = (r, pair on_instantiate m)

      was : has_key key_cmp facts mode ≡ true → holds w r (pair on_instantiate m) ≡ true
      was p = elim (came_or_was w e.index i (new_base w e.index i) facts h a ok.may mode p) [
        | inl (inl new) ↦ held_already r (pair on_instantiate m) pinned refl new
        | inl (inr c) ↦ absurd (true≢false (no_trait w e.index i c.0 (pair on_instantiate m) c.3))
        | inr held ↦ held
      ]

      none : holds w r (pair on_instantiate m) ≡ true → is_replaced w e.index i mode ≡ true → ⊥
      none held g =
          let by = gone_by w e.index i (new_base w e.index i) facts h a ok.may mode g in
          let way = by.2 in
          elim way.what [
            | inl z ↦ let same = same_parts r by.0.0 on_instantiate way.r m way.u z in
                let new : IsAdded (ids_of w) (e.index, i) (r, pair on_instantiate way.t) = subst (IsAdded (ids_of w) (e.index, i)) (way.is_pair ∙ (λ j. (sym same.0 j, pair (sym same.1 j) way.t))) by.1 in
                let before = held_already r (pair on_instantiate way.t) pinned refl new in
                let only : holds w on_instantiate (plain exclusive) ≡ true = ap (λ x. holds w x (plain exclusive)) same.1 ∙ way.only in
                let one = (h.traits).one_target r on_instantiate m way.t only held before in
                true≢false (sym (eq_itself way.u) ∙ (ap (λ x. way.u == x) (sym same.2 ∙ one) ∙ way.other))
            | inr z ↦ let same = same_parts r way.u on_instantiate way.r m by.0.0 z.1 in
                true≢false (sym (ap (λ x. holds w x (plain symmetric)) same.1 ∙ z.0) ∙ (ap is_some ((h.built_in).facts on_instantiate (plain symmetric) refl) ∙ no_mirrors))
          ]

      is : holds w r (pair on_instantiate m) ≡ true → has_key key_cmp facts mode ≡ true
      is held = stays w e.index i (new_base w e.index i) facts h a ok.may mode held (refuted (is_replaced w e.index i mode) (none held))

plain_traits : (n : ℕ) → is_trait (plain n) ≡ true → is_built_in n ≡ true
plain_traits n h = grind (arith, nat_tests)

counted_once : (o : Option ℕ) → nat_lt 0 (unwrap_or o 0) ≡ true → (n : ℕ) × (o ≡ Some n)
counted_once None h = absurd (true≢false (sym h))
counted_once (Some n) h = (n, refl)

-- who is mentioned by a stored query is not deleted, nor is the relationship of a pair that is left
left_traits : (w : WorldState) (gone : Set ℕ) → IsWellFormed w → MayGo w gone → (r n : ℕ) → is_trait (plain n) ≡ true → IsUsed w (counted (without_entities w gone)) r
    → holds (counted (without_entities w gone)) r (plain n) ≡ holds w r (plain n)
left_traits w gone h may r n is why = deletion_traits w gone h may r n (stays why) (plain_traits n is)
  where
    stays : IsUsed w (counted (without_entities w gone)) r → has_key nat_cmp gone r ≡ false
    stays (inl pinned) = let count = counted_once (value_at nat_cmp w.pins r) pinned in refuted (has_key nat_cmp gone r) (λ g. may.unpinned r count.0 g count.1)
    stays (inr u) = relationship_stays w gone h may u.0 r u.1 u.2

effect_traits : (w : WorldState) (c : Command) → IsWellFormed w → first_reason (reasons w c) ≡ None → (r n : ℕ) → is_trait (plain n) ≡ true → IsUsed w (counted (effect w c)) r
    → holds (counted (effect w c)) r (plain n) ≡ holds w r (plain n)
unfolding reasons effect
effect_traits w Fresh h none r n is why = born_traits w (next_entity w) r n
effect_traits w (Entity name) h none r n is why = named_traits w name (next_entity w) r n
effect_traits w (Component name s) h none r n is why = component_traits w name s (next_entity w) r n is
effect_traits w (Add e i) h none r n is why =
    let ok = accepted_add w e i h none in
    addition_traits w e i h ok (facts_after_add w e.index i) (add_is_addition w e.index i h (ok.may).mentions) r n is why
effect_traits w (SetValue e i vs) h none r n is why =
    let ok = accepted_set w e i vs h none in
    let facts = facts_after_add w e.index i in
    addition_traits w e i h ok.1 (with_value key_cmp facts (e.index, i) vs) (set_is_addition w e.index i (new_base w e.index i) facts vs (add_is_addition w e.index i h ((ok.1).may).mentions) ok.0) r n is why
effect_traits w (Remove e i) h none r n is why =
    let dead = passed (is_dead w e i) Dead ((is_built_in e.index || id_eq i (plain component), BuiltIn) ∷ (is_trait i, TraitFixed) ∷ (is_spent w, Full) ∷ []) none in
    let own = passed (is_built_in e.index || id_eq i (plain component)) BuiltIn ((is_trait i, TraitFixed) ∷ (is_spent w, Full) ∷ []) dead.1 in
    let fixed = passed (is_trait i) TraitFixed ((is_spent w, Full) ∷ []) own.1 in
    removal_traits w e.index i h (neither (is_built_in e.index) (id_eq i (plain component)) own.0).0 fixed.0 r n is
effect_traits w (Delete e) h none r n is why =
    let gone = deleted w e.index in
    let live = passed (not (is_alive w e)) Dead ((is_built_in e.index, BuiltIn) ∷ delete_reasons w gone) none in
    let own = passed (is_built_in e.index) BuiltIn (delete_reasons w gone) live.1 in
    let free = passed (list_any (is_pinned w) (keys gone)) InUse ((is_forbidden w gone, Panic) ∷ (is_spent w, Full) ∷ []) own.1 in
    left_traits w gone h (may_go w h e.index own.0 free.0) r n is why

born_modes : (w : WorldState) (o : Option EntityId) (r m : ℕ) → holds (counted (with_born w o)) r (pair on_instantiate m) ≡ holds w r (pair on_instantiate m)
unfolding with_born
born_modes w None r m = refl
born_modes w (Some e) r m = refl

named_modes : (w : WorldState) (name : List ℕ) (o : Option EntityId) (r m : ℕ) → holds (counted (with_named w name o)) r (pair on_instantiate m) ≡ holds w r (pair on_instantiate m)
unfolding with_named
named_modes w name None r m = refl
named_modes w name (Some e) r m = refl

component_modes : (w : WorldState) (name : List ℕ) (s : Schema) (o : Option EntityId) (r m : ℕ) → holds (counted (with_component w name s o)) r (pair on_instantiate m) ≡ holds w r (pair on_instantiate m)
unfolding with_component
component_modes w name s None r m = refl
component_modes w name s (Some e) r m =
    elim (fact_value_at w.facts (e.index, plain component) [] (r, pair on_instantiate m)) [
      | inl p ↦ absurd (true≢false (ap (λ (k : Key). is_trait k.1) p.0))
      | inr p ↦ ap is_some p.1
    ]

-- each accepted command leaves the mode of what a stored query mentions
pub effect_modes : (w : WorldState) (c : Command) → IsWellFormed w → first_reason (reasons w c) ≡ None → (r m : ℕ) → is_built_in m ≡ true → is_pinned w r ≡ true
    → holds (counted (effect w c)) r (pair on_instantiate m) ≡ holds w r (pair on_instantiate m)
unfolding reasons effect
effect_modes w Fresh h none r m is pinned = born_modes w (next_entity w) r m
effect_modes w (Entity name) h none r m is pinned = named_modes w name (next_entity w) r m
effect_modes w (Component name s) h none r m is pinned = component_modes w name s (next_entity w) r m
effect_modes w (Add e i) h none r m is pinned =
    let ok = accepted_add w e i h none in
    addition_modes w e i h ok (facts_after_add w e.index i) (add_is_addition w e.index i h (ok.may).mentions) r m pinned
effect_modes w (SetValue e i vs) h none r m is pinned =
    let ok = accepted_set w e i vs h none in
    let facts = facts_after_add w e.index i in
    addition_modes w e i h ok.1 (with_value key_cmp facts (e.index, i) vs) (set_is_addition w e.index i (new_base w e.index i) facts vs (add_is_addition w e.index i h ((ok.1).may).mentions) ok.0) r m pinned
effect_modes w (Remove e i) h none r m is pinned =
    let dead = passed (is_dead w e i) Dead ((is_built_in e.index || id_eq i (plain component), BuiltIn) ∷ (is_trait i, TraitFixed) ∷ (is_spent w, Full) ∷ []) none in
    let own = passed (is_built_in e.index || id_eq i (plain component)) BuiltIn ((is_trait i, TraitFixed) ∷ (is_spent w, Full) ∷ []) dead.1 in
    let fixed = passed (is_trait i) TraitFixed ((is_spent w, Full) ∷ []) own.1 in
    removal_modes w e.index i h (neither (is_built_in e.index) (id_eq i (plain component)) own.0).0 fixed.0 r m
effect_modes w (Delete e) h none r m is pinned =
    let gone = deleted w e.index in
    let live = passed (not (is_alive w e)) Dead ((is_built_in e.index, BuiltIn) ∷ delete_reasons w gone) none in
    let own = passed (is_built_in e.index) BuiltIn (delete_reasons w gone) live.1 in
    let free = passed (list_any (is_pinned w) (keys gone)) InUse ((is_forbidden w gone, Panic) ∷ (is_spent w, Full) ∷ []) own.1 in
    let may = may_go w h e.index own.0 free.0 in
    let count = counted_once (value_at nat_cmp w.pins r) pinned in
    deletion_modes w gone h may r m (refuted (has_key nat_cmp gone r) (λ g. may.unpinned r count.0 g count.1)) is

pub modes_stay : ModesStay
modes_stay w v c changed h e r m is pinned =
    let done = accepted_step w v c changed e in
    subst (λ u. holds u r (pair on_instantiate m) ≡ holds w r (pair on_instantiate m)) (sym done.1) (effect_modes w c h done.0 r m is pinned)

pub plain_traits_stay : PlainTraitsStay
plain_traits_stay w v c changed h ok e r n is why =
    let done = accepted_step w v c changed e in
    subst (λ u. IsUsed w u r → holds u r (plain n) ≡ holds w r (plain n)) (sym done.1) (effect_traits w c h done.0 r n is) why
