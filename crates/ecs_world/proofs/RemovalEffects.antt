-- What an accepted removal needs of the tables, and what it leaves of a world.
use Rattle.std.proofs.Common.{◌≡◌, ℕ, ◌==◌, Bool, true, false, cond, not, ◌&&◌, ◌||◌, List, [], ◌∷◌, filter, ℤ, Option, Some, None, option_map, is_some, Result, Ok, Err, OnOk, OnErr, refl, sym, ap, subst, ◌∙◌, true≢false}
use Rattle.std.proofs.lemmas.List.Kept.{IsStrictlySortedBy-filter}
use Rattle.std.specs.List.{Contains, list_all, list_any}
use Rattle.std.specs.List.Sorted.{IsStrictlySortedBy}
use Rattle.std.specs.Ordering.{nat_cmp}
use Rattle.ecs_id.specs.declared.EntityId.{EntityId}
use Rattle.ecs_id.specs.Id.{Id, plain, mentioned, id_eq}
use Rattle.ecs_model.specs.declared.faults.Refusal.TheVariants.{Dead, BuiltIn, TraitFixed, Full}
use Rattle.ecs_model.specs.steps.Outcomes.{counted, is_dead, is_spent, with_facts}
use Rattle.ecs_model.specs.Map.{Map, has_key, keys, value_at}
use Rattle.ecs_model.specs.Refusal.{first_reason}
use Rattle.ecs_model.specs.Schema.{Schema}
use Rattle.ecs_model.specs.World.{WorldState, Key, key_cmp, key_eq, component, holds, is_built_in, pair_is_tag, value_of}
use Rattle.ecs_model.specs.steps.FactChanges.{facts_after_remove, removed}
use Rattle.ecs_model.specs.steps.Step.{Remove, reasons}
use Rattle.ecs_model.specs.steps.WellFormed.{IsWellFormed}
use Rattle.ecs_model.specs.steps.Rules.{is_trait}
use Rattle.ecs_model.proofs.Maps.{key_cmp_total}
use Rattle.ecs_model.proofs.Members.{filtered}
use Rattle.ecs_model.proofs.Reasons.{neither, passed}
use Rattle.ecs_model.proofs.Removals.{value_at-without}
use Rattle.ecs_model.proofs.steps.AcceptedFacts.{keeps_remove}
use Rattle.ecs_model.proofs.steps.Facts.{there_key}
use Rattle.ecs_model.proofs.steps.LivingIds.{all_pass}
use Rattle.ecs_model.proofs.steps.Removals.{removal_types}
use Rattle.ecs_archetypes.specs.FactChanges.{with_facts_changed}
use Rattle.ecs_archetypes.specs.Holdings.{AreHoldings, HoldAlike, Holdings, KeepsSizes, bytes_at, cells_at, holds_id}
use Rattle.ecs_world.specs.State.{IsWorld, Parts, parts_of, byte_count, is_known_rightly, state_of, type_of, value_in}
use Rattle.ecs_world.proofs.AdditionEffects.{any_filter, any_key}
use Rattle.ecs_world.proofs.ChangedWorlds.{AreRead, before_count, bytes_left, keys_rise, state_changed, types_are, world_changed}
use Rattle.ecs_world.proofs.States.{holds_is, settled_at, state_alike, type_is, value_is, world_alike}
use Rattle.ecs_world.proofs.CommandEffects.{effect-remove}

-- a removal against which there is no reason, with the list of what goes
pub record IsTold (w : WorldState) (e : EntityId) (i : Id) (went : List Key) : Type 0 where
  pub none : first_reason (reasons w (Remove e i)) ≡ None
  pub went_are : went ≡ filter (λ k. list_any (key_eq k) (removed w e.index i)) (keys w.facts)

-- a removal leaves a well-formed world, before it is counted
taken_sound : (w : WorldState) (e : EntityId) (i : Id) → IsWellFormed w → first_reason (reasons w (Remove e i)) ≡ None → IsWellFormed (with_facts w (facts_after_remove w e.index i))
taken_sound w e i h none = before_count (with_facts w (facts_after_remove w e.index i)) (subst (λ v. IsWellFormed (counted v)) (effect-remove w e i) (keeps_remove w e i h none))

-- nothing goes from what is built in, and no trait goes
not_fixed : (w : WorldState) (e : EntityId) (i : Id) → first_reason (reasons w (Remove e i)) ≡ None → (is_built_in e.index ≡ false) × (is_trait i ≡ false)
unfolding reasons
not_fixed w e i r =
    let dead = passed (is_dead w e i) Dead ((is_built_in e.index || id_eq i (plain component), BuiltIn) ∷ (is_trait i, TraitFixed) ∷ (is_spent w, Full) ∷ []) r in
    let own = passed (is_built_in e.index || id_eq i (plain component)) BuiltIn ((is_trait i, TraitFixed) ∷ (is_spent w, Full) ∷ []) dead.1 in
    let fixed = passed (is_trait i) TraitFixed ((is_spent w, Full) ∷ []) own.1 in
    ((neither (is_built_in e.index) (id_eq i (plain component)) own.0).0, fixed.0)

value_after_remove : (w : WorldState) (e : ℕ) (i : Id) (q : Key) → value_at key_cmp (facts_after_remove w e i) q ≡ cond (not (list_any (key_eq q) (removed w e i))) (value_at key_cmp w.facts q) None
unfolding facts_after_remove
value_after_remove w e i q = value_at-without w.facts (λ k. list_any (key_eq k) (removed w e i)) q

module _ {parts : Parts} (world : IsWorld parts) (e : EntityId) (i : Id) (went : List Key) (list : IsTold (state_of parts) e i went) where
  abbrev h : Holdings
  h = parts.holdings

  abbrev schemas : Map ℕ Schema
  schemas = parts.schemas

  abbrev w : WorldState
  w = state_of parts

  abbrev facts : Map Key (List ℤ)
  facts = facts_after_remove w e.index i

  abbrev goes : Key → Bool
  goes k = list_any (key_eq k) (removed w e.index i)

  pub went_ascend : IsStrictlySortedBy key_cmp went
  went_ascend = subst (IsStrictlySortedBy key_cmp) (sym list.went_are) (IsStrictlySortedBy-filter key_cmp goes (keys w.facts) (keys_rise key_cmp w.facts ((world.sound).in_order).facts))

  -- what goes is held by live entities
  pub all_settled : list_all (λ k. is_some (cells_at h k.0)) went ≡ true
  all_settled = all_pass (λ (k : Key). is_some (cells_at h k.0)) went each
    where
      each : (k : Key) → Contains went k → is_some (cells_at h k.0) ≡ true
      each k there =
          let f = (filtered goes (keys w.facts) k).0 (subst (λ ks. Contains ks k) list.went_are there) in
          ap is_some (settled_at world k.0 (((world.sound).live).facts k.0 k.1 (there_key key_cmp key_cmp_total w.facts k f.0)).0).1

  -- what is read where the facts have gone
  module _ (h' : Holdings) (alike : HoldAlike h' (with_facts_changed [] went h)) where
    going_at : (q : Key) → list_any (key_eq q) went ≡ (holds w q.0 q.1 && goes q)
    going_at q = ap (list_any (key_eq q)) list.went_are ∙ any_filter goes q (keys w.facts) ∙ ap (λ b. b && goes q) (any_key w.facts q)

    read_at : (q : Key) → bytes_at h' q.0 q.1 ≡ cond (not (holds w q.0 q.1 && goes q)) (bytes_at h q.0 q.1) None
    read_at q = bytes_left world [] went h' alike (keys_rise key_cmp {X = ℕ} [] refl) refl q.0 q.1 ∙ ap (λ b. cond (not b) (bytes_at h q.0 q.1) None) (going_at q)

    -- what is held is what the facts say
    held_left : (q : Key) → holds_id h' q.0 q.1 ≡ has_key key_cmp facts q
    held_left q = ap is_some (read_at q) ∙ by (value_of w q.0 q.1) (bytes_at h q.0 q.1) (goes q) (holds_is world q.0 q.1) ∙ sym (ap is_some (value_after_remove w e.index i q))
      where
        by : (x : Option (List ℤ)) (o : Option (List ℕ)) (g : Bool) → is_some x ≡ is_some o → is_some (cond (not (is_some x && g)) o None) ≡ is_some (cond (not g) x None)
        by (Some x) o true p = refl
        by (Some x) o false p = sym p
        by None o true p = sym p
        by None o false p = sym p

    types_same : (j : Id) → type_of h' schemas j ≡ type_of h schemas j
    types_same j =
        let free = not_fixed w e i list.none in
        types_are h' schemas (counted (with_facts w facts)) refl (λ r. held_left (r, plain pair_is_tag)) j ∙ removal_types w e.index i world.sound free.0 free.1 j ∙ type_is world j

    read_left : AreRead (type_of h' schemas) h' facts
    read_left f j =
        value_after_remove w e.index i q
        ∙ ap (λ o. cond (not (goes q)) o None) (value_is world f j)
        ∙ by (bytes_at h f j) (holds w f j) (goes q) (holds_is world f j)
        ∙ ap (λ t. option_map (value_in t) (cond (not (holds w f j && goes q)) (bytes_at h f j) None)) (sym (types_same j))
        ∙ sym (ap (option_map (value_in (type_of h' schemas j))) (read_at q))
      where
        q : Key
        q = (f, j)

        by : (o : Option (List ℕ)) (b g : Bool) → b ≡ is_some o
            → cond (not g) (option_map (value_in (type_of h schemas j)) o) None ≡ option_map (value_in (type_of h schemas j)) (cond (not (b && g)) o None)
        by None b true p = none (not (b && true))
          where
            none : (d : Bool) → None ≡ option_map (value_in (type_of h schemas j)) (cond d None None)
            none true = refl
            none false = refl
        by None b false p = none (not (b && false))
          where
            none : (d : Bool) → None ≡ option_map (value_in (type_of h schemas j)) (cond d None None)
            none true = refl
            none false = refl
        by (Some bs) true true p = refl
        by (Some bs) true false p = refl
        by (Some bs) false g p = absurd (true≢false (sym p))

    -- the world that is left
    pub taken : AreHoldings h' → KeepsSizes h.known [] h'.known
        → IsWorld (parts_of h' parts.names schemas parts.pins parts.accepted) × (state_of (parts_of h' parts.names schemas parts.pins parts.accepted) ≡ with_facts w facts)
    taken whole keeps =
        let sound = taken_sound w e i world.sound list.none in
        let old : list_all (is_known_rightly h' schemas) h.known ≡ true = (λ k. list_all (λ c. (c.1 == byte_count (types_same c.0 k)) && list_all (has_key nat_cmp (alike.live k)) (mentioned c.0)) h.known) ∙ world.known in (
          world_changed world [] went h' alike facts whole sound read_left (keeps (is_known_rightly h' schemas) old refl),
          state_changed world [] went h' alike facts whole sound read_left,
        )

-- what a call needs and leaves that takes the facts or is refused memory, as seen from the state
module _ {parts : Parts} (world : IsWorld parts) {v : WorldState} (is : state_of parts ≡ v) (e : EntityId) (i : Id) (went : List Key) (list : IsTold v e i went) where
  told_there : IsTold (state_of parts) e i went
  told_there = subst (λ u. IsTold u e i went) (sym is) list

  pub those_ascend : IsStrictlySortedBy key_cmp went
  those_ascend = went_ascend world e i went told_there

  pub those_settled : list_all (λ k. is_some (cells_at parts.holdings k.0)) went ≡ true
  those_settled = all_settled world e i went told_there

  module _ (h' : Holdings) (whole : AreHoldings h') (keeps : KeepsSizes (parts.holdings).known [] h'.known) where
    abbrev after : Parts
    after = parts_of h' parts.names parts.schemas parts.pins parts.accepted

    left_ok : HoldAlike h' (with_facts_changed [] went parts.holdings) → IsWorld after × (state_of after ≡ with_facts v (facts_after_remove v e.index i))
    left_ok alike =
        let done = taken world e i went told_there h' alike whole keeps in
        (done.0, done.1 ∙ ap (λ u. with_facts u (facts_after_remove u e.index i)) is)

    left_err : HoldAlike h' parts.holdings → IsWorld after × (state_of after ≡ v)
    left_err alike = (
      world_alike h' parts.holdings parts.names parts.schemas parts.pins parts.accepted [] world whole alike keeps refl,
      state_alike h' parts.holdings parts.names parts.schemas parts.pins parts.accepted alike ∙ is,
    )

    pub left_world : {T E : Type 0} (r : Result T E) → OnOk r (HoldAlike h' (with_facts_changed [] went parts.holdings)) → OnErr r (HoldAlike h' parts.holdings) → IsWorld after
    left_world (Ok x) ok err = (left_ok ok).0
    left_world (Err x) ok err = (left_err err).0

    pub left_taken : {T E : Type 0} (r : Result T E) → OnOk r (HoldAlike h' (with_facts_changed [] went parts.holdings)) → OnOk r (state_of after ≡ with_facts v (facts_after_remove v e.index i))
    left_taken (Ok x) ok = (left_ok ok).1
    left_taken (Err x) ok = tt

    pub left_refused : {T E : Type 0} (r : Result T E) → OnErr r (HoldAlike h' parts.holdings) → OnErr r (state_of after ≡ v)
    left_refused (Ok x) err = tt
    left_refused (Err x) err = (left_err err).1
