-- What an accepted addition needs of the tables, and what it leaves of a world.
use Rattle.std.proofs.Common.{◌≡◌, ℕ, ◌==◌, Bool, true, false, cond, not, ◌&&◌, ◌||◌, List, [], ◌∷◌, ◌++◌, filter, if◌then◌else◌, ◌⊎◌, refl, sym, ap, subst, ◌∙◌, inl, inr, arith, true≢false}
use Rattle.std.specs.Prelude.{replicate, ℤ, Option, Some, None, option_map, is_some, IsTrue}
use Rattle.std.proofs.lemmas.Bool.Decides.{Decides-eqb}
use Rattle.std.proofs.lemmas.List.Elements.{Contains-append_cases}
use Rattle.std.proofs.lemmas.List.Kept.{IsStrictlySortedBy-filter}
use Rattle.std.specs.FinMap.Entries.{is_some-find}
use Rattle.std.specs.List.{Contains, list_all, list_any}
use Rattle.std.specs.List.Sorted.{IsStrictlySortedBy}
use Rattle.std.specs.Option.{option_or}
use Rattle.std.specs.Ordering.{nat_cmp}
use Rattle.ecs_id.specs.declared.EntityId.{EntityId}
use Rattle.ecs_id.specs.Id.{Id, plain, pair, mentioned, id_eq, id_eq_same}
use Rattle.ecs_model.specs.steps.Outcomes.{counted, with_facts}
use Rattle.ecs_model.specs.Map.{Map, has_key, keys, value_at, without}
use Rattle.ecs_model.specs.Refusal.{first_reason}
use Rattle.ecs_model.specs.Schema.{Schema}
use Rattle.ecs_model.specs.Sets.{Set}
use Rattle.ecs_model.specs.World.{WorldState, Key, key_cmp, key_eq, pair_is_tag, holds, is_live, new_value, type_of_id}
use Rattle.ecs_model.specs.steps.FactChanges.{coming, copied, facts_after_add, facts_with_added, new_base, replaced}
use Rattle.ecs_model.specs.steps.Step.{Add, effect, reasons}
use Rattle.ecs_model.specs.steps.WellFormed.{IsWellFormed}
use Rattle.ecs_model.proofs.Maps.{both_true, eq_itself, key_cmp_same, key_cmp_total}
use Rattle.ecs_model.proofs.Members.{any_passes, filtered, from_or, passing}
use Rattle.ecs_model.proofs.Removals.{value_at-without}
use Rattle.ecs_model.proofs.steps.AcceptedFacts.{IsAccepted, accepted_add, base_is_addition, keeps_add}
use Rattle.ecs_model.proofs.steps.AddedSets.{added_are_members, added_form, form_lives, from_map, in_map}
use Rattle.ecs_model.proofs.steps.AddEffects.{IsMap-added, none_replaced}
use Rattle.ecs_model.proofs.steps.CopiedFacts.{facts_brought, held_brought, none_brought, partly_written, value_brought, writing_keeps}
use Rattle.ecs_model.proofs.steps.CopiedIds.{Comes, IsMap-coming, coming_at, coming_with, of_base, with_base}
use Rattle.ecs_model.proofs.steps.Facts.{key_there, there_key}
use Rattle.ecs_model.proofs.steps.LivingIds.{all_pass, each_passes, refuted}
use Rattle.ecs_model.proofs.steps.Additions.{IsAddition, came_or_was, plain_stays, trait_before, types_kept}
use Rattle.ecs_model.proofs.steps.ReplacedFacts.{is_replaced, key_eq_same}
use Rattle.ecs_archetypes.specs.FactChanges.{Coming, ids_coming, with_facts_changed}
use Rattle.ecs_archetypes.specs.Holdings.{AreHoldings, HoldAlike, Holdings, KeepsSizes, agrees, bytes_at, cells_at, holds_id}
use Rattle.ecs_archetypes.proofs.FactReads.{come_or}
use Rattle.ecs_world.specs.Changes.{sized_by}
use Rattle.ecs_world.specs.Releases.{gets_no_data}
use Rattle.ecs_world.specs.State.{IsWorld, Parts, parts_of, byte_count, is_known_rightly, state_of, type_of, value_in}
use Rattle.ecs_world.proofs.ChangedWorlds.{AreRead, before_count, bytes_left, keys_rise, state_changed, types_are, world_changed}
use Rattle.ecs_world.proofs.States.{all_implied, holds_is, settled_at, size_agrees, state_alike, type_is, value_is, world_alike, zeros_are_new}

-- among those of a list that pass
pub any_filter : (p : Key → Bool) (q : Key) (ks : List Key) → list_any (key_eq q) (filter p ks) ≡ (list_any (key_eq q) ks && p q)
any_filter p q [] = refl
any_filter p q (k ∷ ks) = by (p k) (key_eq q k) (list_any (key_eq q) ks) (p q) (any_filter p q ks) refl (λ t. ap p (key_eq_same q k t))
  where
    by : (s b x t : Bool) → list_any (key_eq q) (filter p ks) ≡ (x && t) → key_eq q k ≡ b → (b ≡ true → t ≡ s)
        → list_any (key_eq q) (cond s (k ∷ filter p ks) (filter p ks)) ≡ ((b || x) && t)
    by true true x t rest own same = ap (λ b. b || list_any (key_eq q) (filter p ks)) own ∙ sym (same refl)
    by true false x t rest own same = ap (λ b. b || list_any (key_eq q) (filter p ks)) own ∙ rest
    by false true true t rest own same = rest
    by false true false t rest own same = rest ∙ sym (same refl)
    by false false x t rest own same = rest

-- whether a fact is a key of facts
pub any_key : {X : Type 0} (m : Map Key X) (q : Key) → list_any (key_eq q) (keys m) ≡ has_key key_cmp m q
any_key m q = sym (is_some-find key_cmp q m)

module _ (w : WorldState) where
  pub keys_sized : (ks : List Key) → keys (sized_by w ks) ≡ ks
  keys_sized [] = refl
  keys_sized (k ∷ ks) = ap (λ xs. k ∷ xs) (keys_sized ks)

  -- each fact has the size of its id's type
  sized_at : (ks : List Key) (q : Key) → value_at key_cmp (sized_by w ks) q ≡ cond (list_any (key_eq q) ks) (Some (byte_count (type_of_id w q.1))) None
  sized_at [] q = refl
  sized_at (k ∷ ks) q = by (key_eq q k) refl (sized_at ks q)
    where
      size : Key → ℕ
      size x = byte_count (type_of_id w x.1)

      by : (b : Bool) → key_eq q k ≡ b → value_at key_cmp (sized_by w ks) q ≡ cond (list_any (key_eq q) ks) (Some (size q)) None
          → cond b (Some (size k)) (value_at key_cmp (sized_by w ks) q) ≡ cond (b || list_any (key_eq q) ks) (Some (size q)) None
      by true own rest = ap (λ x. Some (size x)) (sym (key_eq_same q k own))
      by false own rest = rest

  -- an id that comes is that of a fact that comes
  id_sized : (ks : List Key) (c : Id × ℕ) → Contains (ids_coming (sized_by w ks)) c → (k : Key) × Contains ks k × ((k.1, byte_count (type_of_id w k.1)) ≡ c)
  id_sized ks c there =
      let one = from_map (λ (x : Key × ℕ). (x.0.1, x.1)) (sized_by w ks) c there in
      let two = from_map (λ (k : Key). (k, byte_count (type_of_id w k.1))) ks one.0 one.1 in
      (two.0, two.1, ap (λ (x : Key × ℕ). (x.0.1, x.1)) two.2 ∙ one.2)

-- an addition against which there is no reason, with the lists of what comes and goes
pub record IsListed (w : WorldState) (e : EntityId) (i : Id) (came went : List Key) (sized : Coming) : Type 0 where
  pub none : first_reason (reasons w (Add e i)) ≡ None
  pub came_are : came ≡ filter (λ z. not (holds w z.0 z.1)) (keys (coming w e.index i))
  pub went_are : went ≡ filter (λ z. list_any (key_eq z) (replaced w e.index i)) (keys w.facts)
  pub sized_are : sized ≡ sized_by w came

-- what is seen of a world is its state
pub listed : {w v : WorldState} {came went : List Key} {sized : Coming} → w ≡ v → (e : EntityId) (i : Id) → first_reason (reasons v (Add e i)) ≡ None → came ≡ filter (λ z. not (holds v z.0 z.1)) (keys (coming v e.index i))
    → went ≡ filter (λ z. list_any (key_eq z) (replaced v e.index i)) (keys v.facts) → sized ≡ sized_by v came → IsListed w e i came went sized
listed {came = came} {went = went} {sized = sized} is e i none came_are went_are sized_are =
    subst (λ u. IsListed u e i came went sized) (sym is) (record { none = none; came_are = came_are; went_are = went_are; sized_are = sized_are })

pub effect_is : (w : WorldState) (e : EntityId) (i : Id) → effect w (Add e i) ≡ with_facts w (facts_after_add w e.index i)
unfolding effect
effect_is w e i = refl

-- an addition leaves a well-formed world, before it is counted
pub added_sound : (w : WorldState) (e : EntityId) (i : Id) → IsWellFormed w → first_reason (reasons w (Add e i)) ≡ None → IsWellFormed (with_facts w (facts_after_add w e.index i))
added_sound w e i h none = before_count (with_facts w (facts_after_add w e.index i)) (subst (λ v. IsWellFormed (counted v)) (effect_is w e i) (keeps_add w e i h none))

-- none is a part of all
none_of : {X : Type 0} (xs : List X) (x : X) → Contains {X = X} [] x → Contains xs x
none_of xs x n = absurd (omega (arith, n.1))

-- without a base it is left where all that comes has come
pub unbased : (w : WorldState) (e : ℕ) (i : Id) → new_base w e i ≡ None → facts_brought w e i None ≡ facts_after_add w e i
unfolding facts_after_add
unbased w e i is = none_brought w e i ∙ sym (ap (with_base w e i (facts_with_added w e i)) is)

-- where all that comes has come with new values, and no copy is written yet, the world is well formed
brought_sound : (w : WorldState) (e : EntityId) (i : Id) (o : Option ℕ) → new_base w e.index i ≡ o → IsWellFormed w → first_reason (reasons w (Add e i)) ≡ None
    → IsWellFormed (with_facts w (facts_brought w e.index i o))
brought_sound w e i None is h none = subst (λ facts. IsWellFormed (with_facts w facts)) (sym (unbased w e.index i is)) (added_sound w e i h none)
brought_sound w e i (Some b) is h none =
    before_count (with_facts w (facts_brought w e.index i (Some b))) (writing_keeps w e i b [] h none is (none_of (copied w e.index i b)))

-- its facts are those of an addition
brought_is_addition : (w : WorldState) (e : ℕ) (i : Id) (o : Option ℕ) → IsWellFormed w → list_all (is_live w) (mentioned i) ≡ true → IsAddition w e i o (facts_brought w e i o)
brought_is_addition w e i None h m = subst (IsAddition w e i None) (sym (none_brought w e i)) (base_is_addition w e i None h m)
brought_is_addition w e i (Some b) h m = partly_written w e i b h m [] (none_of (copied w e i b))

module _ {parts : Parts} (world : IsWorld parts) (e : EntityId) (i : Id) {came went : List Key} {sized : Coming} (list : IsListed (state_of parts) e i came went sized) where
  abbrev h : Holdings
  h = parts.holdings

  abbrev schemas : Map ℕ Schema
  schemas = parts.schemas

  abbrev w : WorldState
  w = state_of parts

  abbrev base : Option ℕ
  base = new_base w e.index i

  abbrev facts : Map Key (List ℤ)
  facts = facts_brought w e.index i base

  sized_keys : keys sized ≡ came
  sized_keys = ap keys list.sized_are ∙ keys_sized w came

  accepted : IsAccepted w e i
  accepted = accepted_add w e i world.sound list.none

  mentions : list_all (is_live w) (mentioned i) ≡ true
  mentions = (accepted.may).mentions

  addition : IsAddition w e.index i base facts
  addition = brought_is_addition w e.index i base world.sound mentions

  abbrev all : Set Key
  all = coming_with w e.index i base

  abbrev IsNew : Key → Type 0
  IsNew k = Comes w e.index i base k

  is_among : (k : Key) → has_key key_cmp all k ≡ true → IsNew k
  is_among k t = elim (coming_at w e.index i base k) [ inl c ↦ inr c.0 | inr c ↦ inl ((added_are_members w e.index i world.sound mentions k).0 (sym c.1 ∙ t)) ]

  -- what comes is added or copied, and not held, and what goes is held
  comes : (k : Key) → Contains came k → IsNew k × (holds w k.0 k.1 ≡ false)
  comes k there =
      let f = (filtered (λ (z : Key). not (holds w z.0 z.1)) (keys all) k).0 (subst (λ ks. Contains ks k) list.came_are there) in
      (is_among k (there_key key_cmp key_cmp_total all k f.0), denied (holds w k.0 k.1) f.1)
    where
      denied : (b : Bool) → not b ≡ true → b ≡ false
      denied true p = absurd (true≢false (sym p))
      denied false p = refl

  goes : (k : Key) → Contains went k → holds w k.0 k.1 ≡ true
  goes k there =
      let f = (filtered (λ (z : Key). list_any (key_eq z) (replaced w e.index i)) (keys w.facts) k).0 (subst (λ ks. Contains ks k) list.went_are there) in
      there_key key_cmp key_cmp_total w.facts k f.0

  -- what comes is of live entities
  lives_there : (k : Key) → IsNew k → (is_live w k.0 ≡ true) × (list_all (is_live w) (mentioned k.1) ≡ true)
  lives_there k (inl new) = let x = added_form w world.sound e.index i mentions new in form_lives w e.index i x.0 k (accepted.may).live mentions x.1 x.2
  lives_there k (inr copy) = (ap (is_live w) copy.2 ∙ (accepted.may).live, (((world.sound).live).facts copy.0 k.1 (of_base w e.index i copy.0 k.1 copy.3)).1)

  settled_there : (x : ℕ) → is_live w x ≡ true → is_some (cells_at h x) ≡ true
  settled_there x live = ap is_some (settled_at world x live).1

  came_rises : IsStrictlySortedBy key_cmp came
  came_rises = subst (IsStrictlySortedBy key_cmp) (sym list.came_are) (IsStrictlySortedBy-filter key_cmp (λ (z : Key). not (holds w z.0 z.1)) (keys all) (keys_rise key_cmp all (IsMap-coming w e.index i base (IsMap-added w e.index i))))

  pub came_ascend : IsStrictlySortedBy key_cmp (keys sized)
  came_ascend = subst (IsStrictlySortedBy key_cmp) (sym sized_keys) came_rises

  pub went_ascend : IsStrictlySortedBy key_cmp went
  went_ascend =
      subst (IsStrictlySortedBy key_cmp) (sym list.went_are)
      (IsStrictlySortedBy-filter key_cmp (λ (z : Key). list_any (key_eq z) (replaced w e.index i)) (keys w.facts) (keys_rise key_cmp w.facts ((world.sound).in_order).facts))

  came_settled : list_all (λ k. is_some (cells_at h k.0)) (keys sized) ≡ true
  came_settled = subst (λ ks. list_all (λ k. is_some (cells_at h k.0)) ks ≡ true) (sym sized_keys) (all_pass (λ (k : Key). is_some (cells_at h k.0)) came (λ k c. settled_there k.0 (lives_there k (comes k c).0).0))

  pub all_settled : list_all (λ k. is_some (cells_at h k.0)) (keys sized ++ went) ≡ true
  all_settled =
      subst (λ ks. list_all (λ k. is_some (cells_at h k.0)) (ks ++ went) ≡ true) (sym sized_keys)
      (all_pass (λ (k : Key). is_some (cells_at h k.0)) (came ++ went) (λ k c. settled_there k.0 (by k (Contains-append_cases came went k c))))
    where
      by : (k : Key) → Contains came k ⊎ Contains went k → is_live w k.0 ≡ true
      by k (inl c) = (lives_there k (comes k c).0).0
      by k (inr c) = (((world.sound).live).facts k.0 k.1 (goes k c)).0

  pub none_held : list_all (λ k. not (holds_id h k.0 k.1)) (keys sized) ≡ true
  none_held =
      subst (λ ks. list_all (λ k. not (holds_id h k.0 k.1)) ks ≡ true) (sym sized_keys)
      (all_pass (λ (k : Key). not (holds_id h k.0 k.1)) came (λ k c. ap not (sym (holds_is world k.0 k.1) ∙ (comes k c).1)))

  -- sizes are those of types, so they agree
  size_is : (c : Id × ℕ) → Contains (ids_coming sized) c → c.1 ≡ byte_count (type_of h schemas c.0)
  size_is c there = let k = id_sized w came c (subst (λ s. Contains (ids_coming s) c) list.sized_are there) in subst (λ (x : Id × ℕ). x.1 ≡ byte_count (type_of h schemas x.0)) k.2 (ap byte_count (type_is world k.0.1))

  pub all_agree : list_all (λ c. agrees (h.known ++ ids_coming sized) c.0 c.1) (ids_coming sized) ≡ true
  all_agree = all_pass (λ (c : Id × ℕ). agrees (h.known ++ ids_coming sized) c.0 c.1) (ids_coming sized) each
    where
      test : Id × ℕ → Id × ℕ → Bool
      test c d = not (id_eq d.0 c.0) || d.1 == c.1

      same_size : (c d : Id × ℕ) (b : Bool) → id_eq d.0 c.0 ≡ b → c.1 ≡ byte_count (type_of h schemas c.0) → d.1 ≡ byte_count (type_of h schemas d.0) → (not b || d.1 == c.1) ≡ true
      same_size c d false other p q = refl
      same_size c d true own p q = (Decides-eqb d.1 c.1).1 (q ∙ ap (λ j. byte_count (type_of h schemas j)) (id_eq_same d.0 c.0 own) ∙ sym p)

      each : (c : Id × ℕ) → Contains (ids_coming sized) c → list_all (λ d. not (id_eq d.0 c.0) || d.1 == c.1) (h.known ++ ids_coming sized) ≡ true
      each c there = all_pass (λ (d : Id × ℕ). not (id_eq d.0 c.0) || d.1 == c.1) (h.known ++ ids_coming sized) one
        where
          one : (d : Id × ℕ) → Contains (h.known ++ ids_coming sized) d → (not (id_eq d.0 c.0) || d.1 == c.1) ≡ true
          one d among =
              elim (Contains-append_cases h.known (ids_coming sized) d among) [
                | inl k ↦ each_passes (λ (x : Id × ℕ). not (id_eq x.0 c.0) || x.1 == c.1) h.known (size_agrees world c.0 c.1 (size_is c there)) d k
                | inr k ↦ same_size c d (id_eq d.0 c.0) refl (size_is c there) (size_is d k)
              ]

  -- what is read where the facts have come and gone
  module _ (h' : Holdings) (alike : HoldAlike h' (with_facts_changed sized went h)) where
    abbrev is_new : Key → Bool
    is_new q = has_key key_cmp all q

    abbrev is_gone : Key → Bool
    is_gone q = is_replaced w e.index i q

    abbrev size : Key → ℕ
    size q = byte_count (type_of_id w q.1)

    new_stays : (q : Key) → is_new q ≡ true → is_gone q ≡ false
    new_stays q new = none_replaced w e.index i world.sound mentions base q new

    sizes_there : (q : Key) → value_at key_cmp sized q ≡ cond (is_new q && not (holds w q.0 q.1)) (Some (size q)) None
    sizes_there q =
        ap (λ s. value_at key_cmp s q) list.sized_are
        ∙ sized_at w came q
        ∙ ap (λ b. cond b (Some (size q)) None)
        (ap (list_any (key_eq q)) list.came_are ∙ any_filter (λ (z : Key). not (holds w z.0 z.1)) q (keys all) ∙ ap (λ b. b && not (holds w q.0 q.1)) (any_key all q))

    going_at : (q : Key) → list_any (key_eq q) went ≡ (holds w q.0 q.1 && is_gone q)
    going_at q =
        ap (list_any (key_eq q)) list.went_are ∙ any_filter (λ (z : Key). list_any (key_eq z) (replaced w e.index i)) q (keys w.facts) ∙ ap (λ b. b && is_gone q) (any_key w.facts q)

    read_at : (q : Key) → bytes_at h' q.0 q.1 ≡ come_or (cond (is_new q && not (holds w q.0 q.1)) (Some (size q)) None) (cond (not (holds w q.0 q.1 && is_gone q)) (bytes_at h q.0 q.1) None)
    read_at q = bytes_left world sized went h' alike came_ascend came_settled q.0 q.1 ∙ (λ k. come_or (sizes_there q k) (cond (not (going_at q k)) (bytes_at h q.0 q.1) None))

    -- what is held is what the facts say
    pub held_left : (q : Key) → holds_id h' q.0 q.1 ≡ has_key key_cmp facts q
    held_left q =
        ap is_some (read_at q) ∙ by (is_new q) (holds w q.0 q.1) (is_gone q) (bytes_at h q.0 q.1) (holds_is world q.0 q.1) (new_stays q) ∙ sym (held_brought w e.index i base q)
      where
        by : (a b g : Bool) (o : Option (List ℕ)) → b ≡ is_some o → (a ≡ true → g ≡ false) → is_some (come_or (cond (a && not b) (Some (size q)) None) (cond (not (b && g)) o None)) ≡ (a || (not g && b))
        by true true true o p f = absurd (true≢false (f refl))
        by true true false o p f = sym p
        by true false g o p f = refl
        by false true true o p f = refl
        by false true false o p f = sym p
        by false false true o p f = sym p
        by false false false o p f = sym p

    pub types_left : (j : Id) → type_of h' schemas j ≡ type_of_id (counted (with_facts w facts)) j
    types_left j = types_are h' schemas (counted (with_facts w facts)) refl (λ r. held_left (r, plain pair_is_tag)) j

    kept_type : (f : ℕ) (j : Id) → has_key key_cmp facts (f, j) ≡ true → type_of h' schemas j ≡ type_of h schemas j
    kept_type f j held =
        types_left j
        ∙ types_kept w e.index i base facts world.sound addition accepted.may f j (came_or_was w e.index i base facts world.sound addition accepted.may (f, j) held)
        ∙ type_is world j

    pub read_left : AreRead (type_of h' schemas) h' facts
    read_left f j =
        value_brought w e.index i base q
        ∙ (λ k. cond (is_some (stays k)) (stays k) (cond (is_new q) (Some (new_value w j)) None))
        ∙ by (is_new q) (holds w f j) (is_gone q) (bytes_at h f j) (holds_is world f j) (new_stays q) (λ held. kept_type f j (held_brought w e.index i base q ∙ held))
        ∙ sym (ap (option_map (value_in (type_of h' schemas j))) (read_at q))
      where
        q : Key
        q = (f, j)

        stays : value_at key_cmp (without key_cmp w.facts (is_replaced w e.index i)) q ≡ cond (not (is_gone q)) (option_map (value_in (type_of h schemas j)) (bytes_at h f j)) None
        stays = value_at-without w.facts (is_replaced w e.index i) q ∙ ap (λ o. cond (not (is_gone q)) o None) (value_is world f j)

        zeros : Some (new_value w j) ≡ Some (value_in (type_of h schemas j) (replicate (size q) 0))
        zeros = ap Some (sym ((λ k. value_in (sym (type_is world j) k) (replicate (size q) 0)) ∙ zeros_are_new (type_of_id w j)))

        by : (a b g : Bool) (o : Option (List ℕ)) → b ≡ is_some o → (a ≡ true → g ≡ false) → ((a || (not g && b)) ≡ true → type_of h' schemas j ≡ type_of h schemas j)
            → cond (is_some (cond (not g) (option_map (value_in (type_of h schemas j)) o) None)) (cond (not g) (option_map (value_in (type_of h schemas j)) o) None) (cond a (Some (new_value w j)) None)
            ≡ option_map (value_in (type_of h' schemas j)) (come_or (cond (a && not b) (Some (size q)) None) (cond (not (b && g)) o None))
        by a false g (Some bs) p f t = absurd (true≢false (sym p))
        by a true g None p f t = absurd (true≢false p)
        by true true true (Some bs) p f t = absurd (true≢false (f refl))
        by false true true (Some bs) p f t = refl
        by true true false (Some bs) p f t = ap (λ x. Some (value_in x bs)) (sym (t refl))
        by false true false (Some bs) p f t = ap (λ x. Some (value_in x bs)) (sym (t refl))
        by true false true None p f t = absurd (true≢false (f refl))
        by false false true None p f t = refl
        by true false false None p f t = zeros ∙ ap (λ x. Some (value_in x (replicate (size q) 0))) (sym (t refl))
        by false false false None p f t = refl

    -- no pair is held of a relationship to which PairIsTag comes
    untagged_pair : (d : ℕ) (j : Id) → gets_no_data sized j ≡ true → holds_id h' d j ≡ false
    untagged_pair d (plain c) t = absurd (true≢false (sym t))
    untagged_pair d (pair r t) tagged = refuted (holds_id h' d (pair r t)) clash
      where
        tag : Key
        tag = (r, plain pair_is_tag)

        there : Contains came tag
        there =
            let f = passing (λ (k : Key × ℕ). key_eq k.0 tag) sized tagged in
            let k = from_map (λ (k : Key). (k, byte_count (type_of_id w k.1))) came f.0 (subst (λ s. Contains s f.0) list.sized_are f.1) in
            subst (Contains came) (ap (λ (x : Key × ℕ). x.0) k.2 ∙ key_eq_same f.0.0 tag f.2) k.1

        clash : holds_id h' d (pair r t) ≡ true → ⊥
        clash held =
            let new = comes tag there in
            let was = came_or_was w e.index i base facts world.sound addition accepted.may (d, pair r t) (sym (held_left (d, pair r t)) ∙ held) in
            true≢false (sym (trait_before w e.index i base facts world.sound addition accepted.may d r t pair_is_tag refl was (addition.there tag new.0)) ∙ new.1)

    pub untagged : (copy : Coming) → copy ≡ sized → (d : ℕ) (j : Id) → gets_no_data copy j ≡ true → holds_id h' d j ≡ false
    untagged copy same d j t = untagged_pair d j (subst (λ s. gets_no_data s j ≡ true) same t)

    abbrev fits : Id × ℕ → Bool
    fits c = gets_no_data sized c.0 || is_known_rightly h' schemas c

    -- a fact that comes is listed with its size
    among_sized : (q : Key) → Contains came q → list_any (λ (k : Key × ℕ). key_eq k.0 q) sized ≡ true
    among_sized q there =
        any_passes (λ (k : Key × ℕ). key_eq k.0 q) sized (q, size q)
        (subst (λ s. Contains s (q, size q)) (sym list.sized_are) (in_map (λ (k : Key). (k, byte_count (type_of_id w k.1))) came q there)) (eq_itself key_cmp key_cmp_total q)

    -- ids of tables have the sizes of their types, or are released
    old_fits : (c : Id × ℕ) → is_known_rightly h schemas c ≡ true → fits c ≡ true
    old_fits c known = by c.0 refl (gets_no_data sized c.0) refl
      where
        same_test : type_of h' schemas c.0 ≡ type_of h schemas c.0 → is_known_rightly h' schemas c ≡ true
        same_test same = (λ k. (c.1 == byte_count (same k)) && list_all (has_key nat_cmp (alike.live k)) (mentioned c.0)) ∙ known

        tag_same : (r t : ℕ) → gets_no_data sized (pair r t) ≡ false → holds_id h' r (plain pair_is_tag) ≡ holds_id h r (plain pair_is_tag)
        tag_same r t none = held_left (r, plain pair_is_tag) ∙ tell (holds w r (plain pair_is_tag)) refl ∙ holds_is world r (plain pair_is_tag)
          where
            tag : Key
            tag = (r, plain pair_is_tag)

            absent : holds w r (plain pair_is_tag) ≡ false → has_key key_cmp facts tag ≡ true → ⊥
            absent old held =
                elim (from_or (is_new tag) (not (is_gone tag) && holds w r (plain pair_is_tag)) (sym (held_brought w e.index i base tag) ∙ held)) [
                  | inl new ↦ true≢false (sym (among_sized tag (among new)) ∙ none)
                  | inr kept ↦ true≢false (sym (both_true (not (is_gone tag)) (holds w r (plain pair_is_tag)) kept).1 ∙ old)
                ]
              where
                among : is_new tag ≡ true → Contains came tag
                among new = subst (λ ks. Contains ks tag) (sym list.came_are) ((filtered (λ (z : Key). not (holds w z.0 z.1)) (keys all) tag).1 (key_there key_cmp key_cmp_same all tag new, ap not old))

            tell : (b : Bool) → holds w r (plain pair_is_tag) ≡ b → has_key key_cmp facts tag ≡ b
            tell true held = plain_stays w e.index i base facts world.sound addition accepted.may r pair_is_tag held
            tell false old = refuted (has_key key_cmp facts tag) (absent old)

        by : (j : Id) → j ≡ c.0 → (b : Bool) → gets_no_data sized c.0 ≡ b → (b || is_known_rightly h' schemas c) ≡ true
        by j is true tagged = refl
        by (plain d) is false none = same_test (subst (λ x. type_of h' schemas x ≡ type_of h schemas x) is refl)
        by (pair r t) is false none =
            same_test (subst (λ x. type_of h' schemas x ≡ type_of h schemas x) is (λ k. if tag_same r t (ap (gets_no_data sized) is ∙ none) k then None else option_or (value_at nat_cmp schemas r) (value_at nat_cmp schemas t)))

    new_fits : list_all fits (ids_coming sized) ≡ true
    new_fits = all_pass fits (ids_coming sized) each
      where
        or_true : (b : Bool) → (b || true) ≡ true
        or_true true = refl
        or_true false = refl

        known : (k : Key) → Contains came k → is_known_rightly h' schemas (k.1, byte_count (type_of_id w k.1)) ≡ true
        known k there =
            let new = (comes k there).0 in
            let same : byte_count (type_of_id w k.1) ≡ byte_count (type_of h' schemas k.1) = ap byte_count (type_is world k.1 ∙ sym (kept_type k.0 k.1 (addition.there k new))) in
            λ z. (Decides-eqb (byte_count (type_of_id w k.1)) (byte_count (type_of h' schemas k.1))).1 same z && (ap (λ live. list_all (has_key nat_cmp live) (mentioned k.1)) alike.live ∙ (lives_there k new).1) z

        each : (c : Id × ℕ) → Contains (ids_coming sized) c → fits c ≡ true
        each c there =
            let k = id_sized w came c (subst (λ s. Contains (ids_coming s) c) list.sized_are there) in
            subst (λ x. fits x ≡ true) k.2 (ap (λ b. gets_no_data sized k.0.1 || b) (known k.0 k.1) ∙ or_true (gets_no_data sized k.0.1))

    -- the world that is left once those tables are released
    module _ (h1 : Holdings) (copy : Coming) (same : copy ≡ sized) (keeps : KeepsSizes h.known (ids_coming sized) h1.known)
        (released : (test : Id × ℕ → Bool) → IsTrue (list_all (λ c. gets_no_data copy c.0 || test c) h1.known) → IsTrue (list_all test h'.known)) (whole : AreHoldings h') where
      known_left : list_all (is_known_rightly h' schemas) h'.known ≡ true
      known_left =
          released (is_known_rightly h' schemas)
          (subst (λ s. IsTrue (list_all (λ c. gets_no_data s c.0 || is_known_rightly h' schemas c) h1.known)) (sym same)
          (keeps fits (all_implied (is_known_rightly h schemas) fits old_fits h.known world.known) new_fits))

      pub world_brought : IsWorld (parts_of h' parts.names schemas parts.pins parts.accepted)
      world_brought = world_changed world sized went h' alike facts whole (brought_sound w e i base refl world.sound list.none) read_left known_left

      pub state_brought : {v : WorldState} → w ≡ v → state_of (parts_of h' parts.names schemas parts.pins parts.accepted) ≡ with_facts v (facts_brought v e.index i (new_base v e.index i))
      state_brought is = state_changed world sized went h' alike facts whole (brought_sound w e i base refl world.sound list.none) read_left ∙ ap (λ u. with_facts u (facts_brought u e.index i (new_base u e.index i))) is

  -- where memory is refused, the world is as it was
  module _ (h' : Holdings) (alike : HoldAlike h' h) where
    now_fits : list_all (is_known_rightly h schemas) (ids_coming sized) ≡ true
    now_fits = all_pass (is_known_rightly h schemas) (ids_coming sized) each
      where
        known : (k : Key) → Contains came k → is_known_rightly h schemas (k.1, byte_count (type_of_id w k.1)) ≡ true
        known k there = λ z. (Decides-eqb (byte_count (type_of_id w k.1)) (byte_count (type_of h schemas k.1))).1 (ap byte_count (type_is world k.1)) z && (lives_there k (comes k there).0).1 z

        each : (c : Id × ℕ) → Contains (ids_coming sized) c → is_known_rightly h schemas c ≡ true
        each c there =
            let k = id_sized w came c (subst (λ s. Contains (ids_coming s) c) list.sized_are there) in
            subst (λ x. is_known_rightly h schemas x ≡ true) k.2 (known k.0 k.1)

    pub world_kept : AreHoldings h' → KeepsSizes h.known (ids_coming sized) h'.known → IsWorld (parts_of h' parts.names schemas parts.pins parts.accepted)
    world_kept whole keeps = world_alike h' h parts.names schemas parts.pins parts.accepted (ids_coming sized) world whole alike keeps now_fits

    pub state_kept : {v : WorldState} → w ≡ v → state_of (parts_of h' parts.names schemas parts.pins parts.accepted) ≡ v
    state_kept is = state_alike h' h parts.names schemas parts.pins parts.accepted alike ∙ is
