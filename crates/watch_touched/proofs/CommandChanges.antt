-- What has changed by a command, by the world after it alone.
use Rattle.std.specs.Prelude.{◌≡◌, ℕ, ◌==◌, Bool, true, false, not, List, [], ◌++◌, filter, map, Option, Some, None, is_some, option_map, unwrap_or, if◌then◌else◌}
use Rattle.std.specs.List.{Contains, dedup, list_any}
use Rattle.std.specs.List.Sorted.{IsPermutation, IsSorted, IsStrictlySortedBy}
use Rattle.std.specs.Option.{option_copied, option_eq, option_map_or}
use Rattle.std.specs.Ordering.{nat_cmp}
use Rattle.std.proofs.Common.{refl, sym, ap, subst, ◌∙◌, true≢false, Bor}
use Rattle.ecs_archetypes.proofs.DeadEntities.{none_in}
use Rattle.ecs_id.specs.Id.{Id, id_cmp, id_eq}
use Rattle.ecs_model.specs.steps.Outcomes.{Changed, differences}
use Rattle.ecs_model.specs.Map.{has_key, value_at}
use Rattle.ecs_id.specs.declared.EntityId.{EntityId}
use Rattle.ecs_model.specs.World.{WorldState, Key, entity_at, ids_of, is_alive, is_live, key_cmp, key_eq}
use Rattle.ecs_model.specs.rows.View.{view_of}
use Rattle.ecs_model.specs.steps.Step.{written_by}
use Rattle.ecs_model.specs.steps.WellFormed.{IsWellFormed}
use Rattle.ecs_model.proofs.Members.{eq_itself}
use Rattle.ecs_model.proofs.steps.Facts.{held_listed, listed_held}
use Rattle.query_local.specs.Touched.{AreTouched, held_in}
use Rattle.watch_concerns.specs.Since.{IsAfter}
use Rattle.watch_touched.specs.Before.{is_born, view_before}
use Rattle.watch_touched.specs.Indexes.{indexes_of, touch_at}
use Rattle.watch_touched.proofs.IdsBefore.{sorted_are_before}
use Rattle.watch_touched.proofs.RisingIds.{left_rise}
use Rattle.watch_touched.proofs.TouchedEntities.{are_touched, listed_lives, new_is_told, old_is_told}
use Rattle.watch_touched.proofs.WorldBefore.{differs, shown_before}

gone_rise : (w v : WorldState) (written : List Key) → IsWellFormed w → IsStrictlySortedBy key_cmp (differences w v written).went
unfolding differences
gone_rise w v written h = left_rise key_cmp w.facts (has_key key_cmp v.facts) (h.in_order).facts

new_rise : (w v : WorldState) (written : List Key) → IsWellFormed v → IsStrictlySortedBy key_cmp (differences w v written).came
unfolding differences
new_rise w v written h = left_rise key_cmp v.facts (has_key key_cmp w.facts) (h.in_order).facts

-- who doesn't live holds nothing
none_held : (v : WorldState) → IsWellFormed v → (i : ℕ) → is_live v i ≡ false → ids_of v i ≡ []
none_held v kept i dead = none_in (ids_of v i) (λ x h. true≢false (sym ((kept.live).facts i x (listed_held v i x h)).0 ∙ dead))

-- what is held by who may not live
pub held_or_none : (v : WorldState) → IsWellFormed v → (i : ℕ) → option_map_or (λ is. is) (held_in (view_of v) i) [] ≡ ids_of v i
held_or_none v kept i = ap (λ b. option_map_or (λ is. is) (if b then Some (ids_of v i) else None) []) (listed_lives v i) ∙ by (is_live v i) refl
  where
    by : (b : Bool) → is_live v i ≡ b → option_map_or (λ is. is) (if b then Some (ids_of v i) else None) [] ≡ ids_of v i
    by true lives = refl
    by false dead = sym (none_held v kept i dead)

module _ (v : WorldState) (changed : Changed) (after : IsAfter v changed) where
  changed_is : changed ≡ differences after.before v (written_by after.command)
  changed_is = differs after.before v after.command changed after.kept after.stepped

  pub went_rises : IsStrictlySortedBy key_cmp changed.went
  went_rises = subst (λ d. IsStrictlySortedBy key_cmp d.went) (sym changed_is) (gone_rise after.before v (written_by after.command) after.kept)

  module _ (kept : IsWellFormed v) where
    pub came_rises : IsStrictlySortedBy key_cmp changed.came
    came_rises = subst (λ d. IsStrictlySortedBy key_cmp d.came) (sym changed_is) (new_rise after.before v (written_by after.command) kept)

    pub sorted_ids_before : (x : ℕ) (now old all mid new : List Id) → now ≡ ids_of v x
        → old ≡ filter (λ i. not (list_any (key_eq (x, i)) changed.came)) now
        → all ≡ old ++ map (λ k. k.1) (filter (λ k. k.0 == x) changed.went) → IsPermutation all mid → IsSorted id_cmp mid → new ≡ dedup id_eq mid → new ≡ (view_before v changed).ids x
    sorted_ids_before x now old all mid new now_is stayed joined moved sorted once =
        sorted_are_before after.before v after.command changed after.kept after.stepped x now
        (λ i. (λ h. listed_held v x i (subst (λ is. Contains is i) now_is h), λ h. subst (λ is. Contains is i) (sym now_is) (held_listed v x i h)))
        old all mid new stayed joined moved sorted once
        ∙ sym ((shown_before after.before v after.command changed after.kept after.stepped).1 x)

    pub new_before : (i : ℕ) → is_born changed i ≡ true → held_in (view_before v changed) i ≡ None
    new_before i = new_is_told after.before v after.command changed after.kept kept after.stepped i

    pub old_before : (i : ℕ) → is_born changed i ≡ false → Contains (indexes_of changed) i
        → held_in (view_before v changed) i ≡ Some ((view_before v changed).ids i)
    old_before i old h =
        old_is_told after.before v after.command changed after.kept kept after.stepped i old h
        ∙ ap (λ (is : List Id). Some is) (sym ((shown_before after.before v after.command changed after.kept after.stepped).1 i))

    pub all_touched : (is : List ℕ) → ((i : ℕ) → Contains (indexes_of changed) i → Contains is i)
        → AreTouched (map (touch_at (view_before v changed) (view_of v)) is) (view_before v changed) (view_of v)
    all_touched = are_touched after.before v after.command changed after.kept kept after.stepped

-- the entity at an index lives, and what is read of it is what the view shows
pub live_found : (v : WorldState) (i : ℕ) (e : EntityId) → entity_at v i ≡ Some e
    → (if is_alive v e then Some (ids_of v e.index) else None) ≡ held_in (view_of v) i
live_found v i e at = by (value_at nat_cmp v.live i) refl at
  where
    by : (o : Option ℕ) → value_at nat_cmp v.live i ≡ o → option_map (λ g. record { index = i; generation = g }) o ≡ Some e
        → (if is_alive v e then Some (ids_of v e.index) else None) ≡ held_in (view_of v) i
    by None is h = absurd cc
    by (Some g) is h =
        let same : record { index = i; generation = g } ≡ e = cc in
        subst (λ (e : EntityId). (if is_alive v e then Some (ids_of v e.index) else None) ≡ held_in (view_of v) i) same
        (ap (λ b. if b then Some (ids_of v i) else None) (ap (λ o. option_eq ◌==◌ o (Some g)) is ∙ eq_itself g ∙ sym (ap is_some is) ∙ sym (listed_lives v i)))

pub none_found : (v : WorldState) (i : ℕ) → entity_at v i ≡ None → None ≡ held_in (view_of v) i
none_found v i at = by (value_at nat_cmp v.live i) refl at
  where
    by : (o : Option ℕ) → value_at nat_cmp v.live i ≡ o → option_map {U = EntityId} (λ g. record { index = i; generation = g }) o ≡ None
        → None ≡ held_in (view_of v) i
    by None is h = ap (λ b. if b then Some (ids_of v i) else None) (sym (ap is_some is) ∙ sym (listed_lives v i))
    by (Some g) is h = absurd cc

-- the ids of who may not live, or none
pub or_none : (o : Option (Bor (List Id))) (d : Bor (List Id)) → d.now ≡ [] → (unwrap_or o d).now ≡ option_map_or (λ is. is) (option_copied o) []
or_none None d empty = empty
or_none (Some ids) d empty = refl
