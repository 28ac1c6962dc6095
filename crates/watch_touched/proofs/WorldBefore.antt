-- Who lived before a command and which facts there were, by the world after it and what has changed, are those of the world before.
use Rattle.std.specs.Prelude.{◌≡◌, ℕ, ◌==◌, Bool, true, false, not, ◌&&◌, ◌||◌, List, [], ◌∷◌, ◌++◌, filter, filter_map, map, Option, Some, None, Ok, if◌then◌else◌}
use Rattle.std.specs.Cmp.{nat_cmp_total}
use Rattle.std.specs.FinMap.{nat_cmp-IsAntisymmetric}
use Rattle.std.specs.List.{list_any}
use Rattle.std.specs.Ordering.{nat_cmp, eq_by_cmp}
use Rattle.std.proofs.Common.{refl, sym, ap, ◌∙◌, true≢false}
use Rattle.std.proofs.lemmas.List.Folds.{list_any-append}
use Rattle.ecs_id.specs.declared.EntityId.{EntityId}
use Rattle.ecs_model.specs.steps.Outcomes.{Changed, differences}
use Rattle.ecs_model.specs.Map.{Map, has_key, keys, without}
use Rattle.ecs_model.specs.World.{WorldState, Key, entities, holds, is_live, key_cmp, key_eq, name_of}
use Rattle.ecs_model.specs.rows.View.{view_of}
use Rattle.ecs_model.specs.steps.Step.{Command, step, written_by}
use Rattle.ecs_model.specs.steps.WellFormed.{IsWellFormed}
use Rattle.ecs_model.proofs.Maps.{key_cmp_same, key_cmp_total}
use Rattle.ecs_model.proofs.steps.RefusalNumbers.{accepted_step}
use Rattle.watch_touched.specs.Before.{entities_before, facts_before, has_come, is_born, view_before}
use Rattle.watch_touched.specs.Laws.{ShowsWorldBefore}
use Rattle.watch_touched.proofs.OrderedMembers.{any_left, any_without, in_order_are_keys}
use Rattle.watch_touched.proofs.BornEntities.{newborn}

-- who is there now and isn't new, or is there no more, was there before
was_there : (now before new : Bool) → (now ≡ true → new ≡ not before) → ((not new && now) || (not now && before)) ≡ before
was_there true true true told = absurd (true≢false (told refl))
was_there true true false told = refl
was_there true false true told = refl
was_there true false false told = absurd (true≢false (sym (told refl)))
was_there false before true told = refl
was_there false before false told = refl

came_new : (now before : Bool) → now ≡ true → (not before && now) ≡ not before
came_new true true l = refl
came_new true false l = refl
came_new false before l = absurd (true≢false (sym l))

-- the indexes of entities with a name are these
dead_indexes : (name : ℕ → Option (List ℕ)) (es : Map ℕ ℕ)
    → map (λ (d : EntityId × Option (List ℕ)). (d.0).index) (map (λ e. (record { index = e.0; generation = e.1 }, name e.0)) es) ≡ keys es
dead_indexes name [] = refl
dead_indexes name (e ∷ es) = ap (λ ks. e.0 ∷ ks) (dead_indexes name es)

module _ (w v : WorldState) (written : List Key) where
  -- who died, and which facts came and went
  pub died_at : (i : ℕ) → list_any (eq_by_cmp nat_cmp i) (map (λ d. (d.0).index) (differences w v written).died) ≡ (not (is_live v i) && is_live w i)
  unfolding differences
  died_at i =
      ap (list_any (eq_by_cmp nat_cmp i)) (dead_indexes (name_of w) (without nat_cmp w.live (is_live v)))
      ∙ any_without nat_cmp nat_cmp_total nat_cmp-IsAntisymmetric w.live (is_live v) i

  pub went_at : (k : Key) → list_any (key_eq k) (differences w v written).went ≡ (not (holds v k.0 k.1) && holds w k.0 k.1)
  unfolding differences
  went_at k = any_without key_cmp key_cmp_total key_cmp_same w.facts (has_key key_cmp v.facts) k

  pub came_at : (k : Key) → list_any (key_eq k) (differences w v written).came ≡ (not (holds w k.0 k.1) && holds v k.0 k.1)
  unfolding differences
  came_at k = any_without key_cmp key_cmp_total key_cmp_same v.facts (has_key key_cmp w.facts) k

-- the indexes of who died
abbrev pub dead : Changed → List ℕ
dead changed = map (λ d. (d.0).index) changed.died

module _ (w v : WorldState) (c : Command) (changed : Changed) (kept : IsWellFormed w) (done : step w c ≡ Ok (v, changed)) where
  pub differs : changed ≡ differences w v (written_by c)
  differs = let last = accepted_step w v c changed done in last.2 ∙ ap (λ u. differences w u (written_by c)) (sym last.1)

  pub has_died : (i : ℕ) → list_any (eq_by_cmp nat_cmp i) (dead changed) ≡ (not (is_live v i) && is_live w i)
  has_died i = ap (λ d. list_any (eq_by_cmp nat_cmp i) (dead d)) differs ∙ died_at w v (written_by c) i

  pub has_gone : (k : Key) → list_any (key_eq k) changed.went ≡ (not (holds v k.0 k.1) && holds w k.0 k.1)
  has_gone k = ap (λ d. list_any (key_eq k) d.went) differs ∙ went_at w v (written_by c) k

  pub is_new : (k : Key) → list_any (key_eq k) changed.came ≡ (not (holds w k.0 k.1) && holds v k.0 k.1)
  is_new k = ap (λ d. list_any (key_eq k) d.came) differs ∙ came_at w v (written_by c) k

  entities_before_are : entities_before v changed ≡ entities w
  unfolding entities_before
  entities_before_are = in_order_are_keys nat_cmp nat_cmp_total nat_cmp-IsAntisymmetric w.live (lasting ++ dead changed) (kept.in_order).live lived
    where
      lasting : List ℕ
      lasting = filter (λ i. not (is_born changed i)) (entities v)

      lived : (i : ℕ) → list_any (eq_by_cmp nat_cmp i) (lasting ++ dead changed) ≡ is_live w i
      lived i =
          list_any-append (eq_by_cmp nat_cmp i) lasting (dead changed)
          ∙ (λ j. any_left nat_cmp nat_cmp_total nat_cmp-IsAntisymmetric v.live (is_born changed) i j || has_died i j)
          ∙ was_there (is_live v i) (is_live w i) (is_born changed i) (newborn w i v c changed done)

  facts_before_are : facts_before v changed ≡ keys w.facts
  unfolding facts_before
  facts_before_are = in_order_are_keys key_cmp key_cmp_total key_cmp_same w.facts (lasting ++ changed.went) (kept.in_order).facts held
    where
      lasting : List Key
      lasting = filter (λ k. not (has_come changed k)) (keys v.facts)

      held : (k : Key) → list_any (key_eq k) (lasting ++ changed.went) ≡ holds w k.0 k.1
      held k =
          list_any-append (key_eq k) lasting changed.went
          ∙ (λ j. any_left key_cmp key_cmp_total key_cmp_same v.facts (has_come changed) k j || has_gone k j)
          ∙ was_there (holds v k.0 k.1) (holds w k.0 k.1) (has_come changed k) (λ l. is_new k ∙ came_new (holds v k.0 k.1) (holds w k.0 k.1) l)

  pub shown_before : ((view_before v changed).entities ≡ (view_of w).entities) × ((e : ℕ) → (view_before v changed).ids e ≡ (view_of w).ids e)
  shown_before = (entities_before_are, λ e. ap (filter_map (λ k. if k.0 == e then Some k.1 else None)) facts_before_are)

pub shows_world_before : ShowsWorldBefore
shows_world_before w v c changed kept done = shown_before w v c changed kept done
