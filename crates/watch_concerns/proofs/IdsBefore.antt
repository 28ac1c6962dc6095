-- An entity held an id before exactly where it has gone, or is held and has not come.
use Rattle.std.specs.Prelude.{◌≡◌, ℕ, Bool, true, false, not, ◌&&◌, ◌||◌, List, Option, Some, None, is_some, cond}
use Rattle.std.specs.FinMap.Entries.{is_some-find}
use Rattle.std.specs.List.{list_any}
use Rattle.std.proofs.Common.{refl, sym, ap, ◌∙◌}
use Rattle.ecs_id.specs.Id.{Id, plain}
use Rattle.ecs_model.specs.steps.Outcomes.{differences}
use Rattle.ecs_model.specs.Map.{Map, has_key, keys, value_at, without}
use Rattle.ecs_model.specs.World.{WorldState, Key, holds, key_cmp, key_eq}
use Rattle.ecs_model.specs.rows.Level.{top}
use Rattle.ecs_model.specs.rows.Rows.{is_cut, level_mentions}
use Rattle.ecs_model.specs.rows.View.{view_of}
use Rattle.ecs_model.specs.stored.Watches.{matches_term, observes}
use Rattle.ecs_model.specs.steps.Rules.{prefab, disabled}
use Rattle.ecs_model.proofs.Removals.{value_at-without}
use Rattle.ecs_model.proofs.steps.Facts.{is_held-holds}
use Rattle.query_model.specs.Query.{Query}
use Rattle.watch_concerns.specs.Since.{held_before, is_cut_before, observed_before}

-- a fact is among the keys that one map has and another has not
pub listed-without : {X Y : Type 0} (m : Map Key X) (n : Map Key Y) (k : Key) → list_any (key_eq k) (keys (without key_cmp m (has_key key_cmp n))) ≡ (has_key key_cmp m k && not (has_key key_cmp n k))
listed-without {X = X} m n k =
    sym (is_some-find key_cmp k (without key_cmp m (has_key key_cmp n)))
    ∙ (ap is_some (value_at-without m (has_key key_cmp n) k) ∙ by (has_key key_cmp n k) (value_at key_cmp m k))
  where
    by : (b : Bool) (o : Option X) → is_some (cond (not b) o None) ≡ (is_some o && not b)
    by true None = refl
    by true (Some x) = refl
    by false None = refl
    by false (Some x) = refl

module _ (w v : WorldState) (written : List Key) where
  -- whether a fact has gone, and whether it has come
  pub went_at : (k : Key) → list_any (key_eq k) (differences w v written).went ≡ (holds w k.0 k.1 && not (holds v k.0 k.1))
  unfolding differences
  went_at k = listed-without w.facts v.facts k

  pub came_at : (k : Key) → list_any (key_eq k) (differences w v written).came ≡ (holds v k.0 k.1 && not (holds w k.0 k.1))
  unfolding differences
  came_at k = listed-without v.facts w.facts k

  pub held_before_is : (e : ℕ) (i : Id) → held_before v (differences w v written) e i ≡ holds w e i
  held_before_is e i = (λ j. went_at (e, i) j || (holds v e i && not (came_at (e, i) j))) ∙ by (holds w e i) (holds v e i)
    where
      by : (a b : Bool) → ((a && not b) || (b && not (b && not a))) ≡ a
      by true true = refl
      by true false = refl
      by false true = refl
      by false false = refl

  -- so entities were passed over as they are seen in the world before
  pub is_cut_before_is : (q : Query) (tag e : ℕ) → is_cut_before v (differences w v written) q tag e ≡ is_cut q ((view_of w).ids e) tag
  is_cut_before_is q tag e = ap (λ b. b && not (level_mentions tag (top q))) (held_before_is e (plain tag) ∙ sym (is_held-holds w e (plain tag)))

  -- and observers were notified of facts
  pub observed_before_is : (q : Query) (k : Key) → observed_before v (differences w v written) q k ≡ observes (view_of w) q k
  observed_before_is q k = λ j. matches_term q k.1 && not (is_cut_before_is q prefab k.0 j || is_cut_before_is q disabled k.0 j)
