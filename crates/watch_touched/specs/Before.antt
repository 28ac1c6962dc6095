-- The view that queries had of the world before a command, from the world after it and the changes.
use Rattle.std.specs.Prelude.{ℕ, ◌==◌, Bool, false, not, List, [], ◌++◌, map, filter, filter_map, fold, Some, None, if◌then◌else◌}
use Rattle.std.specs.List.{list_any}
use Rattle.std.specs.Option.{option_map_or}
use Rattle.std.specs.Ordering.{nat_cmp}
use Rattle.std.specs.declared.cmp.Ordering.{Ordering}
use Rattle.ecs_model.specs.steps.Outcomes.{Changed}
use Rattle.ecs_model.specs.Map.{keys}
use Rattle.ecs_model.specs.Sets.{with_member}
use Rattle.ecs_model.specs.World.{WorldState, Key, entities, key_cmp, key_eq}
use Rattle.ecs_model.specs.rows.View.{View, view_of}

-- these in order, each once
abbrev pub in_order : {K : Type 0} → (K → K → Ordering) → List K → List K
in_order R xs = keys (fold (with_member R) [] xs)

module _ (changed : Changed) where
  -- whether the entity at an index was created
  abbrev pub is_born : ℕ → Bool
  is_born i = option_map_or (λ e. e.index == i) changed.born false

  -- whether a fact was added
  abbrev pub has_come : Key → Bool
  has_come k = list_any (key_eq k) changed.came

module _ (after : WorldState) (changed : Changed) where
  -- the entities that lived before: those that live now and weren't created, and those that were deleted
  unfoldable pub entities_before : List ℕ
  entities_before = in_order nat_cmp (filter (λ i. not (is_born changed i)) (entities after) ++ map (λ d. (d.0).index) changed.died)

  -- the facts before: those of now without the added ones, and the removed ones
  unfoldable pub facts_before : List Key
  facts_before = in_order key_cmp (filter (λ k. not (has_come changed k)) (keys after.facts) ++ changed.went)

  -- the view before; values are those of now
  abbrev pub view_before : View
  view_before = record {
    entities = entities_before;
    ids = λ e. filter_map (λ k. if k.0 == e then Some k.1 else None) facts_before;
    value = (view_of after).value;
  }
