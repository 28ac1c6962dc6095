-- The entity born is the one that the command makes.
use Rattle.std.specs.Prelude.{◌≡◌, ℕ, true, List, None}
use Rattle.std.specs.List.{Contains}
use Rattle.std.specs.Option.{option_map_or}
use Rattle.std.specs.Ordering.{nat_cmp}
use Rattle.std.specs.Cmp.{nat_cmp_total}
use Rattle.std.proofs.Common.{refl, ap, ◌∙◌}
use Rattle.ecs_model.specs.steps.Outcomes.{counted, differences, next_entity}
use Rattle.ecs_model.specs.Map.{has_key, keys, value_at, without}
use Rattle.ecs_model.specs.Sets.{Set}
use Rattle.ecs_model.specs.World.{WorldState, Key, is_live, entity_at}
use Rattle.ecs_model.specs.steps.FactChanges.{deleted}
use Rattle.ecs_model.specs.steps.Step.{Command, Fresh, Entity, Component, Add, SetValue, Remove, Delete, effect, without_entities, written_by}
use Rattle.ecs_model.specs.steps.StepLaws.{BornIsMade, made_by}
use Rattle.ecs_model.proofs.NewEntity.{born, none_found, none_born, fresh_born, named_born, component_born}
use Rattle.ecs_model.proofs.steps.Deletions.{nat_value_at-without, was_there}
use Rattle.ecs_model.proofs.steps.Facts.{there_key}
use Rattle.ecs_model.proofs.steps.LivingIds.{all_pass}
use Rattle.ecs_model.proofs.steps.RefusalNumbers.{accepted_step}

-- who is left was live
pub none_born_left : (w : WorldState) (gone : Set ℕ) → born w (counted (without_entities w gone)) ≡ None
unfolding without_entities
none_born_left w gone = ap (λ o. option_map_or (entity_at (counted (without_entities w gone))) o None) (none_found (is_live w) left (all_pass (is_live w) left lived))
  where
    left : List ℕ
    left = keys (without nat_cmp w.live (has_key nat_cmp gone))

    lived : (i : ℕ) → Contains left i → is_live w i ≡ true
    lived i c =
        (was_there (has_key nat_cmp gone i) (value_at nat_cmp (without nat_cmp w.live (has_key nat_cmp gone)) i) (value_at nat_cmp w.live i)
        (nat_value_at-without w.live (has_key nat_cmp gone) i) (there_key nat_cmp nat_cmp_total (without nat_cmp w.live (has_key nat_cmp gone)) i c)).1

pub born_of_effect : (w : WorldState) (c : Command) (written : List Key) → (differences w (counted (effect w c)) written).born ≡ made_by w c
unfolding differences effect
born_of_effect w Fresh written = fresh_born w (next_entity w) refl
born_of_effect w (Entity n) written = named_born w n (next_entity w) refl
born_of_effect w (Component n s) written = component_born w n s (next_entity w) refl
born_of_effect w (Add e i) written = none_born w (counted (effect w (Add e i))) refl
born_of_effect w (SetValue e i vs) written = none_born w (counted (effect w (SetValue e i vs))) refl
born_of_effect w (Remove e i) written = none_born w (counted (effect w (Remove e i))) refl
born_of_effect w (Delete e) written = none_born_left w (deleted w e.index)

pub born_is_made : BornIsMade
born_is_made w v c changed e = ap (λ d. d.born) (accepted_step w v c changed e).2 ∙ born_of_effect w c (written_by c)
