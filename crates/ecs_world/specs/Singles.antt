-- The facts of a world where one comes or goes alone, or comes in the place of another.
use Rattle.std.specs.Prelude.{ℕ, List, [], ◌∷◌, ℤ}
use Rattle.std.specs.List.{list_any}
use Rattle.ecs_id.specs.Id.{Id}
use Rattle.ecs_model.specs.steps.FactChanges.{with_new}
use Rattle.ecs_model.specs.Map.{Map, with_value, without}
use Rattle.ecs_model.specs.World.{WorldState, Key, key_cmp, key_eq, new_value}

-- with this one, which has a new value if it isn't held yet
abbrev pub with_one : WorldState → ℕ → Id → Map Key (List ℤ)
with_one w e i = with_new w w.facts (e, i)

-- without this one
abbrev pub without_one : WorldState → ℕ → Id → Map Key (List ℤ)
without_one w e i = without key_cmp w.facts (λ k. list_any (key_eq k) ((e, i) ∷ []))

-- without one of an entity's, and with another one, which has a new value
abbrev pub with_one_for : WorldState → ℕ → Id → Id → Map Key (List ℤ)
with_one_for w e old i = with_value key_cmp (without_one w e old) (e, i) (new_value w i)
