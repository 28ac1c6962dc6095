-- How far the live indexes reach.
use Rattle.std.specs.Prelude.{◌≡◌, ℕ, ◌+◌, None}
use Rattle.std.specs.List.{last_or}
use Rattle.std.specs.Option.{option_map_or}
use Rattle.ecs_model.specs.Map.{Map, keys}
use Rattle.entity_index.specs.Entities.{Entities, IsWellFormed}

-- the greatest live index plus 1, or 0 where none lives
abbrev pub live_size : Map ℕ ℕ → ℕ
live_size live = option_map_or (λ i. i + 1) (last_or None (keys live)) 0

-- what an index with its size has
pub record IsSized (w : Entities) (size : ℕ) : Type 0 where
  pub well_formed : IsWellFormed w
  pub reach : size ≡ live_size w.live
