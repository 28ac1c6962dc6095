-- The names of entities that died.
use Rattle.std.specs.Prelude.{ℕ, List}
use Rattle.std.specs.String.{string_bytes}
use Rattle.ecs_world.specs.declared.death_names.Kept.{Kept}
use Rattle.ecs_world.specs.declared.death_names.Kept.TheVariants.{Short, Long}

abbrev pub kept_name : {Y : Type 0} → Kept Y → List ℕ
kept_name (Short text) = text.bytes
kept_name (Long text) = string_bytes text
