-- Who holds what a pattern matches.
use Rattle.std.specs.Prelude.{ℕ, List, filter, flat_map, Some}
use Rattle.std.specs.List.{list_any}
use Rattle.ecs_id.specs.Id.{Id}
use Rattle.id_pattern.specs.declared.Pattern.{Pattern}
use Rattle.id_pattern.specs.declared.Part.TheVariants.{Is}
use Rattle.id_pattern.specs.Patterns.{matches}
use Rattle.ecs_model.specs.BuiltIns.{on_delete_target, delete_mode}

-- the live entities with an id that the pattern matches
abbrev pub holders : List ℕ → (ℕ → List Id) → Pattern → List ℕ
holders entities ids pattern = filter (λ y. list_any (matches pattern) (ids y)) entities

-- those that hold the pair of a relationship and this target
abbrev pub holders_of_pair : List ℕ → (ℕ → List Id) → ℕ → ℕ → List ℕ
holders_of_pair entities ids t r = holders entities ids (record { first = Is r; second = Some (Is t) })

-- the sources of pairs with this target whose relationship deletes its sources with their targets
abbrev pub sources_falling : List ℕ → (ℕ → List Id) → ℕ → List ℕ
sources_falling entities ids t = flat_map (holders_of_pair entities ids t) (holders_of_pair entities ids delete_mode on_delete_target)
