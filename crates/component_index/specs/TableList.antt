-- The tables of one pattern, as a list.
use Rattle.std.specs.Prelude.{◌≡◌, ◌<◌, ◌-◌, ℕ, Bool, true, false, cond, List, length, slice_get, slice_index_or, Option, MatchOption}
use Rattle.std.specs.List.{list_any}
use Rattle.std.specs.Option.{option_map_or}
use Rattle.ecs_id.specs.declared.TableKey.{TableKey}
use Rattle.ecs_id.specs.TableKeys.{table_eq}

-- the list has the table
abbrev pub has : List TableKey → TableKey → Bool
has keys key = list_any (table_eq key) keys

-- the new list has what the old has, but not the table
abbrev pub Loses : List TableKey → List TableKey → TableKey → Type 0
Loses old new key = (k : TableKey) → has new k ≡ cond (table_eq key k) false (has old k)

-- the table stands last
abbrev pub is_last : List TableKey → TableKey → Bool
is_last keys key = option_map_or (table_eq key) (slice_get keys (length keys - 1)) false

-- the list doesn't have the table, or has it last
abbrev pub IsNewOrLast : List TableKey → TableKey → Type 0
IsNewOrLast keys key = has keys key ≡ true → is_last keys key ≡ true

-- the table stands at the place, where there is one, and else nowhere
abbrev pub IsPlace : List TableKey → TableKey → Option ℕ → Type 0
IsPlace keys key place =
    MatchOption place (has keys key ≡ false) (λ i. (i < length keys) × ((d : TableKey) → table_eq key (slice_index_or keys i d) ≡ true))
