-- What a pattern asks of an id.
use Rattle.std.specs.Prelude.{ℕ, ◌+◌, ◌-◌, ◌*◌, ◌^◌, ◌==◌, ◌&&◌, Bool, true, false, Option, Some, None}
use Rattle.std.specs.Option.{option_map_or}
use Rattle.ecs_id.specs.Id.{Id, plain, pair}
use Rattle.id_pattern.specs.declared.Part.{Part}
use Rattle.id_pattern.specs.declared.Part.TheVariants.{Is, Any}
use Rattle.id_pattern.specs.declared.Pattern.{Pattern}

-- the part asks for this index, or for any
abbrev pub takes : Part → ℕ → Bool
takes (Is index) i = i == index
takes Any i = true

abbrev parts_match : Part → Option Part → Id → Bool
parts_match first None (plain c) = takes first c
parts_match first None (pair r t) = false
parts_match first (Some second) (plain c) = false
parts_match first (Some second) (pair r t) = takes first r && takes second t

-- the id is plain where the pattern has one part and a pair where it has two, and each part takes its index
abbrev pub matches : Pattern → Id → Bool
matches pattern id = parts_match pattern.first pattern.second id

-- the pattern matches the id, where there is one
abbrev pub matches_some : Pattern → Option Id → Bool
matches_some pattern id = option_map_or (matches pattern) id false

-- the index that the part asks for, or this number where it asks for any
abbrev pub index_or : Part → ℕ → ℕ
index_or (Is index) any = index
index_or Any any = any

abbrev packed_second : Option Part → ℕ
packed_second None = 0
packed_second (Some part) = index_or part (2 ^ 32 - 1)

-- one number for each pattern of indexes above 0 and below 2 ^ 32 - 1, for a hash
abbrev pub packed : Pattern → ℕ
packed pattern = index_or pattern.first 0 + packed_second pattern.second * 2 ^ 32
