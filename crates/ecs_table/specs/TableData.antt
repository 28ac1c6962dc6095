-- What a contract sees of the values of a table: the ids with data, and the columns.
use Rattle.std.specs.Prelude.{◌≤◌, ◌<◌, ◌-◌, ◌^◌, List, []}
use Rattle.ecs_id.specs.Id.{Id}
use Rattle.raw_column.specs.Contents.{Contents}
use Rattle.ecs_table.specs.declared.table_data.Stored.{Stored}
use Rattle.ecs_table.specs.declared.table_data.Stored.TheVariants.{Tags, Data}

pub record Values : Type 0 where
  pub ids : List Id
  pub block : Contents

-- tags have no ids with data, and no columns
abbrev pub values_in : {A : Type 0} → Stored A → Values
values_in (Tags places) = record { ids = []; block = record { len = places.len; room = places.capacity - places.len; columns = [] } }
values_in (Data columns) = record { ids = columns.value.ids; block = columns.value.block }

-- there are no more rows than places
abbrev pub IsPlaced : {A : Type 0} → Stored A → Type 0
IsPlaced (Tags places) = (places.len ≤ places.capacity) × (places.capacity < 2 ^ 63)
IsPlaced (Data columns) = Unit {0}
